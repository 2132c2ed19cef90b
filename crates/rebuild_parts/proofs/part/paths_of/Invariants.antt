use Rattle.std.proofs.Common.{◌≡◌, take}
use Rattle.kd_update.specs.Detached.{paths}
use Rattle.rebuild_parts.proofs.part.paths_of.Given as goal

abbrev pub invariant-loop-part : goal.invariant-loop-part
invariant-loop-part l = l.paths.items ≡ paths (take l.part-index l.parts)
