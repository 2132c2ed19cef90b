use Rattle.std.proofs.Common.{◌≡◌, take}
use Rattle.kd_update.specs.Detached.{watches_of}
use Rattle.rebuild_parts.proofs.part.watched.Given as goal

abbrev pub invariant-loop-part : goal.invariant-loop-part
invariant-loop-part l = l.watches ≡ watches_of (take l.part-index l.parts)
