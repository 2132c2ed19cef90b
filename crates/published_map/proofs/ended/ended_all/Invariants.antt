use Rattle.std.proofs.Common.{◌≡◌, map, take}
use Rattle.published_map.specs.Ends.{ended_of}
use Rattle.published_map.proofs.ended.ended_all.Given as goal

abbrev pub invariant-loop-pass : goal.invariant-loop-pass
invariant-loop-pass g l = l.all.items ≡ map ended_of (take l.pass-index l.passes)
