use Rattle.std.proofs.Common.{◌≡◌, take, length}
use Rattle.map_c.proofs.logging.write_all.Given as goal

abbrev pub invariant-loop-i : goal.invariant-loop-i
invariant-loop-i l = (take l.i l.bytes ≡ take l.i l.part) × (length l.bytes ≡ length l.initial.bytes)
