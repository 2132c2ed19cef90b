use Rattle.std.proofs.Common.{◌≡◌, ◌==◌, count_by, take}
use Rattle.scan_log.proofs.piece.few_of.Given as goal

abbrev pub invariant-loop-other : goal.invariant-loop-other
invariant-loop-other l = l.count ≡ count_by (λ b. b == l.byte) (take l.other-index l.bytes)
