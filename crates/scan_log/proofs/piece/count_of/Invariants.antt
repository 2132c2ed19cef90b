use Rattle.std.proofs.Common.{◌≡◌, ◌+◌, ◌==◌, count_by}
use Rattle.std.specs.Slice.Iter.{chunks_rest, chunks_size}
use Rattle.scan_log.proofs.piece.count_of.Given as goal

abbrev pub invariant-loop-part : goal.invariant-loop-part
invariant-loop-part l =
    goal.iterator-loop-part.can_next l.part-iterator
    × goal.iterator-loop-part.is_finite l.part-iterator
    × (chunks_size l.part-iterator ≡ 255)
    × (l.count + count_by (λ b. b == l.byte) (chunks_rest l.part-iterator) ≡ count_by (λ b. b == l.byte) l.bytes)
