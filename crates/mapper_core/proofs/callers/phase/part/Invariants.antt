use Rattle.std.proofs.Common.{◌≡◌, ◌++◌, length}
use Rattle.std.specs.Vec.Iter.{into_iter_items, into_iter_len}
use Rattle.mapper_core.specs.Meetings.{AllParted}
use Rattle.mapper_core.proofs.callers.phase.part.Given as goal

abbrev pub invariant-loop-turn : goal.invariant-loop-turn
invariant-loop-turn g l = (l.yielded ++ into_iter_items l.turn-iterator ≡ into_iter_items l.initial.turn-iterator)
    × AllParted l.yielded l.passes.items l.queues.items
    × (into_iter_len l.turn-iterator ≡ length (into_iter_items l.turn-iterator))
