use Rattle.std.proofs.Common.{sym, ap, ◌∙◌}
use Rattle.published_map.proofs.Hearing.{caught}
use Rattle.published_map.proofs.turn.read_newest.Goals as goal

pub returns-then-is_same-clause-same : goal.returns-then-is_same-clause-same
returns-then-is_same-clause-same g l =
    sym l.mark.ensures ∙ (ap (λ m. m.history) (l.is_same.ensures l.if-is_same.true) ∙ l.mark-in-Some-read_latest.ensures)

pub returns-then-is_same-clause-at : goal.returns-then-is_same-clause-at
returns-then-is_same-clause-at g l = l.in-Some-read_latest.ensures.seen ∙ returns-then-is_same-clause-same g l

pub returns-then-is_same-clause-begins : goal.returns-then-is_same-clause-begins
returns-then-is_same-clause-begins g l = caught _ _ _ _ l.loop.invariant.knows l.read_latest.ensures.keeps (returns-then-is_same-clause-at g l)
