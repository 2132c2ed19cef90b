use Rattle.std.proofs.Common.{sym, ap, ◌∙◌, arith, length}
use Rattle.map_fold.specs.Answers.{count}
use Rattle.kd_search.specs.Pending.{items_of}
use Rattle.kd_search.proofs.Walks.{live_few}
use Rattle.kd_search.proofs.Boxed.{inside_missed, inside_covered, count-top}
use Rattle.kd_search.proofs.count.+count_under.Goals as goal

pub returns-then-not-meets-clause-value : goal.returns-then-not-meets-clause-value
returns-then-not-meets-clause-value t c =
    sym (ap length (inside_missed c.args.c.now c.in-Some.extent (items_of c.args.part.now) c.in-Some.ensures.some (sym c.meets.ensures.value ∙ c.if-not-meets.true)))

pub returns-then-covers-clause-value : goal.returns-then-covers-clause-value
returns-then-covers-clause-value t c =
    c.live.ensures ∙ sym (ap length (inside_covered c.args.c.now c.in-Some.extent (items_of c.args.part.now) c.in-Some.ensures.some (sym c.covers.ensures.value ∙ c.if-covers.true)))

pub returns-then-covers-clause-few : goal.returns-then-covers-clause-few
returns-then-covers-clause-few t c = omega (arith, c.live.ensures, live_few c.args.part.now.pending c.args.part.now.tree.now)

pub returns-clause-value : goal.returns-clause-value
returns-clause-value t c =
    let top = c.in-Some-top.top in
    let whole = ap (λ m. count m c.args.c.now) c.in-Some-top.ensures.some.items ∙ count-top c.args.c.now top.item (items_of top.left) (items_of top.right) in
    omega (arith, whole, c.own.ensures.value, c.count_under.ensures.value, c.count_under-2.ensures.value)
