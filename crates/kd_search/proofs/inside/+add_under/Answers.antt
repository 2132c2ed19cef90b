use Rattle.std.proofs.Common.{sym, ◌∙◌}
use Rattle.std.proofs.lemmas.Result.{on_ok_weaker}
use Rattle.map_fold.specs.Answers.{inside_all}
use Rattle.kd_search.specs.Pending.{items_of}
use Rattle.kd_search.proofs.Boxed.{inside_missed}
use Rattle.kd_search.proofs.First.{first_same, in_either_turn, left_behind}
use Rattle.kd_search.proofs.inside.+add_under.Goals as goal

pub returns-then-not-meets-clause-found : goal.returns-then-not-meets-clause-found
returns-then-not-meets-clause-found t c =
    first_same c.args.most (inside_all (items_of c.args.part.now) c.args.c.now) c.args.items.now.items c.requires.held
    (inside_missed c.args.c.now c.in-Some.extent (items_of c.args.part.now) c.in-Some.ensures.some (sym c.meets.ensures.value ∙ c.if-not-meets.true))

pub returns-then-are_full_to-clause-found : goal.returns-then-are_full_to-clause-found
returns-then-are_full_to-clause-found t c =
    left_behind c.args.most c.least.result c.args.c.now (items_of c.args.part.now) c.args.items.now.items (rw c.as_slice.ensures.value at (c.are_full_to.ensures c.if-are_full_to.true)) c.least.ensures

pub returns-clause-found : goal.returns-clause-found
returns-clause-found t c =
    let top = c.in-Some-top.top in
    let turn = c.of-turn.result in
    on_ok_weaker c.add.result
    (in_either_turn c.args.most c.args.c.now top.item (items_of turn.first) (items_of turn.second) _ (items_of c.args.part.now) c.args.items.now.items _ _ _
    c.in-Some-top.ensures.some.distinct c.in-Some-top.ensures.some.items c.of-turn.ensures.items c.in_ok-add_under.ensures.found c.in_ok-add_under-2.ensures.found)
    c.add.ensures.found
