use Rattle.std.proofs.Common.{[], ◌∷◌, arith}
use Rattle.std.proofs.lemmas.Result.{on_ok_weaker}
use Rattle.kd_search.proofs.First.{first_more, left_behind}
use Rattle.kd_search.proofs.inside.add.Goals as goal

pub returns-then-are_full_to-clause-found : goal.returns-then-are_full_to-clause-found
returns-then-are_full_to-clause-found c =
    left_behind c.args.most c.args.item.now.number c.args.c.now (c.args.item.now ∷ []) c.args.items.now.items
    (rw c.as_slice.ensures.value at (c.are_full_to.ensures c.if-are_full_to.true)) (omega arith, tt)

pub returns-clause-held : goal.returns-clause-held
returns-clause-held c =
    on_ok_weaker c.insert_by_number.result
    (first_more c.args.most (c.args.item.now ∷ []) c.args.items.now.items c.insert_by_number.new.items.items c.requires.held)
    c.insert_by_number.ensures
