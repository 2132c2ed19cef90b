use Rattle.std.proofs.Common.{◌≡◌, arith, sym, ◌∙◌, subst, []}
use Rattle.std.specs.Prelude.{IfSome, IsNone, ◌↔◌}
use Rattle.std.specs.declared.option.Option.{Option}
use Rattle.node_labels.specs.Labels.{keep_tag}
use Rattle.map_items.specs.declared.item.Item.{Item}
use Rattle.map_fold.specs.Answers.{inside_all}
use Rattle.kd_tree.specs.Walk.{walk}
use Rattle.kd_tree.specs.Contents.{contents}
use Rattle.kd_search.specs.Best.{best_inside, IsBest}
use Rattle.kd_search.proofs.Boxed.{count-by_number}
use Rattle.kd_search.proofs.Others.{walk_distinct}
use Rattle.kd_search.proofs.Least.{best-by_number, best_from-none, best_is, best_none}
use Rattle.kd_search.proofs.rivals.rivals_in.Goals as goal
use Rattle.kd_search.proofs.rivals.rivals_in.Goals.{After-add_from}

best : (c : After-add_from) → c.add_from.new.found.best ≡ best_inside (contents c.args.tree.now) c.args.c.now
best c =
    let items = walk keep_tag c.args.tree.now in
    c.add_from.ensures.best ∙ best_from-none c.args.c.now (inside_all items c.args.c.now) ∙ sym (best-by_number c.args.c.now items (walk_distinct keep_tag c.args.tree.now c.size-size.ensures.sound))

pub returns-clause-best : goal.returns-clause-best
returns-clause-best c = best c

pub returns-clause-count : goal.returns-clause-count
returns-clause-count c = omega (arith, c.add_from.ensures.count, count-by_number c.args.c.now (walk keep_tag c.args.tree.now))

pub returns-clause-none : goal.returns-clause-none
returns-clause-none c =
    let P : Option Item → Type 0 = λ o. IsNone o ↔ (inside_all (contents c.args.tree.now) c.args.c.now ≡ []) in
    subst P (sym (best c)) (best_none (contents c.args.tree.now) c.args.c.now)

pub returns-clause-first : goal.returns-clause-first
returns-clause-first c =
    let P : Option Item → Type 0 = λ o. IfSome o (IsBest (contents c.args.tree.now) c.args.c.now) in
    subst P (sym (best c)) (best_is (contents c.args.tree.now) c.args.c.now)
