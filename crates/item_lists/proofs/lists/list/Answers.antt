use Rattle.std.proofs.Common.{◌≡◌, ap, subst, sym, take, ◌∙◌, ◌++◌, List}
use Rattle.node_labels.specs.Labels.{keep_tag}
use Rattle.map_items.specs.declared.item.Item.{Item}
use Rattle.kd_tree.specs.Walk.{walk}
use Rattle.kd_tree.specs.Contents.{AreDistinct, by_number}
use Rattle.item_lists.specs.Sought.{wanted}
use Rattle.item_lists.proofs.Wanted.{distinct_wanted, wanted-by_number}
use Rattle.item_lists.proofs.lists.list.Goals as goal

pub first_by_number-requires : goal.first_by_number-requires
first_by_number-requires c =
    let t = c.args.tree.now in
    let some : List Item = wanted c.args.from c.args.bound c.args.sought.now (walk keep_tag t) in
    let all : c.gather.new.items.items ≡ some = c.in_ok-gather.ensures ∙ ap (λ (z : List Item). z ++ some) c.new-items.ensures.items in
    record { distinct = subst AreDistinct (sym all) (distinct_wanted c.args.from c.args.bound c.args.sought.now t c.size-size.ensures.sound) }

pub returns : goal.returns
returns c =
    let t = c.args.tree.now in
    let some : List Item = wanted c.args.from c.args.bound c.args.sought.now (walk keep_tag t) in
    let all : c.gather.new.items.items ≡ some = c.in_ok-gather.ensures ∙ ap (λ (z : List Item). z ++ some) c.new-items.ensures.items in
    c.in_ok-page.ensures ∙ ap (λ z. take c.args.most (by_number z)) all ∙ ap (take c.args.most) (wanted-by_number c.args.from c.args.bound c.args.sought.now t)
