use Rattle.std.proofs.Common.{◌≡◌, ◌∙◌}
use Rattle.node_labels.specs.declared.label.Label.TheVariants.{Dropped}
use Rattle.node_labels.proofs.Same.{label_Decides}
use Rattle.rebuild_parts.proofs.SameItems.{own_in}
use Rattle.rebuild_parts.proofs.same_items.is_among.Goals as goal

pub returns : goal.returns
returns c =
    let i = c.args.item.now in
    let left : i.label ≡ Dropped → ⊥ = λ e. let yes = c.eq.ensures ∙ (label_Decides i.label Dropped).1 e in let no = c.if-eq.false in absurd cc in
    let own = own_in i c.args.items.now left in
    ((λ e. own.0 (c.is_one.ensures.0 e)), λ k. c.is_one.ensures.1 (own.1 k))
