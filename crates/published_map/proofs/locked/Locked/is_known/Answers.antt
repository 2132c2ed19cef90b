use Rattle.std.proofs.Common.{◌≡◌, List, sym, ◌∙◌, ap, subst}
use Rattle.map_items.specs.declared.item.Item.{Item}
use Rattle.rebuild_core.specs.Lawful.{StateAt, Stored}
use Rattle.kd_update.specs.Detached.{AreItemsOf}
use Rattle.published_map.specs.MarkedSubtrees.{marked_subtree_of}
use Rattle.published_map.proofs.Holding.{true_found}
use Rattle.published_map.proofs.locked.Locked.is_known.Goals as goal

pub returns-in-Some : goal.returns-in-Some
returns-in-Some g c same =
    let s : StateAt = c.self.inside.state.state in
    let found = ap (λ hs. marked_subtree_of c.args.ticket hs) (sym c.as_slice.ensures.value) ∙ sym c.in-Some.ensures in
    let known = true_found s c.args.ticket _ c.in-Some.subtree.now found c.self.invariant.3 in
    let items : c.in-Some.subtree.now.items ≡ c.args.mark.now.items = sym c.mark.ensures ∙ ap (λ page. page.items) (c.is_same.ensures same) in
    subst (λ (z : List Item × Stored). AreItemsOf c.args.ticket z.0 z.1.state.parts) (λ i. (items i, c.self.view_is i)) known
