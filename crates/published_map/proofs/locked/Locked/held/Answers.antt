use Rattle.std.proofs.Common.{◌≡◌, List, sym, ◌∙◌, ap, subst, Option, Some}
use Rattle.std.specs.Prelude.{IfSome}
use Rattle.map_items.specs.declared.item.Item.{Item}
use Rattle.rebuild_core.specs.Lawful.{StateAt}
use Rattle.kd_update.specs.Detached.{PartAt, part_of}
use Rattle.rebuild_core.proofs.KnownItems.{known_part}
use Rattle.published_map.specs.MarkedSubtrees.{marked_subtree_of}
use Rattle.published_map.proofs.Holding.{true_found}
use Rattle.published_map.proofs.locked.Locked.held.Goals as goal

pub returns : goal.returns
returns g c =
    let s : StateAt = c.self.inside.state.state in
    let found = ap (λ hs. marked_subtree_of c.args.ticket hs) (sym c.as_slice.ensures.value) ∙ sym c.in-Some.ensures in
    let known = true_found s c.args.ticket _ c.in-Some.subtree.now found c.self.invariant.3 in
    let part = subst (λ (o : Option (List Item)). IfSome o (λ h. (p : PartAt) × (part_of c.args.ticket s.parts ≡ Some p) × (h ≡ p.items))) c.in-Some-2.is c.in_ok-detached_items.ensures.some in
    let items = known_part c.args.ticket c.in-Some.subtree.now.items part.0 s.parts known part.1 in
    ap (λ page. page.items) c.share.ensures ∙ (c.mark.ensures ∙ sym (part.2 ∙ items))
