use Rattle.std.proofs.Common.{◌≡◌, List, Some, ap, sym, ◌∙◌, subst}
use Rattle.map_items.specs.declared.item.Item.{Item}
use Rattle.rebuild_core.specs.Lawful.{Stored}
use Rattle.kd_update.specs.Detached.{AreItemsOf, HaveOwnTickets, PartAt, part_of}
use Rattle.rebuild_core.proofs.KnownItems.{items_of_part}
use Rattle.rebuild_core.proofs.state.MapState.part_built.Goals as goal

pub part_known-requires : goal.part_known-requires
part_known-requires c =
    let s = c.args.self.now.state in
    let b = c.args.built.now in
    let p = c.in_ok-part.part.now in
    let ps = c.self.inside.parts.items in
    let own : HaveOwnTickets ps = c.self.invariant.0.parts.tickets in
    let found : part_of b.ticket ps ≡ Some p = ap (λ n. part_of n ps) (sym c.ticket.ensures) ∙ ap (part_of c.ticket.result) (sym c.as_slice.ensures.value) ∙ sym c.in_ok-part.ensures in
    let same : p.items ≡ b.items = ap (λ (x : PartAt). x.items) (sym c.part.view_is) ∙ c.is_of.ensures.0 c.if-not-is_of.false in
    let known : AreItemsOf b.ticket b.items ps = subst (λ (m : List Item). AreItemsOf b.ticket m ps) same (items_of_part b.ticket p ps own found) in
    record { known = subst (AreItemsOf b.ticket b.items) (ap (λ (x : Stored). x.state.parts) c.self.view_is) known }
