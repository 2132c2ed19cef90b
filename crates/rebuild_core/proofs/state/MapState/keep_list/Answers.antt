use Rattle.std.proofs.Common.{◌≡◌, List, ap, sym, ◌∙◌, subst, get_or, set}
use Rattle.std.proofs.lemmas.List.{get_or_default}
use Rattle.map_items.specs.declared.item.Item.{Item}
use Rattle.rebuild_core.specs.Lawful.{IsLawful, Stored}
use Rattle.kd_update.specs.Detached.{AreItemsOf, IsPlaceOf, PartAt}
use Rattle.rebuild_core.specs.StateView.{spare_of, state_of}
use Rattle.rebuild_core.proofs.KnownItems.{held_again}
use Rattle.rebuild_parts.proofs.PartLogs.{place_below}
use Rattle.rebuild_core.proofs.state.MapState.keep_list.Goals as goal

same_parts : (c : goal.After-self-1)
    → set c.self.inside.parts.items c.in-Some.place (record {
      slot = c.part.inside.slot;
      path = c.part.inside.path;
      ticket = c.part.inside.ticket;
      items = c.replace.new.dest;
      log = c.part.inside.log;
    })
    ≡ c.self.inside.parts.items
same_parts c =
    let ps = c.self.inside.parts.items in
    let place = c.in-Some.place in
    let p = c.part.inside in
    let q : PartAt = record { slot = p.slot; path = p.path; ticket = p.ticket; items = p.held; log = p.log } in
    let stands = subst (IsPlaceOf c.args.ticket place) c.as_slice.ensures.value c.in-Some.ensures.some in
    let is : q ≡ get_or ps place q = c.part.view_is ∙ c.index_mut-part.ensures.value ∙ get_or_default ps place c.index_mut-part.result.now q (place_below c.args.ticket place ps stands) in
    let known = subst (AreItemsOf c.args.ticket c.args.detached_items) (sym (ap (λ (x : Stored). x.state.parts) c.self.view_is)) c.requires.known in
    ap (λ (m : List Item). set ps place (record q { items = m })) c.replace.ensures.after ∙ held_again c.args.ticket c.args.detached_items ps place q known stands is

pub invariant_of-self : goal.invariant_of-self
invariant_of-self c = (subst (λ (ps : List PartAt). IsLawful (record (state_of c.self.inside) { parts = ps })) (sym (same_parts c)) c.self.invariant.0, c.self.invariant.1)

pub returns : goal.returns
returns c = record { same = ap (λ (ps : List PartAt). record { state = record (state_of c.self.inside) { parts = ps }; spare = spare_of c.self.inside }) (same_parts c) ∙ c.self.view_is }
