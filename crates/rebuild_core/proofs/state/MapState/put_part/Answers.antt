use Rattle.std.proofs.Common.{◌≡◌, ◌+◌, List, ap, ◌∙◌, sym, subst}
use Rattle.map_items.specs.declared.item.Item.{Item}
use Rattle.map_items.specs.declared.op.Op.{Op}
use Rattle.kd_tree.specs.Contents.{contents}
use Rattle.rebuild_core.specs.Detach.{IsDetachable, with_part}
use Rattle.rebuild_core.specs.Lawful.{IsLawful, StateAt, Stored}
use Rattle.kd_update.specs.Detached.{PartAt}
use Rattle.rebuild_core.specs.StateView.{state_of}
use Rattle.rebuild_core.proofs.Detaching.{detached_lawful, part_detached}
use Rattle.rebuild_core.proofs.state.MapState.put_part.Goals as goal

pub invariant_of-self-2 : goal.invariant_of-self-2
invariant_of-self-2 c =
    let s = state_of c.self.inside in
    let path = c.args.path in
    let is : s ≡ c.args.self.now.state = ap (λ (x : Stored). x.state) c.self.view_is in
    let there = subst (λ (x : StateAt). IsDetachable c.args.slot x path (record { ticket = x.last + 1; items = c.args.held })) (sym is) c.requires.there in
    let lawful = detached_lawful c.args.slot s path there.node c.requires.slot.slot_from c.requires.slot.slot_to c.self.invariant.0 there.sound there.chosen there.there in
    let P : List Item → List Op → PartAt = λ items log. record { slot = c.args.slot; path = path; ticket = s.last + 1; items = items; log = log } in
    let made : c.put_in_slot.new.parts.items ≡ with_part (part_detached c.args.slot path there.node s) s.parts =
    c.in_ok-put_in_slot.ensures.ok ∙ ap (λ (xs : List Item). with_part (P xs c.new.result) s.parts) there.items ∙ ap (λ (l : List Op). with_part (P (contents there.node) l) s.parts) c.new.ensures in
    (subst (λ (ps : List PartAt). IsLawful (record s { last = s.last + 1; parts = ps })) (sym made) lawful, c.self.invariant.1)
