use Rattle.std.proofs.Common.{◌≡◌, get_or, sym, ◌∙◌, subst, rules, Ok, Err}
use Rattle.std.proofs.lemmas.List.{get_or_default}
use Rattle.std.proofs.lemmas.List.Sorted.{answers_always}
use Rattle.map_items.specs.declared.item.Item.{Item}
use Rattle.map_items.specs.Contents.{Member}
use Rattle.map_items.proofs.Same.{item_Decides}
use Rattle.rebuild_parts.proofs.SameItems.{found_is, member_at, searched}
use Rattle.rebuild_parts.proofs.same_items.is_one.Goals as goal

pub returns-in-Err : goal.returns-in-Err
returns-in-Err c =
    let by_number = c.in-Err.ensures.position (λ i. i.number) (answers_always _ _ _ (λ f a r g called. search rules)) in
    let none = searched 4194304 c.args.items.now c.args.item.now (Err c.in-Err.field-0) c.requires c.in-Err.ensures.bound by_number in
    ((λ e. absurd cc), λ there. absurd (none there))

pub returns-in-Ok : goal.returns-in-Ok
returns-in-Ok c =
    let m = c.args.items.now in
    let i = c.args.item.now in
    let place = c.in-Ok.place in
    let x = c.index-items-place.result in
    let by_number = c.in-Ok.ensures.position (λ (j : Item). j.number) (answers_always _ _ _ (λ f a r g called. search rules)) in
    let found = searched 4194304 m i (Ok place) c.requires c.in-Ok.ensures.bound by_number in
    let is : x ≡ get_or m place i = c.index-items-place.is ∙ get_or_default m place x i found.0 in
    let same = item_Decides x i in (
      (λ e. subst (λ (j : Item). Member j m) (sym is ∙ same.0 (sym c.eq.ensures ∙ e)) (member_at m place i found.0)),
      (λ there. c.eq.ensures ∙ same.1 (is ∙ found_is 4194304 m i place c.requires found.0 found.1 there)),
    )
