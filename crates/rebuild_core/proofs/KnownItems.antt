-- Parts whose items somebody knows: no step makes them others.
use Rattle.std.proofs.Common.{◌≡◌, ℕ, ◌<◌, ◌≤◌, List, [], ◌∷◌, ◌++◌, get_or, set, ap, sym, ◌∙◌, arith, subst, Option, Some, None}
use Rattle.std.specs.Prelude.{◌==◌}
use Rattle.std.proofs.lemmas.Bool.{cond_both, eqb-false, eqb-true}
use Rattle.std.proofs.lemmas.List.{get_or_at, set_at}
use Rattle.map_items.specs.declared.item.Item.{Item}
use Rattle.map_items.specs.declared.op.Op.{Op}
use Rattle.rebuild_parts.specs.Built.{JobAt}
use Rattle.rebuild_core.specs.Detach.{IsDetachStep, with_part}
use Rattle.rebuild_core.specs.Lawful.{IsLawful, StateAt}
use Rattle.rebuild_parts.specs.Logs.{LogPlan, planned_parts, relogged, with_log}
use Rattle.kd_update.specs.Detached.{AreItemsOf, HaveOwnTickets, IsNewTicket, IsPlaceOf, PartAt, part_of}
use Rattle.rebuild_core.specs.Steps.{PlannedAt, entered}
use Rattle.rebuild_core.proofs.Detaching.{later_new, part_detached, with_cases}

-- no part has the ticket
pub items_of_new : (ticket : ℕ) (items : List Item) (ps : List PartAt) → IsNewTicket ticket ps → AreItemsOf ticket items ps
items_of_new ticket items [] k = tt
items_of_new ticket items (p ∷ ps) k = ((λ e. absurd (k.0 (sym e))), items_of_new ticket items ps k.1)

-- a ticket above the last one
pub items_of_later : (s : StateAt) (ticket : ℕ) (items : List Item) → IsLawful s → s.last < ticket → AreItemsOf ticket items s.parts
items_of_later s ticket items k later = items_of_new ticket items s.parts (later_new s.settings.large s.next s.last ticket s.tree s.parts later k.parts.each)

-- the part that is found of a ticket
pub items_of_part : (ticket : ℕ) (p : PartAt) (ps : List PartAt) → HaveOwnTickets ps → part_of ticket ps ≡ Some p → AreItemsOf ticket p.items ps
items_of_part ticket p [] own e = absurd cc
items_of_part ticket p (r ∷ ps) own e =
    cond_both (ticket == r.ticket) (Some r) (part_of ticket ps) (λ o. o ≡ Some p → AreItemsOf ticket p.items (r ∷ ps))
    (λ same f.
    let one : r ≡ p = cc in (
      (λ _. ap (λ (x : PartAt). x.items) one),
      items_of_new ticket p.items ps (subst (λ n. IsNewTicket n ps) (sym (eqb-true ticket r.ticket same)) own.0),
    ))
    (λ other f. ((λ same. absurd (eqb-false ticket r.ticket other (sym same))), items_of_part ticket p ps own.1 f)) e

-- and back: the items of the part that is found are those
pub known_part : (ticket : ℕ) (items : List Item) (p : PartAt) (ps : List PartAt) → AreItemsOf ticket items ps → part_of ticket ps ≡ Some p → p.items ≡ items
known_part ticket items p [] k e = absurd cc
known_part ticket items p (r ∷ ps) k e =
    cond_both (ticket == r.ticket) (Some r) (part_of ticket ps) (λ o. o ≡ Some p → p.items ≡ items)
    (λ same f. let one : r ≡ p = cc in ap (λ (x : PartAt). x.items) (sym one) ∙ k.0 (sym (eqb-true ticket r.ticket same)))
    (λ other f. known_part ticket items p ps k.1 f) e

items_of_relogged : (ticket : ℕ) (items : List Item) (x : LogPlan) (ps : List PartAt) → AreItemsOf ticket items ps → AreItemsOf ticket items (relogged x ps)
items_of_relogged ticket items x [] k = tt
items_of_relogged ticket items x (p ∷ ps) k =
    cond_both (x.ticket == p.ticket) (with_log x.log p ++ ps) (p ∷ relogged x ps) (AreItemsOf ticket items) (λ _. by x.log) (λ _. (k.0, items_of_relogged ticket items x ps k.1))
  where
    by : (o : Option (List Op)) → AreItemsOf ticket items (with_log o p ++ ps)
    by None = k.1
    by (Some log) = k

items_of_planned : (ticket : ℕ) (items : List Item) (plans : List LogPlan) (ps : List PartAt) → AreItemsOf ticket items ps → AreItemsOf ticket items (planned_parts plans ps)
items_of_planned ticket items [] ps k = k
items_of_planned ticket items (x ∷ plans) ps k = items_of_planned ticket items plans (relogged x ps) (items_of_relogged ticket items x ps k)

-- the part of the ticket may be put in again with these items
pub held_again : (ticket : ℕ) (items : List Item) (ps : List PartAt) (i : ℕ) (q : PartAt) → AreItemsOf ticket items ps
    → IsPlaceOf ticket i ps → q ≡ get_or ps i q → set ps i (record q { items = items }) ≡ ps
held_again ticket items ps i q known k is =
    let same : q ≡ k.part = is ∙ ap (λ (z : List PartAt). get_or z i q) k.all ∙ get_or_at k.front k.part k.back q i (sym k.place) in
    let held : k.part.items ≡ items = own k.front (subst (AreItemsOf ticket items) k.all known) in
    let put : record q { items = items } ≡ k.part = ap (λ (m : List Item). record q { items = m }) (sym held ∙ ap (λ (p : PartAt). p.items) (sym same)) ∙ same in
    let at : set (k.front ++ k.part ∷ k.back) i (record q { items = items })
    ≡ k.front ++ record q { items = items } ∷ k.back =
    set_at k.front k.part k.back (record q { items = items }) i (sym k.place) in
    ap (λ (z : List PartAt). set z i (record q { items = items })) k.all ∙ at ∙ ap (λ (p : PartAt). k.front ++ p ∷ k.back) put ∙ sym k.all
  where
    own : (front : List PartAt) → AreItemsOf ticket items (front ++ k.part ∷ k.back) → k.part.items ≡ items
    own [] a = a.0 (sym k.is)
    own (p ∷ front) a = own front a.1

-- after a planned step
pub items_of_entered : (ticket : ℕ) (items : List Item) (p : PlannedAt) (s : StateAt) → AreItemsOf ticket items s.parts → AreItemsOf ticket items (entered p s).parts
items_of_entered ticket items p s k = items_of_planned ticket items p.logs s.parts k

-- with one part more, or one again
pub items_of_with : (ticket : ℕ) (items : List Item) (q : PartAt) → (q.ticket ≡ ticket → q.items ≡ items) → (ps : List PartAt) → AreItemsOf ticket items ps → AreItemsOf ticket items (with_part q ps)
items_of_with ticket items q own =
    with_cases (λ ps qs. AreItemsOf ticket items ps → AreItemsOf ticket items qs) q (λ _. (own, tt)) (λ p ps _ k. (own, k.1)) (λ p ps _ k. (own, k)) (λ p ps qs _ f k. (k.0, f k.1))

-- after a subtree was detached, for a ticket that was given before
pub items_of_detached : (slot : ℕ) (s : StateAt) (job : JobAt) (t : StateAt) (ticket : ℕ) (items : List Item)
    → IsDetachStep slot s job t → ticket ≤ s.last → AreItemsOf ticket items s.parts → AreItemsOf ticket items t.parts
items_of_detached slot s job t ticket items d before k =
    subst (λ (x : StateAt). AreItemsOf ticket items x.parts) (sym d.state) (items_of_with ticket items (part_detached slot d.path d.node s) (λ e. absurd (omega (arith, before, e))) s.parts k)

-- and for its own
pub items_of_job : (slot : ℕ) (s : StateAt) (job : JobAt) (t : StateAt) → IsLawful s → IsDetachStep slot s job t → AreItemsOf job.ticket job.items t.parts
items_of_job slot s job t lawful d =
    let later : s.last < job.ticket = omega (arith, d.ticket) in
    let known = items_of_with job.ticket job.items (part_detached slot d.path d.node s) (λ _. sym d.items) s.parts (items_of_later s job.ticket job.items lawful later) in
    subst (λ (x : StateAt). AreItemsOf job.ticket job.items x.parts) (sym d.state) known
