-- Holds stay true while a state takes steps.
use Rattle.std.proofs.Common.{◌≡◌, ℕ, ◌+◌, List, [], ◌∷◌, sym, ap, subst, arith, Option, Some}
use Rattle.std.specs.Prelude.{◌==◌}
use Rattle.std.proofs.lemmas.Bool.{cond_both, eqb-true}
use Rattle.map_items.specs.declared.entry.Entry.{Entry}
use Rattle.map_items.specs.declared.item.Item.{Item}
use Rattle.rebuild_parts.specs.Built.{JobAt}
use Rattle.rebuild_core.specs.Detach.{IsDetachStep}
use Rattle.rebuild_core.specs.Lawful.{IsLawful, StateAt}
use Rattle.kd_update.specs.Detached.{AreItemsOf}
use Rattle.rebuild_core.specs.Steps.{PlannedAt, entered}
use Rattle.rebuild_core.proofs.KnownItems.{items_of_detached, items_of_entered, items_of_job}
use Rattle.published_map.specs.Held.{IsWhole}
use Rattle.published_map.specs.MarkedSubtrees.{AreTrueOf, MarkedSubtreeAt, IsTrueOf, marked_subtree_of, with_marked_subtree}

-- a planned step
pub true_entered : (p : PlannedAt) (s : StateAt) (hs : List MarkedSubtreeAt) → AreTrueOf s hs → AreTrueOf (entered p s) hs
true_entered p s [] a = tt
true_entered p s (h ∷ hs) a =
    (record { given = a.0.given; items = items_of_entered h.ticket h.items p s a.0.items }, true_entered p s hs a.1)

pub true_after : (p : PlannedAt) (s t : StateAt) (hs : List MarkedSubtreeAt) → t ≡ entered p s → AreTrueOf s hs → AreTrueOf t hs
true_after p s t hs is a = subst (λ (x : StateAt). AreTrueOf x hs) (sym is) (true_entered p s hs a)

next_ticket : (slot : ℕ) (s : StateAt) (job : JobAt) (t : StateAt) → IsDetachStep slot s job t → t.last ≡ s.last + 1
next_ticket slot s job t d = ap (λ (x : StateAt). x.last) d.state

were_true : (slot : ℕ) (s : StateAt) (job : JobAt) (t : StateAt) (hs : List MarkedSubtreeAt) → IsDetachStep slot s job t → AreTrueOf s hs → AreTrueOf t hs
were_true slot s job t [] d a = tt
were_true slot s job t (h ∷ hs) d a =
    let given = a.0.given in
    let next = next_ticket slot s job t d in (
      record { given = omega (arith, given, next); items = items_of_detached slot s job t h.ticket h.items d given a.0.items },
      were_true slot s job t hs d a.1,
    )

-- detaching
pub true_detached : (slot : ℕ) (s : StateAt) (job : JobAt) (t : StateAt) (hs ks : List MarkedSubtreeAt) → IsDetachStep slot s job t → AreTrueOf s hs → ks ≡ hs → AreTrueOf t ks
true_detached slot s job t hs ks d a same = subst (AreTrueOf t) (sym same) (were_true slot s job t hs d a)

-- what was detached last
pub true_new : (slot : ℕ) (s : StateAt) (job : JobAt) (t : StateAt) (h : MarkedSubtreeAt) → IsLawful s → IsDetachStep slot s job t → h.ticket ≡ job.ticket → h.items ≡ job.items → IsTrueOf t h
true_new slot s job t h lawful d ticket items =
    let next = next_ticket slot s job t d in
    let own = d.ticket in
    let known : AreItemsOf job.ticket job.items t.parts = items_of_job slot s job t lawful d in
    record {
      given = omega (arith, next, own, ticket);
      items = subst (λ (z : ℕ × List Item). AreItemsOf z.0 z.1 t.parts) (λ i. (sym ticket i, sym items i)) known;
    }

with_true : (s : StateAt) (k : MarkedSubtreeAt) (hs : List MarkedSubtreeAt) → IsTrueOf s k → AreTrueOf s hs → AreTrueOf s (with_marked_subtree k hs)
with_true s k [] new a = (new, tt)
with_true s k (h ∷ hs) new a =
    cond_both (k.slot == h.slot) (k ∷ hs) (h ∷ with_marked_subtree k hs) (AreTrueOf s) (λ _. (new, a.1)) (λ _. (a.0, with_true s k hs new a.1))

-- what is marked comes into its slot
pub true_with : (s : StateAt) (k : MarkedSubtreeAt) (hs ks : List MarkedSubtreeAt) → IsTrueOf s k → AreTrueOf s hs → ks ≡ with_marked_subtree k hs → AreTrueOf s ks
true_with s k hs ks new a is = subst (AreTrueOf s) (sym is) (with_true s k hs new a)

some_marked : (a b : MarkedSubtreeAt) → ◌≡◌ {A = Option MarkedSubtreeAt} (Some a) (Some b) → a ≡ b
some_marked a b e = cc

-- what is marked of the ticket has what its part held
pub true_found : (s : StateAt) (ticket : ℕ) (hs : List MarkedSubtreeAt) (h : MarkedSubtreeAt) → marked_subtree_of ticket hs ≡ Some h → AreTrueOf s hs → AreItemsOf ticket h.items s.parts
true_found s ticket [] h e a = absurd cc
true_found s ticket (k ∷ hs) h e a =
    cond_both (ticket == k.ticket) (Some k) (marked_subtree_of ticket hs) (λ o. o ≡ Some h → AreItemsOf ticket h.items s.parts)
    (λ same f. subst (λ (z : ℕ × MarkedSubtreeAt). AreItemsOf z.0 z.1.items s.parts)
    (λ i. (sym (eqb-true ticket k.ticket same) i, some_marked k h f i)) a.0.items)
    (λ _ f. true_found s ticket hs h f a.1) e

-- what lies under the lock is whole still where the history stays
pub whole_after : (known shown h : List Entry) (total parts amount : ℕ) (k : List Entry) → IsWhole known shown h total parts amount → k ≡ h → IsWhole known shown k total parts amount
whole_after known shown h total parts amount k whole same = subst (λ (z : List Entry). IsWhole known shown z total parts amount) (sym same) whole
