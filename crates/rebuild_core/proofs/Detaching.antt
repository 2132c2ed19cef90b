-- Parts that come into a slot.
use Rattle.std.proofs.Common.{◌≡◌, ℕ, ◌+◌, ◌<◌, ◌≤◌, cond, List, [], ◌∷◌, refl, ap, sym, ◌∙◌, arith, subst, inl, inr, Option, Some, None, nat_lt}
use Rattle.std.specs.Prelude.{◌==◌, ◌↔◌, IfSome, IsNone}
use Rattle.std.proofs.lemmas.Bool.{cond_both, eqb-false, eqb-true, ltb-false, ltb-true}
use Rattle.std.proofs.lemmas.List.Elements.{All-nil}
use Rattle.std.proofs.lemmas.Option.{same_Some}
use Rattle.map_items.specs.Contents.{AreContents}
use Rattle.kd_tree.specs.Shape.{Shape, numbers}
use Rattle.kd_tree.specs.Sound.{IsSound}
use Rattle.kd_tree.specs.Contents.{contents}
use Rattle.kd_tree.specs.Parts.{at}
use Rattle.kd_tree.specs.Apart.{AllClearMeetCriteria, AreAllApart, AreApart, IsClear, IsFirstFree}
use Rattle.kd_tree.specs.declared.path.Side.{Side}
use Rattle.kd_tree.proofs.Held.{are_contents}
use Rattle.kd_mark.specs.Watch.{IsLargeAt}
use Rattle.rebuild_core.specs.Detach.{IsDetachedAt, IsNoneToDetach, with_part}
use Rattle.rebuild_core.specs.Lawful.{IsLawful, StateAt}
use Rattle.kd_update.specs.Detached.{AreEachLawful, AreInSlots, HaveOwnTickets, IsLawfulPart, IsNewTicket, PartAt, part_in, paths}
use Rattle.kd_update.proofs.ApartPaths.{AreOnesOf, IsOneOf, apart_sym, balanced_more}
use Rattle.map_update.proofs.Detached.{each_more}
use Rattle.map_update.proofs.Drafts.{among_below}
use Rattle.map_update.proofs.Working.{at_numbers}

-- the part in a slot

-- it is one of the parts
in_lawful : (large next last : ℕ) (t : Shape) (slot : ℕ) (ps : List PartAt) (p : PartAt) → part_in slot ps ≡ Some p → AreEachLawful large next last t ps → IsLawfulPart large next last t p
in_lawful large next last t slot [] p e k = absurd cc
in_lawful large next last t slot (r ∷ ps) p e k =
    cond_both (slot == r.slot) (Some r) (part_in slot ps) (λ o. o ≡ Some p → IsLawfulPart large next last t p)
    (λ _ f. subst (IsLawfulPart large next last t) (same_Some r p f) k.0)
    (λ _ f. in_lawful large next last t slot ps p f k.1) e

in_clear : (path : List Side) (slot : ℕ) (ps : List PartAt) (p : PartAt) → part_in slot ps ≡ Some p → IsClear path (paths ps) → AreApart path p.path
in_clear path slot [] p e k = absurd cc
in_clear path slot (r ∷ ps) p e k =
    cond_both (slot == r.slot) (Some r) (part_in slot ps) (λ o. o ≡ Some p → AreApart path p.path)
    (λ _ f. subst (λ (x : PartAt). AreApart path x.path) (same_Some r p f) k.0)
    (λ _ f. in_clear path slot ps p f k.1) e

-- whether a part of the slot fits next to the parts: it is where the slot's part is, and apart from the others
abbrev FitsBeside : PartAt → List PartAt → Type 0
FitsBeside q [] = Unit {0}
FitsBeside q (p ∷ ps) = (q.slot ≡ p.slot → q.path ≡ p.path) × ((q.slot ≡ p.slot → ⊥) → AreApart q.path p.path) × FitsBeside q ps

fits_new : (q : PartAt) (ps : List PartAt) → part_in q.slot ps ≡ None → IsClear q.path (paths ps) → FitsBeside q ps
fits_new q [] e k = tt
fits_new q (p ∷ ps) e k =
    cond_both (q.slot == p.slot) (Some p) (part_in q.slot ps) (λ o. o ≡ None → FitsBeside q (p ∷ ps)) (λ _ f. absurd cc)
    (λ other f. ((λ same. absurd (eqb-false q.slot p.slot other same)), (λ _. k.0), fits_new q ps f k.1)) e

fits_above : (q : PartAt) (from : ℕ) (ps : List PartAt) → q.slot < from → AreInSlots from ps → IsClear q.path (paths ps) → FitsBeside q ps
fits_above q from [] low s k = tt
fits_above q from (p ∷ ps) low s k = ((λ same. absurd (omega (arith, low, s.0, same))), (λ _. k.0), fits_above q (p.slot + 1) ps (omega (arith, low, s.0)) s.2 k.1)

fits_old : (q : PartAt) (from : ℕ) (ps : List PartAt) (p : PartAt) → part_in q.slot ps ≡ Some p → q.path ≡ p.path → AreInSlots from ps → AreAllApart (paths ps) → FitsBeside q ps
fits_old q from [] p e path s k = absurd cc
fits_old q from (r ∷ ps) p e path s k =
    cond_both (q.slot == r.slot) (Some r) (part_in q.slot ps) (λ o. o ≡ Some p → FitsBeside q (r ∷ ps))
    (λ same f.
    let here : q.path ≡ r.path = path ∙ ap (λ (x : PartAt). x.path) (sym (same_Some r p f)) in
    let slot = eqb-true q.slot r.slot same in (
      (λ _. here),
      (λ other. absurd (other slot)),
      fits_above q (r.slot + 1) ps (omega (arith, slot)) s.2 (subst (λ (x : List Side). IsClear x (paths ps)) (sym here) k.0),
    ))
    (λ other f. (
      (λ same. absurd (eqb-false q.slot r.slot other same)),
      (λ _. apart_sym r.path q.path (subst (AreApart r.path) (sym path) (in_clear r.path q.slot ps p f k.0))),
      fits_old q (r.slot + 1) ps p f path s.2 k.1,
    )) e

-- with a part in its slot

-- what holds of parts, and of them with the part in its slot, by cases
pub with_cases : (P : List PartAt → List PartAt → Type 0) (q : PartAt) → P [] (q ∷ [])
    → ((p : PartAt) (ps : List PartAt) → q.slot ≡ p.slot → P (p ∷ ps) (q ∷ ps))
    → ((p : PartAt) (ps : List PartAt) → q.slot < p.slot → P (p ∷ ps) (q ∷ p ∷ ps))
    → ((p : PartAt) (ps qs : List PartAt) → p.slot < q.slot → P ps qs → P (p ∷ ps) (p ∷ qs)) → (ps : List PartAt) → P ps (with_part q ps)
with_cases P q none same before after [] = none
with_cases P q none same before after (p ∷ ps) =
    let rest = with_cases P q none same before after ps in
    cond_both (q.slot == p.slot) (q ∷ ps) (cond (nat_lt q.slot p.slot) (q ∷ p ∷ ps) (p ∷ with_part q ps)) (P (p ∷ ps)) (λ e. same p ps (eqb-true q.slot p.slot e))
    (λ e.
    let other = eqb-false q.slot p.slot e in
    cond_both (nat_lt q.slot p.slot) (q ∷ p ∷ ps) (p ∷ with_part q ps) (P (p ∷ ps))
    (λ l. before p ps (ltb-true q.slot p.slot l))
    (λ l. let le = ltb-false q.slot p.slot l in after p ps (with_part q ps) (less p.slot q.slot le other) rest))
  where
    less : (a b : ℕ) → a ≤ b → (b ≡ a → ⊥) → a < b
    less a b le ne = omega (arith, le, ne)

each_with : (large next last : ℕ) (t : Shape) (q : PartAt) → IsLawfulPart large next last t q → (ps : List PartAt)
    → AreEachLawful large next last t ps → AreEachLawful large next last t (with_part q ps)
each_with large next last t q k =
    with_cases (λ ps qs. AreEachLawful large next last t ps → AreEachLawful large next last t qs) q (λ _. (k, tt)) (λ p ps _ l. (k, l.1)) (λ p ps _ l. (k, l)) (λ p ps qs _ f l. (l.0, f l.1))

slots_with : (q : PartAt) → q.slot ≤ 4 → (ps : List PartAt) (from : ℕ) → from ≤ q.slot → AreInSlots from ps → AreInSlots from (with_part q ps)
slots_with q high =
    with_cases (λ ps qs. (from : ℕ) → from ≤ q.slot → AreInSlots from ps → AreInSlots from qs) q
    (λ from low s. (low, high, tt))
    (λ p ps e from low s. (low, high, subst (λ (n : ℕ). AreInSlots (n + 1) ps) (sym e) s.2))
    (λ p ps less from low s. (low, high, (omega (arith, less), s.1, s.2))) (λ p ps qs less f from low s. (s.0, s.1, f (p.slot + 1) (omega (arith, less)) s.2))

new_with : (ticket : ℕ) (q : PartAt) → (ticket ≡ q.ticket → ⊥) → (ps : List PartAt) → IsNewTicket ticket ps → IsNewTicket ticket (with_part q ps)
new_with ticket q other =
    with_cases (λ ps qs. IsNewTicket ticket ps → IsNewTicket ticket qs) q (λ _. (other, tt)) (λ p ps _ k. (other, k.1)) (λ p ps _ k. (other, k)) (λ p ps qs _ f k. (k.0, f k.1))

tickets_with : (q : PartAt) (ps : List PartAt) → IsNewTicket q.ticket ps → HaveOwnTickets ps → HaveOwnTickets (with_part q ps)
tickets_with q [] new own = (tt, tt)
tickets_with q (p ∷ ps) new own =
    let rest = tickets_with q ps new.1 own.1 in
    cond_both (q.slot == p.slot) (q ∷ ps) (cond (nat_lt q.slot p.slot) (q ∷ p ∷ ps) (p ∷ with_part q ps)) HaveOwnTickets (λ _. (new.1, own.1))
    (λ _. cond_both (nat_lt q.slot p.slot) (q ∷ p ∷ ps) (p ∷ with_part q ps) HaveOwnTickets (λ _. (new, own)) (λ _. (new_with p.ticket q (λ e. new.0 (sym e)) ps own.0, rest)))

clear_with : (path : List Side) (q : PartAt) → AreApart path q.path → (ps : List PartAt) → IsClear path (paths ps) → IsClear path (paths (with_part q ps))
clear_with path q apart =
    with_cases (λ ps qs. IsClear path (paths ps) → IsClear path (paths qs)) q (λ _. (apart, tt)) (λ p ps _ k. (apart, k.1)) (λ p ps _ k. (apart, k)) (λ p ps qs _ f k. (k.0, f k.1))

-- a part below all slots that fits next to them is clear of them
clear_beside : (q : PartAt) (from : ℕ) (ps : List PartAt) → q.slot < from → AreInSlots from ps → FitsBeside q ps → IsClear q.path (paths ps)
clear_beside q from [] low s k = tt
clear_beside q from (p ∷ ps) low s k = (k.1 (λ same. omega (arith, low, s.0, same)), clear_beside q (p.slot + 1) ps (omega (arith, low, s.0)) s.2 k.2)

apart_with : (q : PartAt) (from : ℕ) (ps : List PartAt) → AreInSlots from ps → FitsBeside q ps → AreAllApart (paths ps) → AreAllApart (paths (with_part q ps))
apart_with q from [] s k apart = (tt, tt)
apart_with q from (p ∷ ps) s k apart =
    let rest = apart_with q (p.slot + 1) ps s.2 k.2 apart.1 in
    cond_both (q.slot == p.slot) (q ∷ ps) (cond (nat_lt q.slot p.slot) (q ∷ p ∷ ps) (p ∷ with_part q ps)) (λ qs. AreAllApart (paths qs))
    (λ e. let same = eqb-true q.slot p.slot e in (clear_beside q (p.slot + 1) ps (omega (arith, same)) s.2 k.2, apart.1))
    (λ e.
    let other = eqb-false q.slot p.slot e in
    cond_both (nat_lt q.slot p.slot) (q ∷ p ∷ ps) (p ∷ with_part q ps) (λ qs. AreAllApart (paths qs))
    (λ l. let less = ltb-true q.slot p.slot l in
    ((k.1 other, clear_beside q (p.slot + 1) ps (omega (arith, less)) s.2 k.2), apart))
    (λ l. (clear_with p.path q (apart_sym q.path p.path (k.1 other)) ps apart.0, rest)))

-- each path is still there
ones_with : (q : PartAt) (ps : List PartAt) → FitsBeside q ps → AreOnesOf (paths ps) (paths (with_part q ps))
ones_with q [] k r m = absurd m
ones_with q (p ∷ ps) k r m =
    let rest = ones_with q ps k.2 r in
    cond_both (q.slot == p.slot) (q ∷ ps) (cond (nat_lt q.slot p.slot) (q ∷ p ∷ ps) (p ∷ with_part q ps)) (λ qs. IsOneOf r (paths qs))
    (λ e. elim m [ inl here ↦ inl (here ∙ sym (k.0 (eqb-true q.slot p.slot e))) | inr later ↦ inr later ])
    (λ _. cond_both (nat_lt q.slot p.slot) (q ∷ p ∷ ps) (p ∷ with_part q ps) (λ qs. IsOneOf r (paths qs)) (λ _. inr m) (λ _. elim m [ inl here ↦ inl here | inr later ↦ inr (rest later) ]))

-- a state with one subtree more, or one again

-- where a subtree is detached, there is a large one
pub detach_large : (slot : ℕ) (s : StateAt) (path : List Side) → IsLawful s → IsDetachedAt (part_in slot s.parts) s path → IsLargeAt s.settings.large path s.tree
detach_large slot s path k d = by (part_in slot s.parts) refl d
  where
    by : (o : Option PartAt) → part_in slot s.parts ≡ o → IsDetachedAt o s path → IsLargeAt s.settings.large path s.tree
    by (Some p) e d = subst (λ (q : List Side). IsLargeAt s.settings.large q s.tree) (sym d) (in_lawful s.settings.large s.next s.last s.tree slot s.parts p e k.parts.each).there
    by None e d = record { node = d.node; there = d.there; size = d.large }

-- the part that is detached
abbrev pub part_detached : ℕ → List Side → Shape → StateAt → PartAt
part_detached slot path node s = record { slot = slot; path = path; ticket = s.last + 1; items = contents node; log = [] }

detach_fits : (slot : ℕ) (s : StateAt) (path : List Side) (node : Shape) → IsLawful s → IsDetachedAt (part_in slot s.parts) s path → FitsBeside (part_detached slot path node s) s.parts
detach_fits slot s path node k d = by (part_in slot s.parts) refl d
  where
    by : (o : Option PartAt) → part_in slot s.parts ≡ o → IsDetachedAt o s path → FitsBeside (part_detached slot path node s) s.parts
    by (Some p) e d = fits_old (part_detached slot path node s) 1 s.parts p e d k.parts.slots k.parts.apart
    by None e d = fits_new (part_detached slot path node s) s.parts e d.clear

-- a ticket above the last one is new
pub later_new : (large next last ticket : ℕ) (t : Shape) (ps : List PartAt) → last < ticket → AreEachLawful large next last t ps → IsNewTicket ticket ps
later_new large next last ticket t [] above k = tt
later_new large next last ticket t (p ∷ ps) above k = (later p.ticket k.0.ticket_to, later_new large next last ticket t ps above k.1)
  where
    later : (n : ℕ) → n ≤ last → ticket ≡ n → ⊥
    later n le e = omega (arith, le, above, e)

-- what the subtree holds by itself
pub detach_items : (s : StateAt) (path : List Side) (node : Shape) → IsLawful s → IsSound node → at path s.tree ≡ Some node → AreContents 0 s.next (contents node)
detach_items s path node k sound there = are_contents s.next node sound (among_below s.next (numbers node) (numbers s.tree) (at_numbers path s.tree node there) k.below)

pub detached_lawful : (slot : ℕ) (s : StateAt) (path : List Side) (node : Shape) → 1 ≤ slot → slot ≤ 4 → IsLawful s
    → IsSound node → IsDetachedAt (part_in slot s.parts) s path → at path s.tree ≡ Some node
    → IsLawful (record s { last = s.last + 1; parts = with_part (part_detached slot path node s) s.parts })
detached_lawful slot s path node from to k sound chosen there =
    let q = part_detached slot path node s in
    let large = detach_large slot s path k chosen in
    let fits = detach_fits slot s path node k chosen in
    let same : large.node ≡ node = same_Some large.node node (sym large.there ∙ there) in
    let part : IsLawfulPart s.settings.large s.next (s.last + 1) s.tree q = record {
      there = large;
      few = omega arith;
      items = detach_items s path node k sound there;
      fit = tt;
      below = All-nil (λ n. n < s.next);
      replayed = ap contents same;
      ticket_from = omega arith;
      ticket_to = omega arith;
    } in
    record {
      sizes = k.sizes;
      sound = k.sound;
      folded = k.folded;
      few = k.few;
      below = k.below;
      short = k.short;
      entries = k.entries;
      parts = record {
        each =
            each_with s.settings.large s.next (s.last + 1) s.tree q part s.parts
            (each_more s.settings.large s.next s.next s.last (s.last + 1) s.tree s.parts (omega arith) (omega arith)
            k.parts.each);
        apart = apart_with q 1 s.parts k.parts.slots fits k.parts.apart;
        slots = slots_with q to s.parts 1 from k.parts.slots;
        tickets = tickets_with q s.parts (later_new s.settings.large s.next s.last (s.last + 1) s.tree s.parts (omega arith) k.parts.each) k.parts.tickets;
      };
      balanced = balanced_more s.settings.large (paths s.parts) (paths (with_part q s.parts)) s.tree (ones_with q s.parts fits) k.balanced;
      shown = k.shown;
      shown_next = k.shown_next;
      shown_len = k.shown_len;
    }

-- where there is no part in the slot, what is known of the nodes that are clear of the parts

pub none_free : (s : StateAt) (large : ℕ) (qs : List (List Side)) (t : Shape) (o : Option (List Side)) (q : Option PartAt) → q ≡ None → large ≡ s.settings.large → qs ≡ paths s.parts → t ≡ s.tree
    → (IsNone o ↔ AllClearMeetCriteria large qs t) → IsNone o ↔ IsNoneToDetach q s
none_free s large qs t o q none same at is k =
    let here = subst (λ (n : ℕ). IsNone o ↔ AllClearMeetCriteria n qs t) same k in
    let clear = subst (λ (ps : List (List Side)). IsNone o ↔ AllClearMeetCriteria s.settings.large ps t) at here in
    let whole = subst (λ (x : Shape). IsNone o ↔ AllClearMeetCriteria s.settings.large (paths s.parts) x) is clear in
    subst (λ (x : Option PartAt). IsNone o ↔ IsNoneToDetach x s) (sym none) whole

pub first_free_path : (s : StateAt) (large : ℕ) (qs : List (List Side)) (t : Shape) (o : Option (List Side)) (q : Option PartAt) → q ≡ None → large ≡ s.settings.large → qs ≡ paths s.parts → t ≡ s.tree
    → IfSome o (IsFirstFree large qs t) → IfSome o (IsDetachedAt q s)
first_free_path s large qs t o q none same at is k =
    let here = subst (λ (n : ℕ). IfSome o (IsFirstFree n qs t)) same k in
    let clear = subst (λ (ps : List (List Side)). IfSome o (IsFirstFree s.settings.large ps t)) at here in
    let whole = subst (λ (x : Shape). IfSome o (IsFirstFree s.settings.large (paths s.parts) x)) is clear in
    subst (λ (x : Option PartAt). IfSome o (IsDetachedAt x s)) (sym none) whole
