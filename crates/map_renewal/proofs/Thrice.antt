-- The three updates that renew a map.
use Rattle.std.proofs.Common.{◌≡◌, ℕ, ◌+◌, ◌<◌, ◌≤◌, ◌⊎◌, inl, inr, Bool, List, [], ◌∷◌, ◌++◌, All, length, filter, refl, ap, ◌∙◌, subst, arith, true, false, append-nil}
use Rattle.std.specs.List.{AllByRecursion}
use Rattle.std.proofs.lemmas.List.{length-map, length_push}
use Rattle.std.proofs.lemmas.List.Elements.{recursion_from_All, filter-append}
use Rattle.point_geom.specs.Place.{Place, Bounds, IsPlace}
use Rattle.node_labels.specs.Labels.{is_dropped, is_live, is_suspended, suspend_tag}
use Rattle.node_labels.specs.declared.label.Label.{Label}
use Rattle.node_labels.specs.declared.label.Label.TheVariants.{Live, Suspended, Dropped}
use Rattle.map_items.specs.declared.item.Item.{Item}
use Rattle.map_items.specs.declared.update.Update.TheVariants.{Suspend}
use Rattle.map_items.specs.declared.update.Update.{Update}
use Rattle.map_items.specs.Contents.{live_items, suspended_count}
use Rattle.map_items.specs.Fold.{MapAt, add_points, mark_boxes, points_in}
use Rattle.map_items.specs.Sizes.{Sizes}
use Rattle.kd_tree.specs.Shape.{Shape}
use Rattle.kd_tree.specs.Contents.{contents}
use Rattle.kd_tree.specs.Maps.{map_of}
use Rattle.kd_tree.proofs.Held.{contents_kept}
use Rattle.rebuild_parts.specs.History.{entry_by}
use Rattle.rebuild_core.specs.Lawful.{StateAt, new_state}
use Rattle.rebuild_core.specs.Steps.{HasRoom, IsUpdateStep}
use Rattle.map_renewal.specs.Renewed.{IsAdded, all_places, numbered_as, points_of, renewed_items, suspended_items}
use Rattle.map_renewal.proofs.Places.{all_held}
use Rattle.map_renewal.proofs.Puts.{added, hidden, suspended_contents}

-- a map that holds these items, with this next number
abbrev pub Holds : StateAt → List Item → ℕ → Type 0
Holds s m n = map_of s.tree s.next ≡ record { items = m; next = n }

pub after_first : (ps : List Place) (sizes : Sizes) (t : StateAt) → IsAdded ps (new_state sizes) t → Holds t (numbered_as Live 0 ps) (length ps)
after_first ps sizes t step = step.added ∙ added ps 0 [] tt ∙ ap (λ n. record { items = numbered_as Live 0 ps; next = n }) (omega arith)

pub after_second : (ps : List Place) (s t : StateAt) → All IsPlace ps → Holds s (numbered_as Live 0 ps) (length ps)
    → IsUpdateStep 1 (Suspend (all_places ∷ [])) s t → Holds t (numbered_as Suspended 0 ps) (length ps)
after_second ps s t places held step =
    step.stepped ∙ ap (λ m. mark_boxes suspend_tag (all_places ∷ []) m) held ∙ ap (λ m. record { items = m; next = length ps }) (hidden all_places ps 0 (all_held ps places))

pub after_third : (ps qs : List Place) (s t : StateAt) → Holds s (numbered_as Suspended 0 ps) (length ps) → IsAdded qs s t
    → Holds t (numbered_as Suspended 0 ps ++ numbered_as Live (length ps) qs) (length ps + length qs)
after_third ps qs s t held step = step.added ∙ ap (add_points qs) held ∙ added qs (length ps) (numbered_as Suspended 0 ps) (suspended_contents ps 0 0 (length ps) (omega arith) (omega arith))

pub next_of : (s : StateAt) (m : List Item) (n : ℕ) → Holds s m n → s.next ≡ n
next_of s m n h = ap (λ (x : MapAt). x.next) h

longer : (u : Update) (s t : StateAt) → IsUpdateStep 1 u s t → length t.history ≡ length s.history + 1
longer u s t step = ap length step.history ∙ length_push s.history (entry_by 1 u s.history)

-- nothing was submitted to a new state
pub begun : (sizes : Sizes) (s : StateAt) → s ≡ new_state sizes → (s.next ≡ 0) × (length s.history ≡ 0)
begun sizes s e = rw e (refl, refl)

pub first : (ps : List Place) (sizes : Sizes) (s t : StateAt) → s ≡ new_state sizes → IsAdded ps s t → Holds t (numbered_as Live 0 ps) (length ps) × (length t.history ≤ 1)
first ps sizes s t e step =
    let k : IsAdded ps (new_state sizes) t = subst (λ x. IsAdded ps x t) e step in
    (after_first ps sizes t k, omega (arith, k.short))

pub room_next : (u : Update) (s : StateAt) (m : List Item) (n k : ℕ) → Holds s m n → length s.history ≤ k → k < 100 → n + points_in u ≤ 4194304 → HasRoom u s
room_next u s m n k held len lt few = record { updates = omega (arith, len, lt); points = omega (arith, next_of s m n held, few) }

pub second : (ps : List Place) (cs : List Bounds) (s t : StateAt) → cs ≡ all_places ∷ [] → All IsPlace ps
    → Holds s (numbered_as Live 0 ps) (length ps) → length s.history ≤ 1 → IsUpdateStep 1 (Suspend cs) s t
    → Holds t (numbered_as Suspended 0 ps) (length ps) × (length t.history ≤ 2)
second ps cs s t e places held len step =
    (after_second ps s t places held (subst (λ x. IsUpdateStep 1 (Suspend x) s t) e step), omega (arith, longer (Suspend cs) s t step, len))

-- of items of which none is dropped, each is live or suspended
both : (m : List Item) → AllByRecursion (λ i. is_dropped i.label ≡ false) m → length (suspended_items m) + length (live_items m) ≡ length m
both [] k = refl
both (i ∷ m) k =
    elim (either i.label k.0) [
      | inl e ↦ rw (e.0, e.1) (omega (arith, both m k.1))
      | inr e ↦ rw (e.0, e.1) (omega (arith, both m k.1))
    ]
  where
    either : (l : Label) → is_dropped l ≡ false → ((is_live l ≡ true) × (is_suspended l ≡ false)) ⊎ ((is_live l ≡ false) × (is_suspended l ≡ true))
    either Live h = inl (refl, refl)
    either Suspended h = inr (refl, refl)
    either Dropped h = cc

-- so the points of both are as many as the items
pub both_lengths : (t : Shape) → length (points_of (suspended_items (contents t))) + length (points_of (live_items (contents t))) ≡ length (contents t)
both_lengths t =
    let m = contents t in
    omega (
      arith,
      length-map (suspended_items m) (λ (i : Item). i.point),
      length-map (live_items m) (λ (i : Item). i.point),
      both m (recursion_from_All (λ (i : Item). is_dropped i.label ≡ false) m (contents_kept t)),
    )

-- what is held in the end
pub renewed_of : (m : List Item) → numbered_as Suspended 0 (points_of (suspended_items m)) ++ numbered_as Live (length (points_of (suspended_items m))) (points_of (live_items m)) ≡ renewed_items m
renewed_of m = ap (λ n. numbered_as Suspended 0 (points_of (suspended_items m)) ++ numbered_as Live n (points_of (live_items m))) (length-map (suspended_items m) (λ (i : Item). i.point))

points_numbered : (l : Label) (n : ℕ) (ps : List Place) → points_of (numbered_as l n ps) ≡ ps
points_numbered l n [] = refl
points_numbered l n (p ∷ ps) = ap (λ qs. p ∷ qs) (points_numbered l (n + 1) ps)

all_of : (p : Item → Bool) (l : Label) (n : ℕ) (ps : List Place) → ((k : ℕ) (q : Place) → p (record { point = q; number = k; label = l }) ≡ true) → filter p (numbered_as l n ps) ≡ numbered_as l n ps
all_of p l n [] k = refl
all_of p l n (q ∷ ps) k = rw (k n q) (ap (λ x. record { point = q; number = n; label = l } ∷ x) (all_of p l (n + 1) ps k))

none_of : (p : Item → Bool) (l : Label) (n : ℕ) (ps : List Place) → ((k : ℕ) (q : Place) → p (record { point = q; number = k; label = l }) ≡ false) → filter p (numbered_as l n ps) ≡ []
none_of p l n [] k = refl
none_of p l n (q ∷ ps) k = rw (k n q) (none_of p l (n + 1) ps k)

-- the live points are the same
pub live_points : (m : List Item) → points_of (live_items (renewed_items m)) ≡ points_of (live_items m)
live_points m =
    let first = numbered_as Suspended 0 (points_of (suspended_items m)) in
    let second = numbered_as Live (suspended_count m) (points_of (live_items m)) in
    ap points_of
    (filter-append (λ i. is_live i.label) first second
    ∙ ap (λ x. x ++ live_items second) (none_of (λ i. is_live i.label) Suspended 0 (points_of (suspended_items m)) (λ k q. refl))
    ∙ all_of (λ i. is_live i.label) Live (suspended_count m) (points_of (live_items m)) (λ k q. refl))
    ∙ points_numbered Live (suspended_count m) (points_of (live_items m))

-- and so are the suspended ones
pub suspended_points : (m : List Item) → points_of (suspended_items (renewed_items m)) ≡ points_of (suspended_items m)
suspended_points m =
    let first = numbered_as Suspended 0 (points_of (suspended_items m)) in
    let second = numbered_as Live (suspended_count m) (points_of (live_items m)) in
    ap points_of
    (filter-append (λ i. is_suspended i.label) first second
    ∙ ap (λ x. suspended_items first ++ x) (none_of (λ i. is_suspended i.label) Live (suspended_count m) (points_of (live_items m)) (λ k q. refl))
    ∙ append-nil (suspended_items first)
    ∙ all_of (λ i. is_suspended i.label) Suspended 0 (points_of (suspended_items m)) (λ k q. refl))
    ∙ points_numbered Suspended 0 (points_of (suspended_items m))
