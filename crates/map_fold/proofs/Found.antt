-- The nearest live items of a map.
use Rattle.std.proofs.Common.{◌≡◌, ℕ, ◌+◌, ◌≤◌, inl, inr, Bool, true, false, cond, List, [], ◌∷◌, map, refl, sym, ap, ◌∙◌, subst, arith}
use Rattle.std.specs.Prelude.{filter}
use Rattle.std.specs.declared.option.Option.{Option}
use Rattle.point_geom.specs.Place.{Place}
use Rattle.node_labels.specs.Labels.{is_live}
use Rattle.map_fold.specs.declared.hits.Hit.{Hit}
use Rattle.map_items.specs.declared.item.Item.{Item}
use Rattle.map_items.specs.Contents.{IsRising, live_items, Member}
use Rattle.map_fold.specs.Answers.{hit_of, is_within, candidates, nearest}
use Rattle.map_fold.specs.Nearest.{IsHitOf, AreNearest, AreFirst}
use Rattle.map_fold.proofs.FirstOnes.{Apart, first_are}

-- a member of a filtered list is one of the list that passes
pub member-filter : {X : Type 0} (p : X → Bool) (x : X) (xs : List X) → Member x (filter p xs) → Member x xs × (p x ≡ true)
member-filter p x [] m = absurd m
member-filter {X} p x (y ∷ ys) m =
    elim (p y) as (λ b. p y ≡ b → Member x (cond b (y ∷ filter p ys) (filter p ys)) → Member x (y ∷ ys) × (p x ≡ true)) [
      | true ↦ λ e n. elim n [ inl same ↦ (inl same, ap p same ∙ e) | inr later ↦ let q = member-filter p x ys later in (inr q.0, q.1) ]
      | false ↦ λ e n. let q = member-filter p x ys n in (inr q.0, q.1)
    ] refl m

pub member-filter_of : {X : Type 0} (p : X → Bool) (x : X) (xs : List X) → Member x xs → p x ≡ true → Member x (filter p xs)
member-filter_of p x [] m e = m
member-filter_of p x (y ∷ ys) (inl same) e = let f : p y ≡ true = ap p (sym same) ∙ e in rw f (inl same)
member-filter_of p x (y ∷ ys) (inr m) e =
    let later = member-filter_of p x ys m e in
    elim (p y) as (λ b. Member x (cond b (y ∷ filter p ys) (filter p ys))) [ true ↦ inr later | false ↦ later ]

-- a member of a mapped list comes from one of the list
pub record ComesFrom {X Y : Type 0} (f : X → Y) (xs : List X) (y : Y) : Type 0 where
  pub origin : X
  pub member : Member origin xs
  pub is : y ≡ f origin

pub member-map : {X Y : Type 0} (f : X → Y) (y : Y) (xs : List X) → Member y (map f xs) → ComesFrom f xs y
member-map f y [] m = absurd m
member-map f y (x ∷ xs) (inl e) = record { origin = x; member = inl refl; is = e }
member-map f y (x ∷ xs) (inr m) = let c = member-map f y xs m in record { origin = c.origin; member = inr c.member; is = c.is }

pub member-map_of : {X Y : Type 0} (f : X → Y) (x : X) (xs : List X) → Member x xs → Member (f x) (map f xs)
member-map_of f x [] m = m
member-map_of f x (y ∷ ys) (inl e) = inl (ap f e)
member-map_of f x (y ∷ ys) (inr m) = inr (member-map_of f x ys m)

-- the candidates are the hits of live items that are near enough
pub candidate_is : (m : List Item) (q : Place) (r : Option ℕ) (h : Hit) → Member h (candidates m q r) → IsHitOf m q r h
candidate_is m q r h c =
    let f = member-filter (is_within r) h (map (hit_of q) (live_items m)) c in
    let g = member-map (hit_of q) h (live_items m) f.0 in
    record { item = g.origin; live = g.member; shown = g.is; within = f.1 }

pub is_candidate : (m : List Item) (q : Place) (r : Option ℕ) (h : Hit) → IsHitOf m q r h → Member h (candidates m q r)
is_candidate m q r h c =
    let shown : Member h (map (hit_of q) (live_items m)) = subst (λ (w : Hit). Member w (map (hit_of q) (live_items m))) (sym c.shown) (member-map_of (hit_of q) c.item (live_items m) c.live) in
    member-filter_of (is_within r) h (map (hit_of q) (live_items m)) shown c.within

-- no number is below the least
pub item_number : (low : ℕ) (m : List Item) (i : Item) → IsRising low m → Member i m → low ≤ i.number
item_number low [] i h m = absurd m
item_number low (j ∷ m) i h (inl e) = subst (λ (w : Item). low ≤ w.number) (sym e) h.0
item_number low (j ∷ m) i h (inr n) = omega (arith, h.0, item_number (j.number + 1) m i h.1 n)

-- items of one number are one
pub one_number : (low : ℕ) (m : List Item) (i j : Item) → IsRising low m → Member i m → Member j m → i.number ≡ j.number → i ≡ j
one_number low [] i j h m n e = absurd m
one_number low (k ∷ m) i j h (inl e) (inl f) same = e ∙ sym f
one_number low (k ∷ m) i j h (inl e) (inr n) same = absurd (omega (arith, item_number (k.number + 1) m j h.1 n, ap (λ (w : Item). w.number) e))
one_number low (k ∷ m) i j h (inr n) (inl f) same = absurd (omega (arith, item_number (k.number + 1) m i h.1 n, ap (λ (w : Item). w.number) f))
one_number low (k ∷ m) i j h (inr n) (inr o) same = one_number (k.number + 1) m i j h.1 n o same

candidate_number : (low : ℕ) (m : List Item) (q : Place) (r : Option ℕ) (h : Hit) → IsRising low m → Member h (candidates m q r) → low ≤ h.number
candidate_number low m q r h held c =
    let is = candidate_is m q r h c in
    let live = member-filter (λ (i : Item). is_live i.label) is.item m is.live in
    let from = item_number low m is.item held live.0 in
    subst (λ (w : Hit). low ≤ w.number) (sym is.shown) from

-- no two candidates have the same number
pub candidates_apart : (low : ℕ) (m : List Item) (q : Place) (r : Option ℕ) → IsRising low m → Apart (candidates m q r)
candidates_apart low [] q r h = tt
candidates_apart low (i ∷ m) q r h =
    let rest = candidates_apart (i.number + 1) m q r h.1 in
    let new : New = λ g c e. absurd (omega (arith, candidate_number (i.number + 1) m q r g h.1 c)) in
    by_live (is_live i.label) rest new
  where
    New : Type 0
    New = (g : Hit) → Member g (candidates m q r) → g.number ≡ i.number → ⊥

    by_near : (b : Bool) → Apart (candidates m q r) → New → Apart (cond b (hit_of q i ∷ candidates m q r) (candidates m q r))
    by_near true rest new = (new, rest)
    by_near false rest new = rest

    by_live : (b : Bool) → Apart (candidates m q r) → New → Apart (filter (is_within r) (map (hit_of q) (cond b (i ∷ live_items m) (live_items m))))
    by_live true rest new = by_near (is_within r (hit_of q i)) rest new
    by_live false rest new = rest

-- the first k candidates in order are the nearest live items
pub first_nearest : (m : List Item) (k : ℕ) (q : Place) (r : Option ℕ) (hits : List Hit) → AreFirst k (candidates m q r) hits → AreNearest m k q r hits
first_nearest m k q r hits f = record {
  ordered = f.ordered;
  few = f.few;
  found = λ h n. candidate_is m q r h (f.from h n);
  rest = λ h is. f.rest h (is_candidate m q r h is);
}

-- the definition is the order
pub nearest_are : (low : ℕ) (m : List Item) (k : ℕ) (q : Place) (r : Option ℕ) → IsRising low m → AreNearest m k q r (nearest m k q r)
nearest_are low m k q r h = first_nearest m k q r (nearest m k q r) (first_are k (candidates m q r) (candidates_apart low m q r h))
