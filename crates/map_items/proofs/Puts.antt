-- What one item that is put in changes.
use Rattle.std.proofs.Common.{◌≡◌, ◌≢◌, ℕ, ◌+◌, ◌<◌, ◌≤◌, inl, inr, Bool, true, false, cond, List, [], ◌∷◌, refl, ap, ◌∙◌, arith, nat_eq}
use Rattle.std.specs.Prelude.{filter, ◌==◌}
use Rattle.std.proofs.lemmas.Bool.{cases_order}
use Rattle.std.proofs.lemmas.Bool.Decides.{nat_tests}
use Rattle.std.proofs.lemmas.List.Sums.{sum_by-cons}
use Rattle.point_geom.specs.Place.{Place}
use Rattle.map_items.specs.declared.item.Item.{Item}
use Rattle.map_items.specs.Contents.{AreContents, put, live_at}
use Rattle.map_items.specs.Ops.{IsUnheld}
use Rattle.map_items.proofs.Numbered.{contents_within}

-- behind an item of a lower number
pub put_after : (i : Item) (m : List Item) (n : ℕ) (p : Place) → i.number < n → put (i ∷ m) n p ≡ i ∷ put m n p
put_after i m n p h = grind (arith, nat_tests)

-- in the place of an item of the same number
pub put_over : (i : Item) (m : List Item) (n : ℕ) (p : Place) → i.number ≡ n → put (i ∷ m) n p ≡ live_at n p ∷ m
put_over i m n p h = grind (arith, nat_tests)

-- ahead of an item of a higher number
pub put_ahead : (i : Item) (m : List Item) (n : ℕ) (p : Place) → n < i.number → put (i ∷ m) n p ≡ live_at n p ∷ i ∷ m
put_ahead i m n p h = grind (arith, nat_tests)

-- a number below all goes to the front
pub put_front : (low high n : ℕ) (m : List Item) (p : Place) → n < low → AreContents low high m → put m n p ≡ live_at n p ∷ m
put_front low high n [] p below h = refl
put_front low high n (i ∷ m) p below h = put_ahead i m n p (omega (arith, h.0))

-- after a put of a number between the bounds the items are still what a map may hold
pub contents_put : (low high n : ℕ) (m : List Item) (p : Place) → low ≤ n → n < high → AreContents low high m → AreContents low high (put m n p)
contents_put low high n [] p from below h = (from, below, refl, tt)
contents_put low high n (i ∷ m) p from below h =
    elim (cases_order i.number n) [
      | inl same ↦ rw (put_over i m n p same) (from, below, refl, contents_within (i.number + 1) (n + 1) high high m (omega arith) (omega arith) h.3)
      | inr other ↦ elim other [
        | inl before ↦ rw (put_after i m n p before) (h.0, h.1, h.2, contents_put (i.number + 1) high n m p (omega arith) below h.3)
        | inr after ↦ rw (put_ahead i m n p after) (from, below, refl, (omega arith, h.1, h.2, h.3))
      ]
    ]

-- a number that isn't held is that of no item
pub unheld_parts : (n : ℕ) (i : Item) (m : List Item) → IsUnheld n (i ∷ m) → (i.number ≢ n) × IsUnheld n m
unheld_parts n i m h =
    let f : Item → ℕ = λ j. cond (n == j.number) 1 0 in
    let split = sum_by-cons f i m in
    (λ same. let e : nat_eq n i.number ≡ true = grind (arith, nat_tests) in let here : f i ≡ 1 = rw e refl in absurd (omega (arith, split)), omega (arith, split))

-- one item more that has another number
pub unheld_cons : (n : ℕ) (i : Item) (m : List Item) → i.number ≢ n → IsUnheld n m → IsUnheld n (i ∷ m)
unheld_cons n i m other h =
    let f : Item → ℕ = λ j. cond (n == j.number) 1 0 in
    let e : nat_eq n i.number ≡ false = grind (arith, nat_tests) in
    let here : f i ≡ 0 = rw e refl in
    omega (arith, sum_by-cons f i m)

-- a number that is below all isn't held
pub unheld_below : (low high n : ℕ) (m : List Item) → n < low → AreContents low high m → IsUnheld n m
unheld_below low high n [] below h = refl
unheld_below low high n (i ∷ m) below h = unheld_cons n i m (omega (arith, h.0)) (unheld_below (i.number + 1) high n m (omega (arith, h.0)) h.3)

-- a new item that a test leaves out changes nothing of what the test lets through
pub filter-put_out : (test : Item → Bool) (n : ℕ) (p : Place) (m : List Item) → test (live_at n p) ≡ false → IsUnheld n m → filter test (put m n p) ≡ filter test m
filter-put_out test n p [] out new = rw out refl
filter-put_out test n p (i ∷ m) out new =
    let free = unheld_parts n i m new in
    elim (cases_order i.number n) [
      | inl same ↦ absurd (free.0 same)
      | inr other ↦ elim other [
        | inl before ↦ ap (filter test) (put_after i m n p before) ∙ ap (λ xs. cond (test i) (i ∷ xs) xs) (filter-put_out test n p m out free.1)
        | inr after ↦ ap (filter test) (put_ahead i m n p after) ∙ rw out refl
      ]
    ]

-- nothing is let through, so the first isn't
pub filter_none : {X : Type 0} (test : X → Bool) (x : X) (xs : List X) → filter test (x ∷ xs) ≡ [] → (test x ≡ false) × (filter test xs ≡ [])
filter_none {X} test x xs = elim (test x) as (λ b. ◌≡◌ {A = List X} (cond b (x ∷ filter test xs) (filter test xs)) [] → (b ≡ false) × (filter test xs ≡ [])) [
  | true ↦ λ e. absurd (cc)
  | false ↦ λ e. (refl, e)
]

-- where a test lets nothing through, it lets a new item through alone
pub filter-put_only : (test : Item → Bool) (n : ℕ) (p : Place) (m : List Item) → test (live_at n p) ≡ true → filter test m ≡ [] → IsUnheld n m
    → filter test (put m n p) ≡ live_at n p ∷ []
filter-put_only test n p [] passes none new = rw passes refl
filter-put_only test n p (i ∷ m) passes none new =
    let free = unheld_parts n i m new in
    let rest = filter_none test i m none in
    elim (cases_order i.number n) [
      | inl same ↦ absurd (free.0 same)
      | inr other ↦ elim other [
        | inl before ↦ ap (filter test) (put_after i m n p before) ∙ rw rest.0 (filter-put_only test n p m passes rest.1 free.1)
        | inr after ↦ ap (filter test) (put_ahead i m n p after) ∙ rw (passes, rest.0) (ap (λ xs. live_at n p ∷ xs) rest.1)
      ]
    ]
