-- Items parted by number.
use Rattle.std.proofs.Common.{◌≡◌, ℕ, ◌+◌, ◌<◌, ◌≤◌, inl, inr, false, cond, List, [], ◌∷◌, ◌++◌, All, IsPermutation, count_by, length, take, refl, ap, sym, ◌∙◌, subst, arith, ◌==◌}
use Rattle.std.specs.Ordering.{is_lt, nat_cmp}
use Rattle.std.proofs.Math.Seq.{take-append_seam}
use Rattle.std.proofs.lemmas.Bool.Decides.{nat_tests}
use Rattle.std.proofs.lemmas.List.Sorted.{IsPermutation-append, IsPermutation-trans, length_permutation}
use Rattle.std.proofs.lemmas.List.Sums.{sum_by-append}
use Rattle.map_items.specs.declared.item.Item.{Item}
use Rattle.map_items.specs.Contents.{Member}
use Rattle.kd_tree.specs.Contents.{AreDistinct, by_number}
use Rattle.kd_tree.proofs.Numbered.{Above, Rises, by_number-moved, by_number_moves, by_number_rises, by_number_rising, counted_in, member_of, numbered_from, once_moved}
use Rattle.item_lists.specs.Page.{IsFront}

above_all : (n : ℕ) (m : List Item) → ((w : Item) → Member w m → n < w.number) → Above n m
above_all n [] k = tt
above_all n (i ∷ m) k = (k i (inl refl), above_all n m (λ w h. k w (inr h)))

above_append : (n : ℕ) (a b : List Item) → Above n a → Above n b → Above n (a ++ b)
above_append n [] b h k = k
above_append n (i ∷ a) b h k = (h.0, above_append n a b h.1 k)

rises_append : (a b : List Item) → Rises a → Rises b → ((z w : Item) → Member z a → Member w b → z.number < w.number) → Rises (a ++ b)
rises_append [] b h k lt = k
rises_append (i ∷ a) b h k lt = (above_append i.number a b h.0 (above_all i.number b (λ w m. lt i w (inl refl) m)), rises_append a b h.1 k (λ z w m n. lt z w (inr m) n))

counts : (n : ℕ) (a b : List Item) → count_by (λ i. n == i.number) (a ++ b) ≡ count_by (λ i. n == i.number) a + count_by (λ i. n == i.number) b
counts n a b = sum_by-append (λ (i : Item). cond (n == i.number) 1 0) a b

distinct_left : (a b : List Item) → AreDistinct (a ++ b) → AreDistinct a
distinct_left a b k = record { once = λ n. omega (arith, k.once n, counts n a b) }

distinct_right : (a b : List Item) → AreDistinct (a ++ b) → AreDistinct b
distinct_right a b k = record { once = λ n. omega (arith, k.once n, counts n a b) }

other_number : (a b : List Item) → AreDistinct (a ++ b) → (z w : Item) → Member z a → Member w b → z.number ≡ w.number → ⊥
other_number a b k z w m n e = absurd (over _ _ (counted_in z z.number a m refl) (counted_in w z.number b n (sym e)) (omega (arith, k.once z.number, counts z.number a b)))
  where
    over : (x y : ℕ) → 1 ≤ x → 1 ≤ y → x + y ≤ 1 → ⊥
    over x y h i j = omega (arith, h, i, j)

no_more : (x y : ℕ) → is_lt (nat_cmp x y) ≡ false → y ≤ x
no_more x y h = grind (arith, nat_tests, h)

-- one list by number, and then another whose numbers are all greater
in_two : (xs a b : List Item) → IsPermutation xs (a ++ b) → AreDistinct xs → ((z w : Item) → Member z a → Member w b → z.number < w.number)
    → by_number xs ≡ by_number a ++ by_number b
in_two xs a b same once lt =
    let moved : IsPermutation xs (by_number a ++ by_number b) =
    IsPermutation-trans xs (a ++ b) _ same (IsPermutation-append a (by_number a) b (by_number b) (by_number_moves a) (by_number_moves b)) in
    let apart = once_moved xs (a ++ b) same once in
    let rises = rises_append (by_number a) (by_number b) (by_number_rises a (distinct_left a b apart)) (by_number_rises b (distinct_right a b apart))
    (λ z w m n. lt z w (numbered_from z a m) (numbered_from w b n)) in
    by_number-moved xs (by_number a ++ by_number b) moved once ∙ by_number_rising (by_number a ++ by_number b) rises

less : (f : List Item) (x : Item) (b : List Item) → AreDistinct (f ++ x ∷ b) → All (λ i. is_lt (nat_cmp x.number i.number) ≡ false) f → All (λ i. is_lt (nat_cmp i.number x.number) ≡ false) b
    → (z w : Item) → Member z f → Member w (x ∷ b) → z.number < w.number
less f x b apart before after z w m n =
    let low : z.number ≤ x.number = no_more x.number z.number (member_of (λ (i : Item). is_lt (nat_cmp x.number i.number) ≡ false) z f before m) in
    let other : z.number ≡ x.number → ⊥ = other_number f (x ∷ b) apart z x m (inl refl) in
    let under : z.number < x.number = strict z.number x.number low other in
    elim n [
      | inl e ↦ subst (λ (i : Item). z.number < i.number) (sym e) under
      | inr h ↦ omega (arith, under, no_more w.number x.number (member_of (λ (i : Item). is_lt (nat_cmp i.number x.number) ≡ false) w b after h))
    ]
  where
    strict : (u v : ℕ) → u ≤ v → (u ≡ v → ⊥) → u < v
    strict u v h k = omega (arith, h, k)

-- the first part of items that are parted at one of them
pub parted : (n : ℕ) (xs f : List Item) (x : Item) (b : List Item) → IsPermutation xs (f ++ x ∷ b) → AreDistinct xs → length f ≡ n
    → All (λ i. is_lt (nat_cmp x.number i.number) ≡ false) f → All (λ i. is_lt (nat_cmp i.number x.number) ≡ false) b → IsFront n xs f
parted n xs f x b same once long before after =
    let apart = once_moved xs (f ++ x ∷ b) same once in
    let whole = in_two xs f (x ∷ b) same once (less f x b apart before after) in
    let size : length (by_number f) ≡ n = length_permutation f (by_number f) (by_number_moves f) ∙ long in
    record {
      distinct = distinct_left f (x ∷ b) apart;
      first = sym (ap (take n) whole ∙ subst (λ k. take k (by_number f ++ by_number (x ∷ b)) ≡ by_number f) size (take-append_seam (by_number f) (by_number (x ∷ b))));
    }
