-- Items whose numbers rise, searched and compared.
use Rattle.std.proofs.Common.{◌≡◌, ℕ, ◌+◌, ◌<◌, ◌≤◌, List, [], ◌∷◌, ◌++◌, length, get_or, Bool, true, false, zero, suc, refl, ap, sym, ◌∙◌, arith, subst, inl, inr, Result, Ok, Err}
use Rattle.std.specs.Prelude.{MatchResult}
use Rattle.std.specs.List.{AllByRecursion}
use Rattle.std.specs.List.Sorted.{IsSearchInRange, IsBinarySearchResult, IsNonDecreasingBy}
use Rattle.std.specs.Ordering.{nat_cmp, ordering_index}
use Rattle.std.proofs.lemmas.Cmp.{ranked}
use Rattle.std.proofs.lemmas.Bool.Decides.{nat_tests}
use Rattle.std.proofs.lemmas.List.Elements.{recursion_from_All}
use Rattle.std.proofs.lemmas.List.Sorted.{IsNonDecreasingBy-from_default}
use Rattle.node_labels.specs.Labels.{is_dropped, keep_tag}
use Rattle.node_labels.specs.declared.label.Label.{Label}
use Rattle.node_labels.specs.declared.label.Label.TheVariants.{Live, Suspended, Dropped}
use Rattle.map_items.specs.declared.item.Item.{Item}
use Rattle.map_items.specs.Contents.{AreContents, IsRising, kept, live_count, suspended_count, Member}
use Rattle.map_items.proofs.Numbered.{contents_rise as are_rising}
use Rattle.kd_tree.specs.Shape.{Shape}
use Rattle.kd_tree.specs.Sound.{IsSound}
use Rattle.kd_tree.specs.Contents.{contents}
use Rattle.kd_tree.specs.Walk.{walk}
use Rattle.kd_tree.proofs.Held.{are_distinct, contents_kept, contents_rise, rising_rises}
use Rattle.kd_tree.proofs.Numbered.{Above, Rises, numbered_from, numbered_in, one_item}
use Rattle.rebuild_parts.specs.DetachedItems.{AreAllFrom}

-- no test is both
pub not_both : (b : Bool) → b ≡ true → b ≡ false → ⊥
not_both b is left = let both : true ≡ false = sym is ∙ left in absurd cc

-- parts of a list

pub parts_in : (xs ys zs m : List Item) → AreAllFrom xs m → AreAllFrom ys m → AreAllFrom zs m → AreAllFrom (xs ++ (ys ++ zs)) m
parts_in [] [] zs m f g h = h
parts_in [] (y ∷ ys) zs m f g h =
    let rest = parts_in [] ys zs m f (λ w k. g w (inr k)) h in
    λ z is. elim is [ inl e ↦ g z (inl e) | inr later ↦ rest z later ]
parts_in (x ∷ xs) ys zs m f g h =
    let rest = parts_in xs ys zs m (λ w k. f w (inr k)) g h in
    λ z is. elim is [ inl e ↦ f z (inl e) | inr later ↦ rest z later ]

first_in : (xs ys : List Item) (z : Item) → Member z xs → Member z (xs ++ ys)
first_in [] ys z is = absurd is
first_in (x ∷ xs) ys z (inl e) = inl e
first_in (x ∷ xs) ys z (inr later) = inr (first_in xs ys z later)

second_in : (xs ys : List Item) (z : Item) → Member z ys → Member z (xs ++ ys)
second_in [] ys z is = is
second_in (x ∷ xs) ys z is = inr (second_in xs ys z is)

-- what is said of all three is said of each
pub in_parts : (xs ys zs m : List Item) → AreAllFrom (xs ++ (ys ++ zs)) m → AreAllFrom xs m × AreAllFrom ys m × AreAllFrom zs m
in_parts xs ys zs m k = (
  (λ z is. k z (first_in xs (ys ++ zs) z is)),
  (λ z is. k z (second_in xs (ys ++ zs) z (first_in ys zs z is))),
  (λ z is. k z (second_in xs (ys ++ zs) z (second_in ys zs z is))),
)

-- an item that isn't dropped, by itself
pub own_in : (i : Item) (m : List Item) → (i.label ≡ Dropped → ⊥) → (Member i m → AreAllFrom (kept (i ∷ [])) m) × (AreAllFrom (kept (i ∷ [])) m → Member i m)
own_in i m n = own i.label n
  where
    one : (j : Item) → (Member j m → AreAllFrom (j ∷ []) m) × (AreAllFrom (j ∷ []) m → Member j m)
    one j = ((λ is z q. elim q [ inl e ↦ subst (λ w. Member w m) (sym e) is | inr none ↦ absurd none ]), (λ k. k j (inl refl)))

    own : (x : Label) → (x ≡ Dropped → ⊥)
        → (Member (record i { label = x }) m → AreAllFrom (kept (record i { label = x } ∷ [])) m) ×
        (AreAllFrom (kept (record i { label = x } ∷ [])) m → Member (record i { label = x }) m)
    own Live d = one (record i { label = Live })
    own Suspended d = one (record i { label = Suspended })
    own Dropped d = absurd (d refl)

-- an item at a place

pub member_at : (m : List Item) (k : ℕ) (d : Item) → k < length m → Member (get_or m k d) m
member_at [] k d low = absurd (omega (arith, low))
member_at (i ∷ m) zero d low = inl refl
member_at (i ∷ m) (suc k) d low = inr (member_at m k d (omega (arith, low)))

pub record StandsAt (i : Item) (m : List Item) (d : Item) : Type 0 where
  pub place : ℕ
  pub low : place < length m
  pub is : get_or m place d ≡ i

index_of : (i : Item) (m : List Item) (d : Item) → Member i m → StandsAt i m d
index_of i [] d k = absurd k
index_of i (j ∷ m) d (inl e) = record { place = 0; low = omega arith; is = sym e }
index_of i (j ∷ m) d (inr k) = let rest = index_of i m d k in record { place = suc rest.place; low = omega (arith, rest.low); is = rest.is }

rising_low : (low : ℕ) (m : List Item) (k : ℕ) (d : Item) → IsRising low m → k < length m → low ≤ (get_or m k d).number
rising_low low [] k d r h = absurd (omega (arith, h))
rising_low low (i ∷ m) zero d r h = r.0
rising_low low (i ∷ m) (suc k) d r h = omega (arith, r.0, rising_low (i.number + 1) m k d r.1 (omega (arith, h)))

rising_at : (low : ℕ) (m : List Item) (j k : ℕ) (d : Item) → IsRising low m → j ≤ k → k < length m → (get_or m j d).number ≤ (get_or m k d).number
rising_at low [] j k d r le h = absurd (omega (arith, h))
rising_at low (i ∷ m) zero zero d r le h = omega arith
rising_at low (i ∷ m) zero (suc k) d r le h = omega (arith, rising_low (i.number + 1) m k d r.1 (omega (arith, h)))
rising_at low (i ∷ m) (suc j) zero d r le h = absurd (omega (arith, le))
rising_at low (i ∷ m) (suc j) (suc k) d r le h = rising_at (i.number + 1) m j k d r.1 (omega (arith, le)) (omega (arith, h))

-- a binary search

comparisons_rise : (low : ℕ) (m : List Item) (i : Item) → IsRising low m → IsNonDecreasingBy (λ y. ordering_index (nat_cmp y.number i.number)) m
comparisons_rise low m i r =
    IsNonDecreasingBy-from_default (λ y. ordering_index (nat_cmp y.number i.number)) m i (λ j k le h. let rise = rising_at low m j k i r le h in grind (arith, nat_tests))

-- it ends at an item of the number, or nothing of it is there
pub searched : (high : ℕ) (m : List Item) (i : Item) (r : Result ℕ ℕ) → AreContents 0 high m → IsSearchInRange r (length m) → IsBinarySearchResult (λ y. nat_cmp y.number i.number) m r
    → MatchResult r (λ k. (k < length m) × ((get_or m k i).number ≡ i.number)) (λ _. Member i m → ⊥)
searched high m i (Ok k) c range equal = (range, ranked _ i.number _ (sym (equal i)))
searched high m i (Err k) c range parted = λ is.
    let at = index_of i m i is in
    let point = parted (comparisons_rise 0 m i (are_rising 0 high m c)) in
    let same : (get_or m at.place i).number ≡ i.number = ap (λ (x : Item). x.number) at.is in
    let below : at.place < k → (get_or m at.place i).number < i.number = λ lt. ranked _ i.number _ (sym (point.0 at.place i (omega arith) lt)) in
    let above : k ≤ at.place → i.number < (get_or m at.place i).number = λ le. ranked _ i.number _ (sym (point.1 at.place i le at.low)) in
    grind (arith, nat_tests, below, above, same)

-- items of the number are the item, if that is there
pub found_is : (high : ℕ) (m : List Item) (i : Item) (k : ℕ) → AreContents 0 high m → k < length m → (get_or m k i).number ≡ i.number → Member i m → get_or m k i ≡ i
found_is high m i k c low same is = one_item m (get_or m k i) i (are_distinct 0 high m c) (member_at m k i low) is same

-- as many items, of which each is there

above_in : (n : ℕ) (z : Item) (xs : List Item) → Above n xs → Member z xs → n < z.number
above_in n z [] k m = absurd m
above_in n z (y ∷ ys) k (inl e) = subst (λ (w : Item). n < w.number) (sym e) k.0
above_in n z (y ∷ ys) k (inr m) = above_in n z ys k.1 m

-- an item above the first is one of the rest
rest_in : (n : ℕ) (xs : List Item) (y : Item) (ys : List Item) → y.number ≤ n → Above n xs → AreAllFrom xs (y ∷ ys) → AreAllFrom xs ys
rest_in n xs y ys le above k z m =
    elim (k z m) [ inl e ↦ let up = above_in n z xs above m in let same : z.number ≡ y.number = ap (λ (i : Item). i.number) e in absurd (omega (arith, up, le, same)) | inr is ↦ is ]

-- where the first is among the rest, all are
all_in_rest : (x : Item) (xs : List Item) (y : Item) (ys : List Item) → Rises (x ∷ xs) → Rises (y ∷ ys) → Member x ys → AreAllFrom (x ∷ xs) (y ∷ ys) → AreAllFrom (x ∷ xs) ys
all_in_rest x xs y ys r s is k =
    let up : y.number < x.number = above_in y.number x ys s.0 is in
    let rest = rest_in x.number xs y ys (omega (arith, up)) r.0 (λ z m. k z (inr m)) in
    λ z m. elim m [ inl e ↦ subst (λ w. Member w ys) (sym e) is | inr later ↦ rest z later ]

few_in : (xs ys : List Item) → Rises xs → Rises ys → AreAllFrom xs ys → length xs ≤ length ys
few_in [] ys r s k = omega arith
few_in (x ∷ xs) [] r s k = absurd (k x (inl refl))
few_in (x ∷ xs) (y ∷ ys) r s k =
    elim (k x (inl refl)) [
      | inl e ↦ let same : x.number ≡ y.number = ap (λ (i : Item). i.number) e in omega (arith, few_in xs ys r.1 s.1 (rest_in x.number xs y ys (omega (arith, same)) r.0 (λ z m. k z (inr m))))
      | inr is ↦ omega (arith, few_in (x ∷ xs) ys r s.1 (all_in_rest x xs y ys r s is k))
    ]

same_in : (xs ys : List Item) → Rises xs → Rises ys → AreAllFrom xs ys → length xs ≡ length ys → xs ≡ ys
same_in [] [] r s k e = refl
same_in [] (y ∷ ys) r s k e = absurd (omega (arith, e))
same_in (x ∷ xs) [] r s k e = absurd (k x (inl refl))
same_in (x ∷ xs) (y ∷ ys) r s k e =
    elim (k x (inl refl)) [
      | inl same ↦
          let number : x.number ≡ y.number = ap (λ (i : Item). i.number) same in
          let rest = same_in xs ys r.1 s.1 (rest_in x.number xs y ys (omega (arith, number)) r.0 (λ z m. k z (inr m))) (omega (arith, e)) in
          ap (λ i. i ∷ xs) same ∙ ap (λ m. y ∷ m) rest
      | inr is ↦ absurd (omega (arith, few_in (x ∷ xs) ys r s.1 (all_in_rest x xs y ys r s is k), e))
    ]

-- a tree and a list

counted_kept : (m : List Item) → AllByRecursion (λ i. is_dropped i.label ≡ false) m → live_count m + suspended_count m ≡ length m
counted_kept [] k = refl
counted_kept (i ∷ m) k = own i.label k.0 (counted_kept m k.1)
  where
    own : (x : Label) → is_dropped x ≡ false → live_count m + suspended_count m ≡ length m → live_count (record i { label = x } ∷ m) + suspended_count (record i { label = x } ∷ m) ≡ suc (length m)
    own Live e rest = omega (arith, rest)
    own Suspended e rest = omega (arith, rest)
    own Dropped e rest = absurd cc

-- what the tree holds is live or suspended
pub length-contents : (t : Shape) → live_count (contents t) + suspended_count (contents t) ≡ length (contents t)
length-contents t = counted_kept (contents t) (recursion_from_All (λ (i : Item). is_dropped i.label ≡ false) (contents t) (contents_kept t))

-- as many items as the list has, each of which is there, are the list
pub held_same : (high : ℕ) (t : Shape) (m : List Item) → IsSound t → AreContents 0 high m → AreAllFrom (walk keep_tag t) m → length (contents t) ≡ length m → contents t ≡ m
held_same high t m sound c k e = same_in (contents t) m (contents_rise t sound) (rising_rises 0 m (are_rising 0 high m c)) (λ z is. k z (numbered_from z (walk keep_tag t) is)) e

-- and each item of the list is one of it
pub same_held : (t : Shape) (m : List Item) → contents t ≡ m → AreAllFrom (walk keep_tag t) m
same_held t m e z is = subst (Member z) e (numbered_in z (walk keep_tag t) is)
