-- Items in the order of their numbers.
use Rattle.std.proofs.Common.{◌≡◌, ℕ, ◌+◌, ◌<◌, ◌≤◌, Bool, true, false, not, cond, List, [], ◌∷◌, ◌++◌, refl, ap, sym, ◌∙◌, arith, suc, zero, length, map, take, drop, get_or, nat_eq}
use Rattle.std.specs.Prelude.{◌==◌}
use Rattle.std.proofs.lemmas.List.Sums.{sum_by-cons}
use Rattle.std.proofs.Math.Seq.{drop-cons}
use Rattle.std.proofs.Math.ListN.{set}
use Rattle.std.proofs.lemmas.Bool.Decides.{nat_tests}
use Rattle.point_geom.specs.Place.{Place, Bounds}
use Rattle.node_labels.specs.Labels.{is_dropped}
use Rattle.node_labels.specs.declared.tag.Tag.{Tag}
use Rattle.map_items.specs.declared.choice.Choice.{Choice}
use Rattle.map_items.specs.declared.item.Item.{Item}
use Rattle.map_items.specs.Ops.{IsUnheld}
use Rattle.map_items.specs.Contents.{AreContents, IsRising, put, live_at, relabelled, marked_item, mark, in_box, chosen_by, inside_box}

-- a number above all goes to the end
pub put-above : (low n : ℕ) (m : List Item) (p : Place) → AreContents low n m → put m n p ≡ m ++ live_at n p ∷ []
put-above low n [] p h = refl
put-above low n (i ∷ m) p h =
    let below : i.number < n = h.1 in
    let rest = put-above (i.number + 1) n m p h.3 in
    grind (arith, nat_tests, rest)

-- one more number at the end
pub contents_push : (low n : ℕ) (m : List Item) (p : Place) → low ≤ n → AreContents low n m → AreContents low (n + 1) (m ++ live_at n p ∷ [])
contents_push low n [] p from h = (from, omega arith, refl, tt)
contents_push low n (i ∷ m) p from h = (h.0, omega (arith, h.1), h.2, contents_push (i.number + 1) n m p (omega (arith, h.1)) h.3)

-- the element at j and what comes after it
pub drop-at : {X : Type 0} (xs : List X) (n j : ℕ) (x : X) → n ≡ suc j → j < length xs → x ≡ get_or xs j x → drop j xs ≡ x ∷ drop n xs
drop-at xs n j x e below is = rw e (drop-cons xs j x below ∙ ap (λ y. y ∷ drop (suc j) xs) (sym is))

-- no more items than numbers
pub contents_length : (low high : ℕ) (m : List Item) → low ≤ high → AreContents low high m → low + length m ≤ high
contents_length low high [] from h = omega arith
contents_length low high (i ∷ m) from h = omega (arith, h.0, h.1, contents_length (i.number + 1) high m (omega (arith, h.1)) h.3)

-- a number that is above all isn't held
pub unheld_above : (low high n : ℕ) (m : List Item) → high ≤ n → AreContents low high m → IsUnheld n m
unheld_above low high n [] above h = refl
unheld_above low high n (i ∷ m) above h =
    let f : Item → ℕ = λ j. cond (n == j.number) 1 0 in
    let below : i.number < high = h.1 in
    let other : nat_eq n i.number ≡ false = grind (arith, nat_tests) in
    let here : f i ≡ 0 = rw other refl in
    omega (arith, sum_by-cons f i m, unheld_above (i.number + 1) high n m above h.3)

-- the numbers of what a map holds rise
pub contents_rise : (low high : ℕ) (m : List Item) → AreContents low high m → IsRising low m
contents_rise low high [] h = tt
contents_rise low high (i ∷ m) h = (h.0, contents_rise (i.number + 1) high m h.3)

-- the bounds may be widened
pub contents_within : (low least high most : ℕ) (m : List Item) → least ≤ low → high ≤ most → AreContents low high m → AreContents least most m
contents_within low least high most [] below above h = tt
contents_within low least high most (i ∷ m) below above h =
    (omega (arith, h.0), omega (arith, h.1), h.2, contents_within (i.number + 1) (i.number + 1) high most m (omega arith) above h.3)

pub marked_number : (chosen : Item → Bool) (a : Tag) (i : Item) → (marked_item chosen a i).number ≡ i.number
marked_number chosen a i = elim (chosen i) as (λ b. (cond b (relabelled a i) i).number ≡ i.number) [ true ↦ refl | false ↦ refl ]

contents_kept : (low high : ℕ) (j : Item) (m : List Item) (b : Bool) → low ≤ j.number → j.number < high
    → is_dropped j.label ≡ b → AreContents (j.number + 1) high m → AreContents low high (cond (not b) (j ∷ m) m)
contents_kept low high j m true from below e rest = contents_within (j.number + 1) low high high m (omega arith) (omega arith) rest
contents_kept low high j m false from below e rest = (from, below, e, rest)

-- what a mark leaves is still what a map may hold
pub contents_mark : (low high : ℕ) (m : List Item) (chosen : Item → Bool) (a : Tag) → AreContents low high m → AreContents low high (mark m chosen a)
contents_mark low high [] chosen a h = tt
contents_mark low high (i ∷ m) chosen a h =
    let j = marked_item chosen a i in
    let same : j.number ≡ i.number = marked_number chosen a i in
    let rest = contents_mark (i.number + 1) high m chosen a h.3 in
    contents_kept low high j (mark m chosen a) (is_dropped j.label) (omega (arith, h.0, same)) (omega (arith, h.1, same)) refl (rw same rest)

-- one more element of a list is mapped in its place
pub set-mapped : {X : Type 0} (f : X → X) (i : ℕ) (xs : List X) (d : X) → i < length xs
    → set (map f (take i xs) ++ drop i xs) i (f (get_or xs i d)) ≡ map f (take (suc i) xs) ++ drop (suc i) xs
set-mapped f i [] d below = absurd (omega arith)
set-mapped f zero (y ∷ xs) d below = refl
set-mapped f (suc i) (y ∷ xs) d below = ap (λ zs. f y ∷ zs) (set-mapped f i xs d (omega arith))

-- the element that is next
pub get_or-mapped : {X : Type 0} (f : X → X) (i : ℕ) (xs : List X) (d : X) → i < length xs → get_or (map f (take i xs) ++ drop i xs) i d ≡ get_or xs i d
get_or-mapped f i [] d below = absurd (omega arith)
get_or-mapped f zero (y ∷ xs) d below = refl
get_or-mapped f (suc i) (y ∷ xs) d below = get_or-mapped f i xs d (omega arith)

-- a choice that is a box alone is that box
pub mark-within : (choice : Choice) (c : Bounds) (m : List Item) (a : Tag) → choice ≡ inside_box c → mark m (chosen_by choice) a ≡ mark m (in_box c) a
mark-within choice c m a e = ap (λ (d : Choice). mark m (chosen_by d) a) e
