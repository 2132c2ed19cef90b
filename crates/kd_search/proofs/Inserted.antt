-- Items in the order of their numbers, of which the first ones are kept.
use Rattle.std.proofs.Common.{◌≡◌, ℕ, zero, suc, ◌+◌, ◌≤◌, arith, true, false, cond, List, [], ◌∷◌, ◌++◌, length, take, refl, sym, ap, ◌∙◌}
use Rattle.std.specs.Prelude.{nat_lt}
use Rattle.std.specs.List.{insert}
use Rattle.std.proofs.lemmas.List.{take_all}
use Rattle.map_items.specs.declared.item.Item.{Item}
use Rattle.map_fold.proofs.Ranking.{take-take_suc, insert-take, length-insert}
use Rattle.kd_tree.specs.Contents.{insert_item, by_number}
use Rattle.kd_search.specs.Inserted.{insert_all}

-- the first k of the first k
pub take-take : {X : Type 0} (k : ℕ) (xs : List X) → take k (take k xs) ≡ take k xs
take-take zero xs = refl
take-take (suc k) [] = refl
take-take (suc k) (x ∷ xs) = ap (λ ys. x ∷ ys) (take-take k xs)

-- what is beyond the first k never comes among them
pub insert_item-take : (k : ℕ) (i : Item) (xs : List Item) → take k (insert_item i (take k xs)) ≡ take k (insert_item i xs)
insert_item-take zero i xs = refl
insert_item-take (suc k) i [] = refl
insert_item-take (suc k) i (j ∷ xs) =
    elim (nat_lt i.number j.number) as (λ b. take (suc k) (cond b (i ∷ j ∷ take k xs) (j ∷ insert_item i (take k xs))) ≡ take (suc k) (cond b (i ∷ j ∷ xs) (j ∷ insert_item i xs))) [
      | true ↦ ap (λ ys. i ∷ ys) (behind k j xs)
      | false ↦ ap (λ ys. j ∷ ys) (insert_item-take k i xs)
    ]
  where
    behind : (k : ℕ) (j : Item) (xs : List Item) → take k (j ∷ take k xs) ≡ take k (j ∷ xs)
    behind zero j xs = refl
    behind (suc k) j xs = ap (λ ys. j ∷ ys) (take-take_suc k xs)

pub insert_all-take : (k : ℕ) (xs ys : List Item) → take k (insert_all xs (take k ys)) ≡ take k (insert_all xs ys)
insert_all-take k [] ys = take-take k ys
insert_all-take k (x ∷ xs) ys =
    sym (insert_item-take k x (insert_all xs (take k ys)))
    ∙ ap (λ zs. take k (insert_item x zs)) (insert_all-take k xs ys)
    ∙ insert_item-take k x (insert_all xs ys)

pub insert_all-append : (xs ys m : List Item) → insert_all (xs ++ ys) m ≡ insert_all xs (insert_all ys m)
insert_all-append [] ys m = refl
insert_all-append (x ∷ xs) ys m = ap (insert_item x) (insert_all-append xs ys m)

-- put into nothing, they are in the order of their numbers
pub insert_all-nil : (xs : List Item) → insert_all xs [] ≡ by_number xs
insert_all-nil [] = refl
insert_all-nil (x ∷ xs) = ap (insert_item x) (insert_all-nil xs)

-- three lists, one after the other, the last first
pub in_turn : (k : ℕ) (top left right m one two three : List Item) → one ≡ take k (insert_all right m) → two ≡ take k (insert_all left one) → three ≡ take k (insert_all top two)
    → three ≡ take k (insert_all (top ++ (left ++ right)) m)
in_turn k top left right m one two three e f g =
    g ∙ ap (λ z. take k (insert_all top z)) f ∙ insert_all-take k top (insert_all left one)
    ∙ ap (λ z. take k (insert_all top (insert_all left z))) e
    ∙ sym (ap (take k) (insert_all-append top left (take k (insert_all right m))))
    ∙ insert_all-take k (top ++ left) (insert_all right m)
    ∙ ap (take k) (insert_all-append top left (insert_all right m) ∙ ap (insert_all top) (sym (insert_all-append left right m)) ∙ sym (insert_all-append top (left ++ right) m))

-- an item is put among k = j + 1, of which the last has made room
pub insert_in_full : (k j at : ℕ) (old held new : List Item) (i : Item) → k ≡ suc j → at ≤ j → held ≡ take j old → new ≡ insert held at i
    → insert old at i ≡ insert_item i old → new ≡ take k (insert_item i old)
insert_in_full k j at old held new i is below e f placed =
    rw is (f ∙ ap (λ xs. insert xs at i) e ∙ insert-take at j old i below ∙ ap (take (suc j)) placed)

-- an item is put among fewer than k
pub insert_in_room : (k at : ℕ) (old new : List Item) (i : Item) → length old + 1 ≤ k → new ≡ insert old at i
    → insert old at i ≡ insert_item i old → new ≡ take k (insert_item i old)
insert_in_room k at old new i room f placed =
    f ∙ sym (take_all k (insert old at i) (omega (arith, length-insert at old i))) ∙ ap (take k) placed
