-- Cells that are laid in the order of their segments.
use Rattle.std.proofs.Common.{◌≡◌, ℕ, zero, suc, ◌+◌, ◌-◌, ◌*◌, ◌/◌, ◌≤◌, ◌≤ℤ◌, ℤ, false, List, [], ◌∷◌, ◌++◌, length, take, drop, sym, ap, ◌∙◌, subst, arith, length-append}
use Rattle.std.specs.Prelude.{All, IsPermutation}
use Rattle.std.specs.Ordering.{is_lt, int_cmp}
use Rattle.std.proofs.Math.Seq.{take-append_seam, drop-append_seam}
use Rattle.std.proofs.lemmas.Int.{ints}
use Rattle.std.proofs.lemmas.List.{append_assoc, length-map, map-append}
use Rattle.std.proofs.lemmas.List.Elements.{All-map, All-weaker}
use Rattle.std.proofs.lemmas.List.Sorted.{All-permutation, IsPermutation-append, IsPermutation-cons, IsPermutation-map, IsPermutation-middle, IsPermutation-refl, IsPermutation-trans, length_permutation}
use Rattle.point_geom.specs.Axes.{on}
use Rattle.point_geom.specs.declared.axis.Axis.{Axis}
use Rattle.map_items.specs.declared.item.Item.{Item}
use Rattle.kd_tree.specs.Contents.{AreDistinct, by_number}
use Rattle.kd_tree.proofs.Numbered.{by_number-moved, by_number_moves, once_moved}
use Rattle.kd_search.specs.Points.{AreBelow, AreAbove}
use Rattle.kd_frozen.specs.declared.cell.Cell.{Cell}
use Rattle.kd_frozen.specs.declared.cell.TheConstants.{LEAF}
use Rattle.kd_frozen.specs.Cells.{item_of, items_of}
use Rattle.kd_frozen.specs.Segments.{AddsParted, AreCut, AreParted, IsParted, IsPlane, cut}

not_less : (x y : ℤ) → is_lt (int_cmp x y) ≡ false → y ≤ℤ x
not_less x y h = grind (arith, ints)

-- cells before one that is no less on the axis
pub below_of : (a : Axis) (c : Cell) (m : List Cell) → All (λ d. is_lt (int_cmp (on a c.point) (on a d.point)) ≡ false) m → AreBelow a c.point (items_of m)
below_of a c m k =
    All-map (λ (i : Item). on a i.point ≤ℤ on a c.point) item_of m
    (All-weaker (λ (d : Cell). is_lt (int_cmp (on a c.point) (on a d.point)) ≡ false) (λ (d : Cell). on a d.point ≤ℤ on a c.point) (λ d h. not_less (on a c.point) (on a d.point) h) m k)

-- and after one that is no greater
pub above_of : (a : Axis) (c : Cell) (m : List Cell) → All (λ d. is_lt (int_cmp (on a d.point) (on a c.point)) ≡ false) m → AreAbove a c.point (items_of m)
above_of a c m k =
    All-map (λ (i : Item). on a c.point ≤ℤ on a i.point) item_of m
    (All-weaker (λ (d : Cell). is_lt (int_cmp (on a d.point) (on a c.point)) ≡ false) (λ (d : Cell). on a c.point ≤ℤ on a d.point) (λ d h. not_less (on a d.point) (on a c.point) h) m k)

-- parts that were searched by the coordinate on the axis b
pub cut_on : (b a : Axis) (share : ℕ) (m left : List Cell) (c : Cell) (right : List Cell) → a ≡ b → IsPermutation m (left ++ c ∷ right) → length left ≡ (length m - 1) * share / 256
    → All (λ d. is_lt (int_cmp (on b c.point) (on b d.point)) ≡ false) left × All (λ d. is_lt (int_cmp (on b d.point) (on b c.point)) ≡ false) right → AreCut m a share left c right
cut_on b a share m left c right e same first around = record {
  same = same;
  first = first;
  below = rw e (below_of b c left around.0);
  above = rw e (above_of b c right around.1);
}

laid_parted : (one other : List Cell) (c : Cell) → length one ≡ (length one + length other) * c.share / 256
    → AreBelow c.axis c.point (items_of one) → AreAbove c.axis c.point (items_of other) → AreParted one
    → AreParted other → AreParted (c ∷ (one ++ other))
laid_parted one other c first below above left right = parted
  where
    parted : (n : ℕ) → IsParted n (c ∷ (one ++ other))
    parted zero = tt
    parted (suc n) = λ more.
        let m = one ++ other in
        let at : length one ≡ cut c (length m) = first ∙ ap (cut c) (sym (length-append one other)) in
        let front : take (cut c (length m)) m ≡ one = ap (λ j. take j m) (sym at) ∙ take-append_seam one other in
        let back : drop (cut c (length m)) m ≡ other = ap (λ j. drop j m) (sym at) ∙ drop-append_seam one other in (
          subst (λ z. IsPlane c z (drop (cut c (length m)) m)) (sym front) (subst (λ z. IsPlane c one z) (sym back) (below, above)),
          subst (IsParted n) (sym front) (left n),
          subst (IsParted n) (sym back) (right n),
        )

same_items : (xs ys : List Cell) → IsPermutation xs ys → IsPermutation (items_of xs) (items_of ys)
same_items xs ys p = IsPermutation-map item_of xs ys p

item_lengths : (xs : List Cell) (ys : List Cell) → IsPermutation (items_of xs) (items_of ys) → length xs ≡ length ys
item_lengths xs ys p = omega (arith, length_permutation (items_of xs) (items_of ys) p, length-map xs item_of, length-map ys item_of)

-- the cell and both its sides
pub laid : (m left right : List Cell) (a : Axis) (share : ℕ) (top c : Cell) (old first second new : List Cell) → AreCut m a share left top right → c ≡ record top { axis = a; share = share }
    → first ≡ old ++ c ∷ [] → AddsParted left first second → AddsParted right second new → AddsParted m old new
laid m left right a share top c old first second new s is f one other = record {
  added = c ∷ (one.added ++ other.added);
  behind =
      other.behind ∙ ap (λ z. z ++ other.added) (one.behind ∙ ap (λ z. z ++ one.added) f)
      ∙ append_assoc (old ++ c ∷ []) one.added other.added ∙ append_assoc old (c ∷ []) (one.added ++ other.added);
  same =
      let i = item_of top in
      let items : items_of (c ∷ (one.added ++ other.added)) ≡ i ∷ (items_of one.added ++ items_of other.added) =
      ap (λ d. item_of d ∷ items_of (one.added ++ other.added)) is ∙ ap (λ z. i ∷ z) (map-append item_of one.added other.added) in
      let sides : IsPermutation (i ∷ (items_of left ++ items_of right)) (i ∷ (items_of one.added ++ items_of other.added)) =
      IsPermutation-cons i (items_of left ++ items_of right) (items_of one.added ++ items_of other.added)
      (IsPermutation-append (items_of left) (items_of one.added) (items_of right) (items_of other.added) one.same other.same) in
      let first : IsPermutation (items_of m) (items_of left ++ i ∷ items_of right) =
      subst (IsPermutation (items_of m)) (map-append item_of left (top ∷ right))
      (same_items m (left ++ top ∷ right) s.same) in
      subst (IsPermutation (items_of m)) (sym items)
      (IsPermutation-trans (items_of m) _ _ first (IsPermutation-trans _ _ _ (IsPermutation-middle (items_of left) i (items_of right)) sides));
  parted =
      let others : length m - 1 ≡ length one.added + length other.added =
      omega (arith, length_permutation m (left ++ top ∷ right) s.same, length-append left (top ∷ right), item_lengths left one.added one.same, item_lengths right other.added other.same) in
      let first : length one.added ≡ (length one.added + length other.added) * c.share / 256 =
      sym (item_lengths left one.added one.same) ∙ s.first ∙ ap (λ j. j * share / 256) others ∙ ap (λ (d : Cell). (length one.added + length other.added) * d.share / 256) (sym is) in
      let below : AreBelow a top.point (items_of one.added) = All-permutation (λ (i : Item). on a i.point ≤ℤ on a top.point) (items_of left) (items_of one.added) one.same s.below in
      let above : AreAbove a top.point (items_of other.added) = All-permutation (λ (i : Item). on a top.point ≤ℤ on a i.point) (items_of right) (items_of other.added) other.same s.above in
      laid_parted one.added other.added c first (rw is below) (rw is above) one.parted other.parted;
}

short_parted : (m : List Cell) → length m ≤ LEAF → AreParted m
short_parted m few zero = tt
short_parted [] few (suc n) = tt
short_parted (c ∷ m) few (suc n) = λ more. absurd (omega (arith, few, more))

-- a leaf's cells
pub laid_leaf : (m old new : List Cell) → length m ≤ LEAF → new ≡ old ++ m → AddsParted m old new
laid_leaf m old new few e = record { added = m; behind = e; same = IsPermutation-refl (items_of m); parted = short_parted m few }

-- all cells were laid
pub laid_all : (m old new : List Cell) → AddsParted m old new → old ≡ [] → AreDistinct (items_of m) → AreParted new × AreDistinct (items_of new) × (by_number (items_of new) ≡ by_number (items_of m))
laid_all m old new k none d =
    let all : new ≡ k.added = k.behind ∙ ap (λ z. z ++ k.added) none in (
      subst AreParted (sym all) k.parted,
      subst (λ z. AreDistinct (items_of z)) (sym all) (once_moved (items_of m) (items_of k.added) k.same d),
      ap (λ z. by_number (items_of z)) all ∙ sym (by_number-moved (items_of m) (items_of k.added) k.same d),
    )

pub side_lengths : (m left : List Cell) (c : Cell) (right : List Cell) → IsPermutation m (left ++ c ∷ right) → length left + length right + 1 ≡ length m
side_lengths m left c right p = omega (arith, length_permutation m (left ++ c ∷ right) p, length-append left (c ∷ right))

-- as many cells as items by number
pub cell_count : (m : List Cell) → length (by_number (items_of m)) ≡ length m
cell_count m = length_permutation (items_of m) (by_number (items_of m)) (by_number_moves (items_of m)) ∙ length-map m item_of
