-- The points of a scan, and the first ones of their voxels, as items that may enter a map.
use Rattle.std.proofs.Common.{◌≡◌, ◌≢◌, ℕ, ◌+◌, ◌<◌, ◌≤◌, inl, inr, true, false, List, [], ◌∷◌, length, refl, ap, sym, ◌∙◌, arith}
use Rattle.std.specs.Prelude.{All}
use Rattle.std.specs.List.{AllByRecursion}
use Rattle.std.proofs.lemmas.List.Elements.{All-from_recursion}
use Rattle.point_geom.specs.Place.{Place}
use Rattle.point_geom.specs.Boxes.{holds, voxel}
use Rattle.point_geom.proofs.Laws.{voxel_held}
use Rattle.node_labels.specs.declared.label.Label.TheVariants.{Live}
use Rattle.map_items.specs.declared.item.Item.{Item}
use Rattle.map_items.specs.Contents.{AreContents, Member}
use Rattle.map_items.proofs.Numbered.{unheld_above}
use Rattle.kd_tree.proofs.Numbered.{member_of}
use Rattle.kd_update.specs.Scan.{live_from}
use Rattle.map_update.specs.Entrants.{HaveOwnVoxels, AreEntrants, AreFirsts, MayEnter}

-- each of the points' items is live under one of the numbers
pub from_is : (n : ℕ) (ps : List Place) (i : Item) → Member i (live_from n ps) → (i.label ≡ Live) × (n ≤ i.number) × (i.number < n + length ps)
from_is n [] i there = absurd there
from_is n (p ∷ ps) i (inl same) =
    let number : i.number ≡ n = ap (λ (j : Item). j.number) same in (ap (λ (j : Item). j.label) same, omega arith, omega arith)
from_is n (p ∷ ps) i (inr there) =
    let is = from_is (n + 1) ps i there in
    let from = is.1 in
    let below = is.2 in (is.0, omega arith, omega arith)

-- and alone under it
pub from_once : (n : ℕ) (ps : List Place) (i j : Item) → Member i (live_from n ps) → Member j (live_from n ps) → i.number ≡ j.number → i ≡ j
from_once n [] i j one two e = absurd one
from_once n (p ∷ ps) i j (inl one) (inl two) e = one ∙ sym two
from_once n (p ∷ ps) i j (inl one) (inr two) e =
    let own : i.number ≡ n = ap (λ (k : Item). k.number) one in
    let above = (from_is (n + 1) ps j two).1 in absurd (omega arith)
from_once n (p ∷ ps) i j (inr one) (inl two) e =
    let own : j.number ≡ n = ap (λ (k : Item). k.number) two in
    let above = (from_is (n + 1) ps i one).1 in absurd (omega arith)
from_once n (p ∷ ps) i j (inr one) (inr two) e = from_once (n + 1) ps i j one two e

-- what holds of each member holds of all
all_members : (P : Item → Type 0) (is : List Item) → ((i : Item) → Member i is → P i) → AllByRecursion P is
all_members P [] h = tt
all_members P (i ∷ is) h = (h i (inl refl), all_members P is (λ j there. h j (inr there)))

pub All-members : (P : Item → Type 0) (is : List Item) → ((i : Item) → Member i is → P i) → All P is
All-members P is h = All-from_recursion P is (all_members P is h)

-- an item under one of the numbers may enter a map that has given only lower ones
from_enters : (next : ℕ) (ps : List Place) (m : List Item) (i : Item) → AreContents 0 next m → Member i (live_from next ps) → MayEnter (next + length ps) m i
from_enters next ps m i h there =
    let is = from_is next ps i there in record { live = is.0; below = is.2; unheld = unheld_above 0 next i.number m is.1 h }

later_enter : (low high n : ℕ) (ps : List Place) (m : List Item) → low ≤ n → n + length ps ≤ high → AreContents 0 low m → AreEntrants high m (live_from n ps)
later_enter low high n [] m from to h = tt
later_enter low high n (p ∷ ps) m from to h = (
  record { live = refl; below = omega arith; unheld = unheld_above 0 low n m from h },
  All-members (λ j. j.number ≢ n) (live_from (n + 1) ps) (λ j there. let above = (from_is (n + 1) ps j there).1 in λ same. absurd (omega arith)),
  later_enter low high (n + 1) ps m (omega arith) (omega arith) h,
)

-- the points may enter in turn
pub points_enter : (next : ℕ) (ps : List Place) (m : List Item) → AreContents 0 next m → AreEntrants (next + length ps) m (live_from next ps)
points_enter next ps m h = later_enter next (next + length ps) next ps m (omega arith) (omega arith) h

-- items of two voxels have two numbers
apart_numbers : (edge next : ℕ) (ps : List Place) (i j : Item) → 1 ≤ edge → Member i (live_from next ps)
    → Member j (live_from next ps) → holds (voxel edge i.point) j.point ≡ false → j.number ≢ i.number
apart_numbers edge next ps i j from one two out = λ same.
    let own : holds (voxel edge i.point) i.point ≡ true = voxel_held edge i.point from in
    let e : j ≡ i = from_once next ps j i two one same in
    let in_own : holds (voxel edge i.point) i.point ≡ false = sym (ap (λ (k : Item). holds (voxel edge i.point) k.point) e) ∙ out in absurd (cc)

some_enter : (edge next : ℕ) (ps : List Place) (fs m : List Item) → 1 ≤ edge → AreContents 0 next m
    → HaveOwnVoxels edge fs → ((i : Item) → Member i fs → Member i (live_from next ps))
    → AreEntrants (next + length ps) m fs
some_enter edge next ps [] m from h apart within = tt
some_enter edge next ps (i ∷ fs) m from h apart within = (
  from_enters next ps m i h (within i (inl refl)),
  All-members (λ j. j.number ≢ i.number) fs (λ j there. apart_numbers edge next ps i j from (within i (inl refl))
      (within j (inr there)) (member_of (λ (k : Item). holds (voxel edge i.point) k.point ≡ false) j fs apart.0 there)),
  some_enter edge next ps fs m from h apart.1 (λ j there. within j (inr there)),
)

-- the first ones may enter in turn
pub firsts_enter : (edge next : ℕ) (ps : List Place) (fs m : List Item) → 1 ≤ edge → AreContents 0 next m → AreFirsts edge next ps fs → AreEntrants (next + length ps) m fs
firsts_enter edge next ps fs m from h firsts = some_enter edge next ps fs m from h firsts.apart firsts.within
