-- Segments that are parted by planes. Cited by private functions alone.
use Rattle.std.specs.Prelude.{◌≤◌, ◌≡◌, ℕ, zero, suc, ◌-◌, ◌*◌, ◌/◌, ◌+◌, ◌<◌, List, [], ◌∷◌, ◌++◌, length, take, drop, IsPermutation}
use Rattle.point_geom.specs.declared.axis.Axis.{Axis}
use Rattle.point_geom.specs.Place.{Place}
use Rattle.point_geom.specs.Axes.{on}
use Rattle.point_geom.specs.Distances.{dist2, gap2}
use Rattle.map_items.specs.declared.item.Item.{Item}
use Rattle.kd_search.specs.Points.{AreAway, AreBelow, AreAbove}
use Rattle.kd_search.specs.Sides.{IsEitherWay}
use Rattle.kd_frozen.specs.declared.cell.Cell.{Cell}
use Rattle.kd_frozen.specs.declared.cell.TheConstants.{LEAF}
use Rattle.kd_frozen.specs.declared.parts.Parts.{Parts}
use Rattle.kd_frozen.specs.Cells.{item_of, items_of}

-- a cell parts others by its plane: on its axis none of these is above it, and none of those below
abbrev pub IsPlane : Cell → List Cell → List Cell → Type 0
IsPlane c left right = AreBelow c.axis c.point (items_of left) × AreAbove c.axis c.point (items_of right)

-- how many of so many others come before its plane
abbrev pub cut : Cell → ℕ → ℕ
cut c others = others * c.share / 256

-- on the upper so many levels, what is longer than a leaf is parted by its first cell
abbrev pub IsParted : ℕ → List Cell → Type 0
IsParted zero m = Unit {0}
IsParted (suc n) [] = Unit {0}
IsParted (suc n) (c ∷ m) =
    LEAF < length (c ∷ m) → IsPlane c (take (cut c (length m)) m) (drop (cut c (length m)) m)
    × IsParted n (take (cut c (length m)) m) × IsParted n (drop (cut c (length m)) m)

-- on all levels it is
abbrev pub AreParted : List Cell → Type 0
AreParted m = (n : ℕ) → IsParted n m

-- The cells' items are behind the old ones, parted on all levels.
pub record AddsParted (cells old new : List Cell) : Type 0 where
  pub added : List Cell
  pub behind : new ≡ old ++ added
  pub same : IsPermutation (items_of cells) (items_of added)
  pub parted : AreParted added

-- A cell parts the others, on this axis, with so many 256ths of them before it.
pub record AreCut (m : List Cell) (a : Axis) (share : ℕ) (left : List Cell) (top : Cell) (right : List Cell) : Type 0 where
  pub same : IsPermutation m (left ++ top ∷ right)
  pub first : length left ≡ (length m - 1) * share / 256
  pub below : AreBelow a top.point (items_of left)
  pub above : AreAbove a top.point (items_of right)

-- the square of what is between a place and a cell's plane
abbrev pub plane_gap2 : Cell → Place → ℕ
plane_gap2 c q = gap2 (on c.axis q) (on c.axis c.point)

-- A segment is its first cell, and those on both sides of its plane, one near and one far: of these the gap to the plane is no more
-- than the distance to any item. All are parted.
pub record ArePartsOf (m : List Cell) (q : Place) (s : Parts) : Type 0 where
  pub others : List Item
  pub items : items_of m ≡ item_of s.top.now ∷ others
  pub turned : IsEitherWay others (items_of s.near.now) (items_of s.far.now)
  pub top : plane_gap2 s.top.now q ≤ dist2 q s.top.now.point
  pub away : AreAway (plane_gap2 s.top.now q) q (items_of s.far.now)
  pub near_parted : AreParted s.near.now
  pub far_parted : AreParted s.far.now
  pub shorter : length s.near.now + length s.far.now < length m
