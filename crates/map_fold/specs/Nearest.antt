-- What it means to be the k nearest.
use Rattle.std.specs.Prelude.{◌≡◌, ℕ, ◌≤◌, ◌⊎◌, true, false, List, [], ◌∷◌, length}
use Rattle.std.specs.declared.option.Option.{Option}
use Rattle.point_geom.specs.Place.{Place}
use Rattle.map_items.specs.declared.item.Item.{Item}
use Rattle.map_fold.specs.declared.hits.Hit.{Hit}
use Rattle.map_items.specs.Contents.{Member, live_items}
use Rattle.map_fold.specs.Answers.{hit_of, is_nearer, is_within}

-- each hit comes before all later ones, so none is there twice
abbrev pub IsInOrder : List Hit → Type 0
IsInOrder [] = Unit {0}
IsInOrder (h ∷ hits) = ((g : Hit) → Member g hits → is_nearer h g ≡ true) × IsInOrder hits

-- no hit comes before an earlier one, though the same may be there twice
abbrev pub AreRanked : List Hit → Type 0
AreRanked [] = Unit {0}
AreRanked (h ∷ hits) = ((g : Hit) → Member g hits → is_nearer g h ≡ false) × AreRanked hits

-- the hit is a live item with its distance, near enough
pub record IsHitOf (m : List Item) (q : Place) (r : Option ℕ) (h : Hit) : Type 0 where
  pub item : Item
  pub live : Member item (live_items m)
  pub shown : h ≡ hit_of q item
  pub within : is_within r h ≡ true

-- The hits are the k nearest live items within r, or all of them where there are fewer.
pub record AreNearest (m : List Item) (k : ℕ) (q : Place) (r : Option ℕ) (hits : List Hit) : Type 0 where
  pub ordered : IsInOrder hits
  pub few : length hits ≤ k
  pub found : (h : Hit) → Member h hits → IsHitOf m q r h
  -- what was left out is farther than each of k hits
  pub rest : (h : Hit) → IsHitOf m q r h → Member h hits ⊎ ((length hits ≡ k) × ((g : Hit) → Member g hits → is_nearer g h ≡ true))

-- The hits are the first k of the list in order, or all of it where it is shorter.
pub record AreFirst (k : ℕ) (xs hits : List Hit) : Type 0 where
  pub ordered : IsInOrder hits
  pub few : length hits ≤ k
  pub from : (h : Hit) → Member h hits → Member h xs
  pub rest : (h : Hit) → Member h xs → Member h hits ⊎ ((length hits ≡ k) × ((g : Hit) → Member g hits → is_nearer g h ≡ true))
