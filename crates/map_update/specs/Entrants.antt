-- Points that enter a map by turns, each into its voxel, in an order of one's own. Cited by private functions alone.
use Rattle.std.specs.Prelude.{◌≡◌, ◌≢◌, ℕ, ◌<◌, true, false, List, [], ◌∷◌, All}
use Rattle.point_geom.specs.Place.{Place}
use Rattle.point_geom.specs.Boxes.{holds, voxel}
use Rattle.node_labels.specs.declared.label.Label.TheVariants.{Live}
use Rattle.map_items.specs.declared.item.Item.{Item}
use Rattle.map_items.specs.Contents.{comes_before, thin, Member}
use Rattle.map_items.specs.Ops.{IsUnheld}
use Rattle.kd_update.specs.Scan.{live_from}

-- the items in turn thin their voxels, each under its own number
abbrev pub thin_each : ℕ → List Item → List Item → List Item
thin_each edge m [] = m
thin_each edge m (i ∷ is) = thin_each edge (thin edge m i.number i.point) is

-- no item lies in the voxel of one before it
abbrev pub HaveOwnVoxels : ℕ → List Item → Type 0
HaveOwnVoxels edge [] = Unit {0}
HaveOwnVoxels edge (i ∷ is) = All (λ j. holds (voxel edge i.point) j.point ≡ false) is × HaveOwnVoxels edge is

-- an item of the list lies in the voxel of i, and i doesn't come before it
pub record IsBeaten (edge : ℕ) (fs : List Item) (i : Item) : Type 0 where
  pub by : Item
  pub there : Member by fs
  pub inside : holds (voxel edge i.point) by.point ≡ true
  pub behind : comes_before (voxel edge i.point) i by ≡ false

-- Of the points, under the numbers from next on, these are the first ones of their voxels: one of each voxel that a point lies in.
pub record AreFirsts (edge next : ℕ) (ps : List Place) (fs : List Item) : Type 0 where
  pub apart : HaveOwnVoxels edge fs
  pub within : (i : Item) → Member i fs → Member i (live_from next ps)
  pub beaten : (i : Item) → Member i (live_from next ps) → IsBeaten edge fs i

-- The item may enter: it is live, and its number is below the bound and not held.
pub record MayEnter (high : ℕ) (m : List Item) (i : Item) : Type 0 where
  pub live : i.label ≡ Live
  pub below : i.number < high
  pub unheld : IsUnheld i.number m

-- each of the items may enter, and no number occurs twice
abbrev pub AreEntrants : ℕ → List Item → List Item → Type 0
AreEntrants high m [] = Unit {0}
AreEntrants high m (i ∷ is) = MayEnter high m i × All (λ j. j.number ≢ i.number) is × AreEntrants high m is
