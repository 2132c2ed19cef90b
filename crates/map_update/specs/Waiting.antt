-- Boxes that are to be thinned in a tree, and items that wait to be put into it then. Cited by private functions alone.
use Rattle.std.specs.Prelude.{◌≡◌, ℕ, ◌<◌, ◌⊎◌, true, false, List, [], ◌∷◌, ◌++◌, All}
use Rattle.point_geom.specs.Place.{Bounds}
use Rattle.point_geom.specs.Boxes.{voxel}
use Rattle.node_labels.specs.Labels.{thin_tag}
use Rattle.map_items.specs.declared.item.Item.{Item}
use Rattle.map_items.specs.Contents.{AreContents, in_box, mark}
use Rattle.kd_tree.specs.Contents.{by_number, contents}
use Rattle.kd_tree.specs.Shape.{numbers}
use Rattle.kd_update.specs.Scan.{AreLive}
use Rattle.map_update.specs.Clearing.{in_some}
use Rattle.map_update.specs.declared.waiting.Waiting.{Waiting}

-- what the tree holds once its boxes are thinned
abbrev pub left_in : Waiting → List Item
left_in w = mark (contents w.draft.tree) (in_some w.cuboids.items) thin_tag

-- that and what waits, by number
abbrev pub contents_of : Waiting → List Item
contents_of w = by_number (left_in w ++ w.items.items)

-- What waits is live, no number occurs twice, and each is below the next one, in the tree too.
pub record IsWaiting (next : ℕ) (w : Waiting) : Type 0 where
  pub live : AreLive w.items.items
  pub held : AreContents 0 next (contents_of w)
  pub given : All (λ i. i.number < next) w.items.items
  pub below : All (λ n. n < next) (numbers w.draft.tree)

-- Nothing that waits is in the box, and nothing in it is in a box that is to be thinned.
pub record IsClear (c : Bounds) (w : Waiting) : Type 0 where
  pub none : All (λ i. in_box c i ≡ false) w.items.items
  pub apart : (i : Item) → in_box c i ≡ true → in_some w.cuboids.items i ≡ false

-- No more is to be thinned than before, or a part of the box; and what waits is the same, or one item of the box more.
pub record IsJoined (c : Bounds) (before after : Waiting) : Type 0 where
  pub cuboids : (after.cuboids.items ≡ before.cuboids.items)
      ⊎ ((d : Bounds) × ((i : Item) → in_box d i ≡ true → in_box c i ≡ true) × (after.cuboids.items ≡ before.cuboids.items ++ d ∷ []))
  pub items : (after.items.items ≡ before.items.items) ⊎ ((i : Item) × (in_box c i ≡ true) × (after.items.items ≡ before.items.items ++ i ∷ []))

-- the voxel of each of the items is clear
abbrev pub AreClear : ℕ → Waiting → List Item → Type 0
AreClear edge w is = All (λ i. IsClear (voxel edge i.point) w) is
