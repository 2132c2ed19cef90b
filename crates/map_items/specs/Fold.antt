-- What updates make of a map.
use Rattle.std.specs.Prelude.{ℕ, ◌+◌, List, [], ◌∷◌, length}
use Rattle.point_geom.specs.Place.{Place, Bounds}
use Rattle.node_labels.specs.declared.tag.Tag.{Tag}
use Rattle.node_labels.specs.Labels.{delete_tag, suspend_tag, restore_tag}
use Rattle.map_items.specs.declared.item.Item.{Item}
use Rattle.map_items.specs.declared.update.Update.{Update}
use Rattle.map_items.specs.declared.update.Update.TheVariants.{Add, Thin, Delete, Suspend, Restore, Expire}
use Rattle.map_items.specs.Contents.{put, mark, thin, in_box, chosen_by, below_number}

-- what is held, and how many points were submitted
pub record MapAt : Type 0 where
  pub items : List Item
  pub next : ℕ

-- a map to which nothing was submitted
abbrev pub no_points : MapAt
no_points = record { items = []; next = 0 }

-- each point in turn is live under the next number
abbrev pub add_points : List Place → MapAt → MapAt
add_points [] m = m
add_points (p ∷ ps) m = add_points ps (record { items = put m.items m.next p; next = m.next + 1 })

-- each point in turn takes the next number, and its voxel keeps the winner
abbrev pub thin_points : ℕ → List Place → MapAt → MapAt
thin_points length [] m = m
thin_points length (p ∷ ps) m = thin_points length ps (record { items = thin length m.items m.next p; next = m.next + 1 })

-- the action is done to each box in turn
abbrev pub mark_boxes : Tag → List Bounds → MapAt → MapAt
mark_boxes a [] m = m
mark_boxes a (c ∷ cs) m = mark_boxes a cs (record m { items = mark m.items (in_box c) a })

-- one update, on a map whose voxels have this edge
abbrev pub step : ℕ → Update → MapAt → MapAt
step voxel (Add ps) m = add_points ps m
step voxel (Thin ps) m = thin_points voxel ps m
step voxel (Delete cs) m = mark_boxes delete_tag cs m
step voxel (Suspend cs) m = mark_boxes suspend_tag cs m
step voxel (Restore cs) m = mark_boxes restore_tag cs m
step voxel (Expire n) m = record m { items = mark m.items (chosen_by (below_number n)) delete_tag }

-- updates in order
abbrev pub fold_from : ℕ → List Update → MapAt → MapAt
fold_from voxel [] m = m
fold_from voxel (u ∷ us) m = fold_from voxel us (step voxel u m)

-- all updates in order, from nothing, on a map whose voxels have this edge, in millimetres
abbrev pub fold : ℕ → List Update → MapAt
fold voxel us = fold_from voxel us no_points

-- how many points an update submits
abbrev pub points_in : Update → ℕ
points_in (Add ps) = length ps
points_in (Thin ps) = length ps
points_in (Delete cs) = 0
points_in (Suspend cs) = 0
points_in (Restore cs) = 0
points_in (Expire n) = 0
