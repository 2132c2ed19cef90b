-- Updates one after the other.
use Rattle.std.proofs.Common.{◌≡◌, ℕ, ◌+◌, List, [], ◌∷◌, ◌++◌, length, refl, arith}
use Rattle.point_geom.specs.Place.{Place, Bounds}
use Rattle.node_labels.specs.Labels.{delete_tag, suspend_tag, restore_tag}
use Rattle.node_labels.specs.declared.tag.Tag.{Tag}
use Rattle.map_items.specs.declared.update.Update.{Update}
use Rattle.map_items.specs.declared.update.Update.TheVariants.{Add, Thin, Delete, Suspend, Restore, Expire}
use Rattle.map_items.specs.Contents.{put, mark, thin, in_box}
use Rattle.map_items.specs.Fold.{MapAt, step, fold_from, points_in, add_points, thin_points, mark_boxes}

-- each point that is added takes a number
pub add_next : (ps : List Place) (m : MapAt) → (add_points ps m).next ≡ m.next + length ps
add_next [] m = omega arith
add_next (p ∷ ps) m = omega (arith, add_next ps (record { items = put m.items m.next p; next = m.next + 1 }))

-- so does each that thins its voxel
pub thin_next : (edge : ℕ) (ps : List Place) (m : MapAt) → (thin_points edge ps m).next ≡ m.next + length ps
thin_next edge [] m = omega arith
thin_next edge (p ∷ ps) m = omega (arith, thin_next edge ps (record { items = thin edge m.items m.next p; next = m.next + 1 }))

-- a mark takes none
pub mark_next : (a : Tag) (cs : List Bounds) (m : MapAt) → (mark_boxes a cs m).next ≡ m.next
mark_next a [] m = refl
mark_next a (c ∷ cs) m = mark_next a cs (record m { items = mark m.items (in_box c) a })

-- an update takes as many numbers as it submits points
pub step_next : (voxel : ℕ) (u : Update) (m : MapAt) → (step voxel u m).next ≡ m.next + points_in u
step_next voxel (Add ps) m = add_next ps m
step_next voxel (Thin ps) m = thin_next voxel ps m
step_next voxel (Delete cs) m = omega (arith, mark_next delete_tag cs m)
step_next voxel (Suspend cs) m = omega (arith, mark_next suspend_tag cs m)
step_next voxel (Restore cs) m = omega (arith, mark_next restore_tag cs m)
step_next voxel (Expire n) m = omega arith

-- one more update at the end is the last step
pub fold_from-push : (voxel : ℕ) (us : List Update) (u : Update) (m : MapAt) → fold_from voxel (us ++ u ∷ []) m ≡ step voxel u (fold_from voxel us m)
fold_from-push voxel [] u m = refl
fold_from-push voxel (v ∷ us) u m = fold_from-push voxel us u (step voxel v m)
