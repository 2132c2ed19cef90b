-- How many operations an update is, and what a single one makes of a tree where nothing is rebuilt.
use Rattle.std.specs.Prelude.{ℕ, ◌*◌, ◌<◌, List, [], ◌∷◌, length, Option, Some, None}
use Rattle.point_geom.specs.Place.{Bounds}
use Rattle.node_labels.specs.Labels.{delete_tag, suspend_tag, restore_tag}
use Rattle.node_labels.specs.declared.tag.Tag.{Tag}
use Rattle.map_items.specs.Contents.{below_number, inside_box}
use Rattle.map_items.specs.declared.op.Op.{Op}
use Rattle.map_items.specs.declared.op.Op.TheVariants.{Mark, Put}
use Rattle.map_items.specs.declared.update.Update.{Update}
use Rattle.map_items.specs.declared.update.Update.TheVariants.{Add, Thin, Delete, Suspend, Restore, Expire}
use Rattle.kd_tree.specs.Shape.{Shape, levels, nodes}
use Rattle.kd_mark.specs.Made.{entered_mark}
use Rattle.kd_update.specs.Made.{entered_put}
use Rattle.kd_mark.specs.Mark.{RebuildsNoneEntered, marked_shape}
use Rattle.kd_update.specs.Put.{RebuildsNoneOnRoute, put_shape}
use Rattle.kd_tree.specs.declared.limits.TheConstants.{MAX_LEVELS, MAX_NODES}

-- how many operations the update is at most: a point that thins its voxel may be an action and a point that is put
abbrev pub most_ops : Update → ℕ
most_ops (Add ps) = length ps
most_ops (Thin ps) = 2 * length ps
most_ops (Delete cs) = length cs
most_ops (Suspend cs) = length cs
most_ops (Restore cs) = length cs
most_ops (Expire n) = 1

-- the operation of an action on one box
abbrev pub only_mark : Tag → List Bounds → Option Op
only_mark a [] = None
only_mark a (c ∷ []) = Some (Mark (inside_box c) a)
only_mark a (c ∷ d ∷ cs) = None

-- the operation of an update that is one, where the next number is this one
abbrev pub only_op : ℕ → Update → Option Op
only_op next (Add []) = None
only_op next (Add (p ∷ [])) = Some (Put next p)
only_op next (Add (p ∷ q ∷ ps)) = None
only_op next (Thin ps) = None
only_op next (Delete cs) = only_mark delete_tag cs
only_op next (Suspend cs) = only_mark suspend_tag cs
only_op next (Restore cs) = only_mark restore_tag cs
only_op next (Expire n) = Some (Mark (below_number n) delete_tag)

-- the tree after the operation, where nothing is rebuilt
abbrev pub unrebuilt : Op → Shape → Shape
unrebuilt (Put n p) t = put_shape n p t
unrebuilt (Mark c a) t = marked_shape c a t

-- of the unrebuilt tree, no node that the operation enters is to be rebuilt
abbrev pub RebuildsNoneFor : ℕ → Op → Shape → Type 0
RebuildsNoneFor large (Put n p) t = RebuildsNoneOnRoute large p t
RebuildsNoneFor large (Mark c a) t = RebuildsNoneEntered large c t

-- how many nodes the operation enters
abbrev pub entered_nodes : Op → Shape → ℕ
entered_nodes (Put n p) t = entered_put p t
entered_nodes (Mark c a) t = entered_mark c t

-- The operation rebuilds nothing: there is room in the tree, and no node that is entered is to be rebuilt.
pub record RebuildsNothing (large : ℕ) (op : Op) (t : Shape) : Type 0 where
  pub low : levels t < MAX_LEVELS
  pub few : nodes t < MAX_NODES
  pub criteria : RebuildsNoneFor large op (unrebuilt op t)
