-- What an update leaves, and how many nodes it makes.
use Rattle.std.specs.Prelude.{◌≡◌, ℕ, ◌+◌, ◌*◌, ◌≤◌, List, [], ◌∷◌}
use Rattle.point_geom.specs.Place.{Place}
use Rattle.map_items.specs.Contents.{Member}
use Rattle.map_items.specs.declared.op.Op.{Op}
use Rattle.map_items.specs.declared.update.Update.{Update}
use Rattle.map_items.specs.declared.update.Update.TheVariants.{Thin}
use Rattle.kd_tree.specs.Shape.{Shape}
use Rattle.rebuild_core.specs.Lawful.{StateAt}
use Rattle.rebuild_core.specs.OnePoint.{IsThinnedFrom, IsRejectedFrom}
use Rattle.kd_update.specs.Detached.{AreLeft, PartAt}
use Rattle.map_update.specs.Single.{entered_nodes, unrebuilt}
use Rattle.rebuild_core.specs.Stays.{HasOwnRoom, HasTreeRoom, StaysAmong, logged_by}
use Rattle.rebuild_core.specs.Steps.{IsUnrebuiltUpdate}

-- The update leaves these parts and this tree of the state.
pub record IsLeftByUpdate (u : Update) (s : StateAt) (ps : List PartAt) (t : Shape) : Type 0 where
  -- each part that is left is one of the state's, in their order, and its log begins with what it was
  pub left : AreLeft s.parts ps
  -- unless the tree is rebuilt for its bounds, a part is forgotten only where its own log can be full before an operation
  pub kept : HasTreeRoom u s → (p : PartAt) → Member p s.parts → HasOwnRoom u p → StaysAmong p ps
  -- of one operation that rebuilds nothing each part logs exactly what that is to it
  pub logged : (op : Op) → IsUnrebuiltUpdate u op s → ps ≡ logged_by op s.tree s.parts
  pub unrebuilt : (op : Op) → IsUnrebuiltUpdate u op s → t ≡ unrebuilt op s.tree
  -- where one point thins its voxel, what is left is said without the way it is made
  pub thinned : (p : Place) → u ≡ Thin (p ∷ []) → IsThinnedFrom s p t
  pub rejected : (p : Place) → u ≡ Thin (p ∷ []) → IsRejectedFrom s p → t ≡ s.tree

-- The update makes so many nodes: the counter rises from the one number to the other.
pub record MakesNodes (u : Update) (s : StateAt) (before after : ℕ) : Type 0 where
  -- one operation that rebuilds nothing makes at most five for each node that it enters, and one more
  pub nodes_made : (op : Op) → IsUnrebuiltUpdate u op s → after ≤ before + (5 * entered_nodes op s.tree + 1)
  -- one point that is rejected makes none
  pub no_nodes_made : (p : Place) → u ≡ Thin (p ∷ []) → IsRejectedFrom s p → after ≡ before
