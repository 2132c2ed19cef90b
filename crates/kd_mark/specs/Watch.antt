-- What an action does to the subtree at a path, as operations on that subtree's own items.
use Rattle.std.specs.Prelude.{◌≡◌, ℕ, ◌≤◌, Bool, false, ◌&&◌, List, [], ◌∷◌, ◌++◌, Some, if◌then◌else◌}
use Rattle.map_items.specs.declared.choice.Choice.{Choice}
use Rattle.kd_mark.specs.Reach.{meets, reach_of}
use Rattle.node_labels.specs.Labels.{is_live, is_suspended}
use Rattle.node_labels.specs.declared.tag.Tag.{Tag}
use Rattle.map_items.specs.Contents.{all_items}
use Rattle.map_items.specs.declared.op.Op.{Op}
use Rattle.map_items.specs.declared.op.Op.TheVariants.{Mark}
use Rattle.map_items.specs.Ops.{Fit, replay}
use Rattle.kd_tree.specs.Shape.{Shape, leaf, fork, nodes}
use Rattle.kd_tree.specs.Walk.{tagged}
use Rattle.kd_tree.specs.Contents.{contents}
use Rattle.kd_tree.specs.Parts.{at, child}
use Rattle.kd_tree.specs.declared.path.Side.{Side}
use Rattle.kd_mark.specs.Mark.{is_entered}

-- a node of at least `large` nodes is at the path
pub record IsLargeAt (large : ℕ) (path : List Side) (t : Shape) : Type 0 where
  pub node : Shape
  pub there : at path t ≡ Some node
  pub size : large ≤ nodes node

-- the action that changes no label
abbrev pub is_keep : Tag → Bool
is_keep a = is_live a.live && is_suspended a.suspended

-- What a parent hands down to its child, where the path goes on from the child: where the child is the watched root, an
-- action other than KEEP is an operation on all of it.
abbrev pub handed : List Side → Tag → List Op
handed [] a = if is_keep a then [] else Mark all_items a ∷ []
handed (side ∷ path) a = []

-- the box meets the extent of what is there
abbrev pub is_met : Choice → Shape → Bool
is_met c leaf = false
is_met c (fork h l r) = meets c (reach_of h l r)

-- What is logged of an action in a box, for the subtree at the path. Where each node above is entered, it is what the last of
-- them hands down to the watched root, and the action in the box, if the box meets the root's extent.
unfoldable pub logged_mark : Choice → Tag → List Side → Shape → List Op
logged_mark c a [] t = if is_met c t then Mark c a ∷ [] else []
logged_mark c a (side ∷ path) leaf = []
logged_mark c a (side ∷ path) (fork h l r) = if is_entered c (reach_of h l r) then handed path h.pending ++ logged_mark c a path (tagged h.pending (child side l r)) else []

-- Of the subtree at the path, the new tree has what the operations make of the old tree's own contents, which they fit.
pub record IsWatched (path : List Side) (old new : Shape) (ops : List Op) : Type 0 where
  pub before : Shape
  pub after : Shape
  pub was : at path old ≡ Some before
  pub is : at path new ≡ Some after
  pub size : nodes before ≤ nodes after
  pub fit : Fit (contents before) ops
  pub replayed : contents after ≡ replay (contents before) ops
