-- A subtree, with the action that is pending above it. Cited by private functions alone.
use Rattle.std.specs.Prelude.{◌≡◌, ℕ, ◌+◌, ◌≤◌, List, [], ◌∷◌, ◌++◌}
use Rattle.map_items.specs.declared.item.Item.{Item}
use Rattle.map_items.specs.Contents.{kept}
use Rattle.kd_tree.specs.Shape.{nodes}
use Rattle.kd_tree.specs.Walk.{walk}
use Rattle.kd_tree.specs.Contents.{AreDistinct}
use Rattle.kd_search.specs.Points.{AreBelow, AreAbove}
use Rattle.kd_search.specs.declared.pending.Pending.{Pending}
use Rattle.kd_search.specs.declared.pending.PendingTop.{PendingTop}
use Rattle.kd_tree.specs.declared.limits.TheConstants.{MAX_NODES}

-- its remaining items, node first
abbrev pub items_of : Pending → List Item
items_of p = walk p.pending p.tree.now

-- how many nodes it has, dropped ones too
abbrev pub nodes_of : Pending → ℕ
nodes_of p = nodes p.tree.now

-- a part is its top item, unless that is dropped, and both children
pub record IsTopOf (p : Pending) (t : PendingTop) : Type 0 where
  pub items : items_of p ≡ kept (t.item ∷ []) ++ (items_of t.left ++ items_of t.right)
  -- which lie on both sides of the item's plane
  pub below : AreBelow t.axis t.item.point (items_of t.left)
  pub above : AreAbove t.axis t.item.point (items_of t.right)
  -- and no number stands twice among them all
  pub distinct : AreDistinct (items_of p)
  pub nodes : nodes_of p ≡ nodes_of t.left + nodes_of t.right + 1
  pub few : nodes_of p ≤ MAX_NODES
