-- When a tree is sound.
use Rattle.std.specs.Prelude.{ℕ, ◌+◌, ◌≤◌, max, ◌≤ℤ◌}
use Rattle.point_geom.specs.Axes.{on}
use Rattle.node_labels.specs.Labels.{keep_tag}
use Rattle.kd_tree.specs.Shape.{Head, Shape, leaf, fork, nodes, levels}
use Rattle.kd_tree.specs.Walk.{AllKept, times}
use Rattle.kd_tree.specs.declared.limits.TheConstants.{MAX_NODES, MAX_LEVELS}

-- what holds of a node and its children
pub record IsSoundFork (h : Head) (l r : Shape) : Type 0 where
  -- of the remaining points, the left child's aren't above the node's, on its axis
  pub below : AllKept (λ p. on h.axis p ≤ℤ on h.axis h.item.point) h.pending l
  -- and the right child's aren't below it
  pub above : AllKept (λ p. on h.axis h.item.point ≤ℤ on h.axis p) h.pending r
  -- no number remains twice
  pub once : (n : ℕ) → times n keep_tag (fork h l r) ≤ 1
  pub few : nodes l + nodes r + 1 ≤ MAX_NODES
  pub low : max (levels l) (levels r) + 1 ≤ MAX_LEVELS

-- Of each node: the remaining points on its left side aren't above it on its axis, and those on its right aren't below
-- it; no number remains twice, and nodes and levels are few enough.
abbrev pub IsSound : Shape → Type 0
IsSound leaf = Unit {0}
IsSound (fork h l r) = IsSoundFork h l r × IsSound l × IsSound r

-- what holds of the top and its children, where there is a node
abbrev pub IsTopSound : Shape → Type 0
IsTopSound leaf = Unit {0}
IsTopSound (fork h l r) = IsSoundFork h l r
