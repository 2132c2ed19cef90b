-- A subtree that another tree replaces.
use Rattle.std.specs.Prelude.{◌≡◌, ℕ, ◌≤◌, List, [], ◌∷◌, ◌++◌, Some}
use Rattle.kd_tree.specs.Shape.{Shape, leaf, fork, nodes, levels, numbers}
use Rattle.kd_tree.specs.Contents.{contents}
use Rattle.kd_tree.specs.Parts.{at, replaced_at}
use Rattle.kd_tree.specs.Apart.{AreApart}
use Rattle.kd_tree.specs.declared.path.Side.{Side}
use Rattle.kd_tree.specs.declared.path.Side.TheVariants.{Left, Right}
use Rattle.kd_mark.specs.Refresh.{AreAmong, IsNotDue}
use Rattle.kd_mark.specs.Update.{IsBalancedBelow}
use Rattle.kd_mark.specs.Watch.{IsLargeAt}
use Rattle.kd_mark.specs.Several.{IsBalancedClear}
use Rattle.kd_tree.specs.declared.limits.TheConstants.{MAX_LEVELS, MAX_NODES}

-- there is a subtree at the path, and the other tree holds what it holds by itself
pub record StandsFor (path : List Side) (t other : Shape) : Type 0 where
  pub node : Shape
  pub there : at path t ≡ Some node
  pub same : contents other ≡ contents node

-- the tree with the other at the path has no more levels and nodes than a tree may have
pub record HasRoomAt (path : List Side) (other t : Shape) : Type 0 where
  pub low : levels (replaced_at path other t) ≤ MAX_LEVELS
  pub few : nodes (replaced_at path other t) ≤ MAX_NODES

-- no node above the path's end is to be rebuilt
abbrev pub RebuildsNoneAbove : ℕ → List Side → Shape → Type 0
RebuildsNoneAbove large [] t = Unit {0}
RebuildsNoneAbove large (side ∷ path) leaf = Unit {0}
RebuildsNoneAbove large (Left ∷ path) (fork h l r) = IsNotDue large (fork h l r) × RebuildsNoneAbove large path l
RebuildsNoneAbove large (Right ∷ path) (fork h l r) = IsNotDue large (fork h l r) × RebuildsNoneAbove large path r

-- the second tree has no more levels and nodes than the first
pub record IsNoLarger (s t : Shape) : Type 0 where
  pub few : nodes t ≤ nodes s
  pub low : levels t ≤ levels s

-- The new tree is the old one with the other at the path, and some nodes above it rebuilt: none with a large subtree next to
-- the path, none at all where none is to be, and enough to stay balanced.
pub record IsReplaced (large : ℕ) (path : List Side) (old other new : Shape) : Type 0 where
  pub held : contents new ≡ contents old
  pub size : IsNoLarger (replaced_at path other old) new
  pub from : AreAmong (numbers new) (numbers other ++ numbers old)
  pub beside : (p : List Side) → AreApart path p → IsLargeAt large p old → at p new ≡ at p old
  pub balance : (ps : List (List Side)) → IsBalancedClear large (path ∷ ps) old → IsBalancedBelow large other → IsBalancedClear large ps new
  pub unrebuilt : RebuildsNoneAbove large path (replaced_at path other old) → new ≡ replaced_at path other old
