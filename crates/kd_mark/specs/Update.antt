-- What an update with rebuilding makes of a tree.
use Rattle.std.specs.Prelude.{◌≡◌, ℕ, ◌+◌, ◌<◌, ◌≤◌}
use Rattle.kd_tree.specs.Shape.{Shape, leaf, fork, nodes}
use Rattle.kd_tree.specs.Criteria.{IsBalanced, AllMeetCriteria}
use Rattle.kd_mark.specs.Refresh.{IsRefresh}

-- a node from 10 nodes on, and of fewer than large ones have, meets the balance criterion
abbrev pub IsBalancedTop : ℕ → Shape → Shape → Type 0
IsBalancedTop large l r = 10 ≤ nodes l + nodes r + 1 → nodes l + nodes r + 1 < large → IsBalanced l r

-- so does each node
abbrev pub IsBalancedBelow : ℕ → Shape → Type 0
IsBalancedBelow large leaf = Unit {0}
IsBalancedBelow large (fork h l r) = IsBalancedTop large l r × IsBalancedBelow large l × IsBalancedBelow large r

-- where the first tree is balanced, so is the second, for each `large`
abbrev pub KeepsBalance : Shape → Shape → Type 0
KeepsBalance s t = (large : ℕ) → IsBalancedBelow large s → IsBalancedBelow large t

-- The new tree is the old one with subtrees rebuilt, no node of at least 10 nodes breaches a criterion, and without a
-- breach it is the old one.
pub record IsSettled (old new : Shape) : Type 0 where
  pub refresh : IsRefresh old new
  pub criteria : AllMeetCriteria 10 new
  pub unrebuilt : AllMeetCriteria 10 old → new ≡ old
