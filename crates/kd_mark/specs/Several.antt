-- What an update does while several subtrees are watched.
use Rattle.std.specs.Prelude.{◌≡◌, ℕ, false, List, [], ◌∷◌, if◌then◌else◌}
use Rattle.kd_tree.specs.Shape.{Shape, leaf, fork}
use Rattle.kd_tree.specs.Parts.{at}
use Rattle.kd_tree.specs.Apart.{is_here, onward}
use Rattle.kd_tree.specs.declared.path.Side.{Side}
use Rattle.kd_tree.specs.declared.path.Side.TheVariants.{Left, Right}
use Rattle.kd_mark.specs.Refresh.{IsRefresh}
use Rattle.kd_mark.specs.Update.{IsBalancedTop}
use Rattle.kd_mark.specs.Watch.{IsLargeAt}

-- each node from 10 nodes on, and of fewer than large ones have, meets the balance criterion, outside the subtrees at the paths
abbrev pub IsBalancedClear : ℕ → List (List Side) → Shape → Type 0
IsBalancedClear large ps leaf = Unit {0}
IsBalancedClear large ps (fork h l r) = is_here ps ≡ false → IsBalancedTop large l r × IsBalancedClear large (onward Left ps) l × IsBalancedClear large (onward Right ps) r

-- a node of at least `large` nodes is at each path
abbrev pub AreLargeAt : ℕ → List (List Side) → Shape → Type 0
AreLargeAt large [] t = Unit {0}
AreLargeAt large (p ∷ ps) t = IsLargeAt large p t × AreLargeAt large ps t

-- the same is at each path
abbrev pub AreSameAt : List (List Side) → Shape → Shape → Type 0
AreSameAt [] new old = Unit {0}
AreSameAt (p ∷ ps) new old = (at p new ≡ at p old) × AreSameAt ps new old

-- from how many nodes on none is rebuilt: 0 where a path ends, and else `large`
abbrev pub large_at : List (List Side) → ℕ → ℕ
large_at ps large = if is_here ps then 0 else large

-- The new tree is the plain result with some subtrees rebuilt, none of them above a path, at its end or below it: none at
-- all where the fact holds, and enough to stay balanced.
pub record IsUpdatedClear (large : ℕ) (ps : List (List Side)) (old plain : Shape) (Calm : Type 0) (new : Shape) : Type 0 where
  pub refresh : IsRefresh plain new
  pub same : AreSameAt ps new plain
  pub unrebuilt : Calm → new ≡ plain
  pub balance : IsBalancedClear large ps old → IsBalancedClear large ps new

-- the fact holds of each path
abbrev pub AreWatched : (List Side → Type 0) → List (List Side) → Type 0
AreWatched F [] = Unit {0}
AreWatched F (p ∷ ps) = F p × AreWatched F ps
