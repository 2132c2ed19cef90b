-- When the state of a map is lawful.
use Rattle.std.specs.Prelude.{◌≡◌, ℕ, ◌<◌, ◌≤◌, List, [], length, All}
use Rattle.map_items.specs.Sizes.{Sizes, AreSizes}
use Rattle.map_items.specs.Fold.{fold}
use Rattle.kd_tree.specs.Shape.{Shape, leaf, numbers}
use Rattle.kd_tree.specs.Sound.{IsSound}
use Rattle.kd_mark.specs.Several.{IsBalancedClear}
use Rattle.map_items.specs.declared.entry.Entry.{Entry}
use Rattle.rebuild_parts.specs.History.{AreEntries, updates}
use Rattle.rebuild_parts.specs.Seen.{VersionAt}
use Rattle.kd_tree.specs.Maps.{map_of}
use Rattle.kd_update.specs.Detached.{AreLawfulParts, PartAt, paths}
use Rattle.map_items.specs.declared.limits.TheConstants.{MAX_POINTS}
use Rattle.rebuild_core.specs.declared.plan.TheConstants.{MAX_UPDATES}

-- the state of a map: the parts are in the order of their slots, and last is the last ticket that was given
pub record StateAt : Type 0 where
  pub settings : Sizes
  pub tree : Shape
  pub next : ℕ
  pub history : List Entry
  pub parts : List PartAt
  pub last : ℕ
  pub version : VersionAt

-- a state, and for how many more entries its history has room
pub record Stored : Type 0 where
  pub state : StateAt
  pub spare : ℕ

-- The state holds the fold of its history, within the limits; its tree is sound, and balanced outside its lawful parts, and its version shows this very tree.
pub record IsLawful (s : StateAt) : Type 0 where
  pub sizes : AreSizes s.settings
  pub sound : IsSound s.tree
  -- it holds the fold of its history, and the next number is how many points the history submitted
  pub folded : map_of s.tree s.next ≡ fold s.settings.voxel (updates s.history)
  pub few : s.next ≤ MAX_POINTS
  pub below : All (λ n. n < s.next) (numbers s.tree)
  pub short : length s.history ≤ MAX_UPDATES
  pub entries : AreEntries [] s.history
  pub parts : AreLawfulParts s.settings.large s.next s.last s.tree s.parts
  -- outside the parts
  pub balanced : IsBalancedClear s.settings.large (paths s.parts) s.tree
  -- the version is of the very tree, by its shape, and not only of what that holds
  pub shown : s.version.tree ≡ s.tree
  pub shown_next : s.version.next ≡ s.next
  pub shown_len : s.version.len ≡ length s.history

-- nothing was submitted
abbrev pub new_state : Sizes → StateAt
new_state settings = record {
  settings = settings;
  tree = leaf;
  next = 0;
  history = [];
  parts = [];
  last = 0;
  version = record { tree = leaf; next = 0; len = 0 };
}
