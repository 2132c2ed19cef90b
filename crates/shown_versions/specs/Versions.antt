-- Which version shows a history.
use Rattle.std.specs.Prelude.{◌≡◌, ℕ, List, length}
use Rattle.map_items.specs.declared.entry.Entry.{Entry}
use Rattle.map_items.specs.declared.item.Item.{Item}
use Rattle.map_items.specs.Fold.{fold}
use Rattle.rebuild_parts.specs.History.{updates}
use Rattle.rebuild_parts.specs.Seen.{VersionAt}
use Rattle.kd_tree.specs.Maps.{map_of}

-- what the map holds after all entries
abbrev pub held : ℕ → List Entry → List Item
held voxel h = (fold voxel (updates h)).items

-- the version holds what the history leaves, and shows how many points and entries it had
pub record IsVersionOf (voxel : ℕ) (h : List Entry) (v : VersionAt) : Type 0 where
  pub folded : map_of v.tree v.next ≡ fold voxel (updates h)
  pub len : v.len ≡ length h
