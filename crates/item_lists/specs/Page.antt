-- The first of some items by number. Cited by private functions alone.
use Rattle.std.specs.Prelude.{◌≡◌, ℕ, List, take}
use Rattle.map_items.specs.declared.item.Item.{Item}
use Rattle.kd_tree.specs.Contents.{AreDistinct, by_number}

-- they are the first n of the others by number, in some order
pub record IsFront (n : ℕ) (all front : List Item) : Type 0 where
  pub distinct : AreDistinct front
  pub first : by_number front ≡ take n (by_number all)
