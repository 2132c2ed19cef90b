-- Trees as maps.
use Rattle.std.specs.Prelude.{ℕ}
use Rattle.map_items.specs.Fold.{MapAt}
use Rattle.kd_tree.specs.Shape.{Shape}
use Rattle.kd_tree.specs.Contents.{contents}

-- a tree, and how many points were submitted, as a map
abbrev pub map_of : Shape → ℕ → MapAt
map_of t next = record { items = contents t; next = next }
