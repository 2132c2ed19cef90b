-- The clusters of a map.
use Rattle.std.specs.Prelude.{ℕ, List, filter, length, map}
use Rattle.map_items.specs.declared.item.Item.{Item}
use Rattle.map_items.specs.Contents.{live_items}
use Rattle.map_fold.specs.declared.group.Group.{Group}
use Rattle.map_fold.specs.Neighbours.{cluster, is_least}

-- an item's cluster, by its number and its size
abbrev pub group_of : List Item → ℕ → Item → Group
group_of m r e = record { least = e.number; size = length (cluster m r e) }

-- all clusters, by their least numbers
abbrev pub clusters : List Item → ℕ → List Group
clusters m r = map (group_of m r) (filter (is_least m r) (live_items m))
