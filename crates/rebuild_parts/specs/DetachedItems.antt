-- What a detached subtree held, as a tree or as a list.
use Rattle.std.specs.Prelude.{List}
use Rattle.map_items.specs.declared.item.Item.{Item}
use Rattle.map_items.specs.Contents.{Member}
use Rattle.kd_tree.specs.Contents.{contents}
use Rattle.rebuild_parts.specs.declared.detached_items.Listing.{Listing}
use Rattle.rebuild_parts.specs.declared.detached_items.Listing.TheVariants.{Unlisted, Listed}

-- the items, by number
abbrev pub items_held : Listing → List Item
items_held (Unlisted tree) = contents tree.value
items_held (Listed items) = items.value

-- each of the items is one of the others
abbrev pub AreAllFrom : List Item → List Item → Type 0
AreAllFrom items others = (i : Item) → Member i items → Member i others
