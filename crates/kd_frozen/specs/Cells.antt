-- Cells as items. Cited by private functions alone.
use Rattle.std.specs.Prelude.{List, map}
use Rattle.map_items.specs.declared.item.Item.{Item}
use Rattle.map_items.specs.Contents.{live_at}
use Rattle.kd_frozen.specs.declared.cell.Cell.{Cell}

-- the item that a cell holds is live
abbrev pub item_of : Cell → Item
item_of c = live_at c.number c.point

abbrev pub items_of : List Cell → List Item
items_of m = map item_of m
