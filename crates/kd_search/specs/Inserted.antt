-- Items put in the order of their numbers. Cited by private functions alone.
use Rattle.std.specs.Prelude.{List, [], ◌∷◌}
use Rattle.map_items.specs.declared.item.Item.{Item}
use Rattle.kd_tree.specs.Contents.{insert_item}

-- all of the first, the last first, each in its place in the second
abbrev pub insert_all : List Item → List Item → List Item
insert_all [] m = m
insert_all (i ∷ items) m = insert_item i (insert_all items m)
