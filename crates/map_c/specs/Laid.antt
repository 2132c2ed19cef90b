-- What is laid side by side, and what is searched.
use Rattle.std.specs.Prelude.{◌≡◌, List, Option, None, Some}
use Rattle.map_items.specs.declared.item.Item.{Item}
use Rattle.map_items.specs.Contents.{live_items}
use Rattle.map_fold.specs.Answers.{inside_all}
use Rattle.kd_tree.specs.Contents.{contents}
use Rattle.map_c.specs.declared.handles.content.Around.{Around}

-- what is searched is what is laid, or all that is live in the version round it
abbrev pub searched_items : List Item → Option Around → List Item
searched_items laid None = laid
searched_items laid (Some a) = live_items (contents a.version.value.tree)

-- what is laid of a version is what is live in the cuboid
abbrev pub IsLaid : List Item → Option Around → Type 0
IsLaid laid None = Unit {0}
IsLaid laid (Some a) = laid ≡ inside_all (contents a.version.value.tree) a.cuboid
