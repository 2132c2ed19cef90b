-- What is searched, and what is found. Cited by private functions alone.
use Rattle.std.specs.Prelude.{List}
use Rattle.point_geom.specs.Place.{Place}
use Rattle.map_items.specs.declared.item.Item.{Item}
use Rattle.map_fold.specs.declared.hits.Hit.{Hit}
use Rattle.map_fold.specs.Answers.{nearest}
use Rattle.kd_tree.specs.Contents.{contents}
use Rattle.batch_near.specs.declared.search.Search.{Search}
use Rattle.batch_near.specs.declared.search.Searched.{Searched}
use Rattle.batch_near.specs.declared.search.Searched.TheVariants as Searched

-- the items among which the nearest are found
abbrev pub items_of : Searched → List Item
items_of (Searched.Tree t) = contents t.now
items_of (Searched.Frozen f) = f.now

-- what a search finds for a place
abbrev pub found_by : Search → Place → List Hit
found_by s q = nearest (items_of s.searched) s.k q s.within
