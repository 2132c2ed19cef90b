-- Boxes that are thinned together: what is live in any of them is dropped.
use Rattle.std.specs.Prelude.{◌≤◌, List, Bool, IsPermutation}
use Rattle.std.specs.List.{list_any}
use Rattle.point_geom.specs.Place.{Bounds}
use Rattle.node_labels.specs.Labels.{keep_tag, thin_tag}
use Rattle.map_items.specs.declared.item.Item.{Item}
use Rattle.map_items.specs.Contents.{in_box, mark}
use Rattle.kd_tree.specs.Shape.{Shape, levels, nodes, numbers}
use Rattle.kd_tree.specs.Walk.{walk}
use Rattle.kd_mark.specs.Refresh.{AreAmong}

-- the item lies in one of the boxes
abbrev pub in_some : List Bounds → Item → Bool
in_some cs i = list_any (λ c. in_box c i) cs

-- The second tree has what remains of the first after the boxes were thinned, on no more nodes and levels.
pub record IsCleared (cs : List Bounds) (s t : Shape) : Type 0 where
  pub same : IsPermutation (mark (walk keep_tag s) (in_some cs) thin_tag) (walk keep_tag t)
  pub few : nodes t ≤ nodes s
  pub low : levels t ≤ levels s
  pub from : AreAmong (numbers t) (numbers s)
