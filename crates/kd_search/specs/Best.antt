-- The live item in a box that is nearest to its centre.
use Rattle.std.specs.Prelude.{◌≡◌, true, false, List, [], ◌∷◌, if◌then◌else◌}
use Rattle.std.specs.declared.option.Option.{Option}
use Rattle.std.specs.declared.option.Option.TheVariants.{None, Some}
use Rattle.point_geom.specs.Place.{Bounds}
use Rattle.point_geom.specs.Boxes.{holds}
use Rattle.map_items.specs.declared.item.Item.{Item}
use Rattle.map_items.specs.Contents.{centre_cmp, comes_before, least, live_items, Member}
use Rattle.map_fold.specs.Answers.{inside_all}

-- the least item of a list, if it has one
abbrev pub best_of : Bounds → List Item → Option Item
best_of c [] = None
best_of c (i ∷ m) = Some (least (centre_cmp c) i m)

-- the least live item in the box, if there is one
abbrev pub best_inside : List Item → Bounds → Option Item
best_inside m c = best_of c (inside_all m c)

-- It is live and in the box, and no other that is comes before it.
pub record IsBest (m : List Item) (c : Bounds) (i : Item) : Type 0 where
  pub live : Member i (live_items m)
  pub held : holds c i.point ≡ true
  pub first : (j : Item) → Member j (live_items m) → holds c j.point ≡ true → comes_before c j i ≡ false

-- the better of the best so far and one more
abbrev pub better : Bounds → Option Item → Item → Option Item
better c None i = Some i
better c (Some j) i = if comes_before c i j then Some i else Some j

-- the best of the best so far and a list
abbrev pub best_from : Bounds → Option Item → List Item → Option Item
best_from c best [] = best
best_from c best (i ∷ m) = best_from c (better c best i) m
