-- What a renewed map holds.
use Rattle.std.specs.Prelude.{◌≡◌, ◌≤◌, length, ℕ, ◌+◌, Bool, pos, negsuc, List, [], ◌∷◌, ◌++◌, map, filter}
use Rattle.point_geom.specs.Place.{Place, Bounds}
use Rattle.point_geom.specs.declared.cuboid.Corner.{Corner}
use Rattle.node_labels.specs.Labels.{is_live, is_suspended, is_dropped}
use Rattle.node_labels.specs.declared.label.Label.{Label}
use Rattle.node_labels.specs.declared.label.Label.TheVariants.{Live, Suspended, Dropped}
use Rattle.map_items.specs.declared.item.Item.{Item}
use Rattle.map_items.specs.Contents.{live_items, suspended_count}
use Rattle.map_items.specs.Fold.{add_points}
use Rattle.kd_tree.specs.Maps.{map_of}
use Rattle.rebuild_core.specs.Lawful.{StateAt}

-- the points of the items, in order
abbrev pub points_of : List Item → List Place
points_of m = map (λ i. i.point) m

-- the items that are suspended, in their order
abbrev pub suspended_items : List Item → List Item
suspended_items m = filter (λ i. is_suspended i.label) m

-- the points under this label and the numbers from n on
abbrev pub numbered_as : Label → ℕ → List Place → List Item
numbered_as l n [] = []
numbered_as l n (p ∷ ps) = record { point = p; number = n; label = l } ∷ numbered_as l (n + 1) ps

-- the points of the suspended items under the numbers from 0 on, and behind them those of the live ones
abbrev pub renewed_items : List Item → List Item
renewed_items m = numbered_as Suspended 0 (points_of (suspended_items m)) ++ numbered_as Live (suspended_count m) (points_of (live_items m))

-- the item has this label
abbrev pub is_labelled : Label → Item → Bool
is_labelled Live i = is_live i.label
is_labelled Suspended i = is_suspended i.label
is_labelled Dropped i = is_dropped i.label

-- the points of the items with this label, in order
abbrev pub points_with : Label → List Item → List Place
points_with l m = points_of (filter (is_labelled l) m)

-- the least corner that a box may have: on each axis the least coordinate of a point
abbrev pub least_corner : Corner
least_corner = record { x = negsuc 1099511627775; y = negsuc 1099511627775; z = negsuc 1099511627775 }

-- the greatest corner that a box may have: on each axis one past the greatest coordinate of a point
abbrev pub greatest_corner : Corner
greatest_corner = record { x = pos 1099511627777; y = pos 1099511627777; z = pos 1099511627777 }

-- the box that every point is in
abbrev pub all_places : Bounds
all_places = record { lo = least_corner; hi = greatest_corner }

-- The second state is the first with the points added, by one update at most. Cited by private functions alone.
pub record IsAdded (ps : List Place) (s t : StateAt) : Type 0 where
  pub added : map_of t.tree t.next ≡ add_points ps (map_of s.tree s.next)
  pub settings : t.settings ≡ s.settings
  pub short : length t.history ≤ length s.history + 1
