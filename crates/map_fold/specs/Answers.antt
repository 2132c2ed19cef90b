-- What queries return.
use Rattle.std.specs.Prelude.{ℕ, ◌*◌, Bool, true, List, [], ◌∷◌, map, filter, take, length, nat_le, if◌then◌else◌}
use Rattle.std.specs.Ordering.{nat_cmp, ordering_then, is_lt}
use Rattle.std.specs.declared.cmp.Ordering.{Ordering}
use Rattle.std.specs.declared.option.Option.{Option}
use Rattle.std.specs.declared.option.Option.TheVariants.{None, Some}
use Rattle.point_geom.specs.Place.{Place, Bounds}
use Rattle.point_geom.specs.Axes.{place_cmp}
use Rattle.point_geom.specs.Distances.{dist2}
use Rattle.map_items.specs.declared.item.Item.{Item}
use Rattle.map_fold.specs.declared.hits.Hit.{Hit}
use Rattle.map_items.specs.Contents.{live_items, in_box}

-- by distance, then by x, y, z, then by number
abbrev pub hit_cmp : Hit → Hit → Ordering
hit_cmp a b = ordering_then (nat_cmp a.dist2 b.dist2) (ordering_then (place_cmp a.point b.point) (nat_cmp a.number b.number))

-- a comes before b
abbrev pub is_nearer : Hit → Hit → Bool
is_nearer a b = is_lt (hit_cmp a b)

-- h before the first hit that comes after it
abbrev pub put_hit : Hit → List Hit → List Hit
put_hit h [] = h ∷ []
put_hit h (g ∷ hits) = if is_nearer g h then g ∷ put_hit h hits else h ∷ g ∷ hits

-- the hits in order
abbrev pub in_order : List Hit → List Hit
in_order [] = []
in_order (h ∷ hits) = put_hit h (in_order hits)

-- the item as it is found from q, with its squared distance in squared millimetres
abbrev pub hit_of : Place → Item → Hit
hit_of q i = record { number = i.number; point = i.point; dist2 = dist2 q i.point }

-- no farther than the greatest distance, where one is given
abbrev pub is_within : Option ℕ → Hit → Bool
is_within None h = true
is_within (Some r) h = nat_le h.dist2 (r * r)

-- the live items near enough, each with its distance
abbrev pub candidates : List Item → Place → Option ℕ → List Hit
candidates m q r = filter (is_within r) (map (hit_of q) (live_items m))

-- the first k of them, nearest first
abbrev pub nearest : List Item → ℕ → Place → Option ℕ → List Hit
nearest m k q r = take k (in_order (candidates m q r))

-- `nearest` for each place, in the order of the places
abbrev pub nearest_each : List Item → ℕ → List Place → Option ℕ → List (List Hit)
nearest_each m k qs r = map (λ q. nearest m k q r) qs

-- the k nearest of each place, however far they are
abbrev pub nears : List Item → ℕ → List Place → List (List Hit)
nears m k qs = nearest_each m k qs None

-- the live items in the box, by number
abbrev pub inside_all : List Item → Bounds → List Item
inside_all m c = filter (in_box c) (live_items m)

-- the first live items in the box by number, at most `most`
abbrev pub inside : List Item → Bounds → ℕ → List Item
inside m c most = take most (inside_all m c)

-- how many live items are in the box
abbrev pub count : List Item → Bounds → ℕ
count m c = length (inside_all m c)
