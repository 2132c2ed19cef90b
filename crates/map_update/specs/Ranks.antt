-- Entrants with their voxels, and the order in which they are sorted. Cited by private functions alone.
use Rattle.std.specs.Prelude.{◌≡◌, ℕ, List, All, map}
use Rattle.std.specs.Ordering.{int_cmp, nat_cmp, ordering_then}
use Rattle.std.specs.declared.cmp.Ordering.{Ordering}
use Rattle.point_geom.specs.Axes.{place_cmp}
use Rattle.point_geom.specs.Boxes.{voxel}
use Rattle.point_geom.specs.Distances.{centre_dist2}
use Rattle.point_geom.specs.declared.cuboid.Corner.{Corner}
use Rattle.map_items.specs.declared.item.Item.{Item}
use Rattle.map_update.specs.declared.entrants.Entrant.{Entrant}

-- an item with its voxel
abbrev pub entrant_of : ℕ → Item → Entrant
entrant_of edge i = record { item = i; cube = voxel edge i.point }

-- the entrants' items, in their order
abbrev pub items_in : List Entrant → List Item
items_in es = map (λ e. e.item) es

-- each has its own voxel
abbrev pub HaveVoxels : ℕ → List Entrant → Type 0
HaveVoxels edge es = All (λ e. e.cube ≡ voxel edge e.item.point) es

-- corners are compared by x, then y, then z
abbrev pub corner_cmp : Corner → Corner → Ordering
corner_cmp c d = ordering_then (int_cmp c.x d.x) (ordering_then (int_cmp c.y d.y) (int_cmp c.z d.z))

-- entrants of one voxel are compared as they win: by the distance to its centre, then the place, then the number
abbrev pub inside_cmp : Entrant → Entrant → Ordering
inside_cmp e f =
    ordering_then (nat_cmp (centre_dist2 e.cube e.item.point) (centre_dist2 f.cube f.item.point))
    (ordering_then (place_cmp e.item.point f.item.point) (nat_cmp e.item.number f.item.number))

-- entrants are compared by the voxel, and then as in one voxel
abbrev pub entrant_cmp : Entrant → Entrant → Ordering
entrant_cmp e f = ordering_then (corner_cmp e.cube.lo f.cube.lo) (inside_cmp e f)
