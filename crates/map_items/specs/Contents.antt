-- What a map holds: its items in the order of their numbers, each number once, none of them dropped.
use Rattle.std.specs.Prelude.{◌≡◌, ℕ, ◌+◌, ◌<◌, ◌≤◌, ◌⊎◌, Bool, true, false, not, ◌&&◌, List, [], ◌∷◌, map, filter, length, nat_lt, ◌==◌, if◌then◌else◌, Option, Some, None}
use Rattle.std.specs.Ordering.{nat_cmp, ordering_then, is_lt}
use Rattle.std.specs.declared.cmp.Ordering.{Ordering}
use Rattle.point_geom.specs.Place.{Place, Bounds}
use Rattle.point_geom.specs.Axes.{place_cmp}
use Rattle.point_geom.specs.Distances.{centre_dist2}
use Rattle.point_geom.specs.Boxes.{holds, voxel}
use Rattle.node_labels.specs.declared.label.Label.TheVariants.{Live}
use Rattle.node_labels.specs.declared.tag.Tag.{Tag}
use Rattle.node_labels.specs.declared.counts.Counts.{Counts}
use Rattle.node_labels.specs.Labels.{apply, is_live, is_suspended, is_dropped, thin_tag}
use Rattle.map_items.specs.declared.item.Item.{Item}
use Rattle.map_items.specs.declared.choice.Choice.{Choice}

-- x is in the list
abbrev pub Member : {X : Type 0} → X → List X → Type 0
Member x [] = ⊥
Member x (y ∷ ys) = (x ≡ y) ⊎ Member x ys

-- the numbers rise, from low on and below high, and no item is dropped
abbrev pub AreContents : ℕ → ℕ → List Item → Type 0
AreContents low high [] = Unit {0}
AreContents low high (i ∷ m) = (low ≤ i.number) × (i.number < high) × (is_dropped i.label ≡ false) × AreContents (i.number + 1) high m

-- the numbers rise, from low on
abbrev pub IsRising : ℕ → List Item → Type 0
IsRising low [] = Unit {0}
IsRising low (i ∷ m) = (low ≤ i.number) × IsRising (i.number + 1) m

-- a live item
abbrev pub live_at : ℕ → Place → Item
live_at n p = record { number = n; point = p; label = Live }

-- m with the number n mapped to p, live
abbrev pub put : List Item → ℕ → Place → List Item
put [] n p = live_at n p ∷ []
put (i ∷ m) n p =
    if nat_lt i.number n then i ∷ put m n p
    else (if i.number == n then live_at n p ∷ m else live_at n p ∷ i ∷ m)

-- the item under an action
abbrev pub relabelled : Tag → Item → Item
relabelled a i = record i { label = apply a i.label }

-- the item, under the action if it is chosen
abbrev pub marked_item : (Item → Bool) → Tag → Item → Item
marked_item chosen a i = if chosen i then relabelled a i else i

-- the items that aren't dropped
abbrev pub kept : List Item → List Item
kept m = filter (λ i. not (is_dropped i.label)) m

-- The action is done to each chosen item, and what it drops is gone.
abbrev pub mark : List Item → (Item → Bool) → Tag → List Item
mark m chosen a = kept (map (marked_item chosen a) m)

-- chosen by a box
abbrev pub in_box : Bounds → Item → Bool
in_box c i = holds c i.point

-- chosen by nothing
abbrev pub everything : Item → Bool
everything i = true

-- the number is below the bound, where there is one
abbrev pub is_above : Option ℕ → ℕ → Bool
is_above None n = true
is_above (Some bound) n = nat_lt n bound

-- the place is in the box, where there is one
abbrev pub is_inside : Option Bounds → Place → Bool
is_inside None p = true
is_inside (Some c) p = holds c p

-- chosen: in the choice's box, where there is one, and of a number below its bound, where there is one
abbrev pub chosen_by : Choice → Item → Bool
chosen_by c i = is_above c.below i.number && is_inside c.within i.point

-- the choice of all, that of a box, and that of a bound
abbrev pub all_items : Choice
all_items = record { within = None; below = None }

-- the items in the box, whatever their numbers
abbrev pub inside_box : Bounds → Choice
inside_box c = record { within = Some c; below = None }

-- the items of a number below the bound, wherever they are
abbrev pub below_number : ℕ → Choice
below_number n = record { within = None; below = Some n }

-- the items that are live, in their order
abbrev pub live_items : List Item → List Item
live_items m = filter (λ i. is_live i.label) m

-- nearer the centre of the box; then by x, y, z; then by number
abbrev pub centre_cmp : Bounds → Item → Item → Ordering
centre_cmp b i j =
    ordering_then (nat_cmp (centre_dist2 b i.point) (centre_dist2 b j.point))
    (ordering_then (place_cmp i.point j.point) (nat_cmp i.number j.number))

-- i comes before j, towards the centre of the box
abbrev pub comes_before : Bounds → Item → Item → Bool
comes_before b i j = is_lt (centre_cmp b i j)

-- the least item of i and the list
abbrev pub least : (Item → Item → Ordering) → Item → List Item → Item
least cmp i [] = i
least cmp i (j ∷ m) = least cmp (if is_lt (cmp j i) then j else i) m

-- of the live items in the voxel of p and the item (n, p), the one nearest the voxel's centre
abbrev pub winner : ℕ → List Item → ℕ → Place → Item
winner length m n p =
    let cube = voxel length p in
    least (centre_cmp cube) (live_at n p) (filter (in_box cube) (live_items m))

-- The winner stays live under its number, and the voxel's other live items are dropped.
abbrev pub thin : ℕ → List Item → ℕ → Place → List Item
thin length m n p =
    let w = winner length m n p in
    put (mark m (in_box (voxel length p)) thin_tag) w.number w.point

-- how many items are live
abbrev pub live_count : List Item → ℕ
live_count m = length (live_items m)

-- how many items are suspended
abbrev pub suspended_count : List Item → ℕ
suspended_count m = length (filter (λ i. is_suspended i.label) m)

-- how many are live and how many suspended
abbrev pub totals : List Item → Counts
totals m = record { live = live_count m; suspended = suspended_count m; dropped = 0 }
