-- What questions answer.
use Rattle.std.specs.Prelude.{◌≡◌, ◌≢◌, ◌<◌, ◌≤◌, ◌*◌, ◌/◌, ◌%◌, ◌⊎◌, ◌≤ℤ◌, ℕ, ℤ, pos, negsuc, List, map, length, take, Any, All, Option, None, Some, option_map}
use Rattle.std.specs.List.{flat_map}
use Rattle.point_geom.specs.Place as geom
use Rattle.node_labels.specs.declared.label.Label.{Label}
use Rattle.node_labels.specs.declared.label.Label.TheVariants.{Live, Suspended, Dropped}
use Rattle.map_fold.specs.Answers.{count, inside, nearest}
use Rattle.map_items.specs.Contents.{live_count, suspended_count}
use Rattle.map_fold.specs.declared.hits.Hit as found
use Rattle.map_items.specs.declared.item.Item as held
use Rattle.map_items.specs.declared.limits.TheConstants.{MAX_FOUND, MAX_WITHIN}
use Rattle.kd_tree.specs.Contents.{contents}
use Rattle.rebuild_parts.specs.Seen.{VersionAt}
use Rattle.map_c.specs.declared.handles.content.Content.{Content}
use Rattle.map_c.specs.declared.handles.content.Content.TheVariants as content
use Rattle.map_c.specs.declared.handles.forms.Place.{Place}
use Rattle.map_c.specs.declared.handles.forms.Point.{Point}
use Rattle.map_c.specs.declared.handles.forms.Bounds.{Bounds}
use Rattle.map_c.specs.declared.handles.forms.Hit.{Hit}
use Rattle.map_c.specs.declared.handles.forms.Item.{Item}
use Rattle.map_c.specs.declared.handles.forms.Totals.{Totals}
use Rattle.map_c.specs.Forms.{IsRightBox, IsRightPlace, bounds_at, place_at}
use Rattle.map_c.specs.Status.{bad_box, bad_number, done, empty, full, no_memory, no_room, out_of_range}

-- What a question returns: what was found, or a status that says why it is refused, and then nothing is counted. The handle holds
-- what it held, whichever it is.
pub record IsTold (Found : Type 0) (Refused : ℤ → Type 0) (old new : Option Content) (count : ℕ) (status : ℤ) : Type 0 where
  pub found : status ≡ done → Found
  pub refused : status ≢ done → Refused status
  pub none : status ≢ done → count ≡ 0
  pub same : new ≡ old

-- what is shown of what a handle holds: what its map is now, or what its view shows
abbrev pub shown_in : Option Content → Option VersionAt
shown_in None = None
shown_in (Some (content.Map s)) = Some (record { tree = s.tree; next = s.next; len = length s.history })
shown_in (Some (content.View v)) = Some v
shown_in (Some (content.Job w)) = None
shown_in (Some (content.Built b)) = None
shown_in (Some (content.Frozen m)) = None
shown_in (Some content.Nothing) = None

-- what it shows is held in these items
abbrev pub items_in : Option Content → Option (List held.Item)
items_in c = option_map (λ v. contents v.tree) (shown_in c)

-- a point, a hit and an item, as C has them
abbrev pub c_point : geom.Place → Point
c_point p = record { x = p.x; y = p.y; z = p.z; intensity = p.intensity }

-- a hit: its squared distance, in squared millimetres, is the high number times 2 ^ 64, and the low one added
abbrev pub c_hit : found.Hit → Hit
c_hit h = record { point = c_point h.point; dist2_high = h.dist2 / 18446744073709551616; dist2_low = h.dist2 % 18446744073709551616; number = h.number }

-- 1 where it is suspended
abbrev pub c_suspended : Label → ℕ
c_suspended Live = 0
c_suspended Suspended = 1
c_suspended Dropped = 0

-- an item
abbrev pub c_item : held.Item → Item
c_item i = record { point = c_point i.point; number = i.number; suspended = c_suspended i.label }

-- the greatest distance that C gives; none, where it is below 0
abbrev pub within_at : ℤ → Option ℕ
within_at (pos r) = Some r
within_at (negsuc n) = None

-- a search may ask for k hits, within this many millimetres
pub record IsSearch (k : ℕ) (within : ℤ) : Type 0 where
  pub k_from : 1 ≤ k
  pub k_to : k ≤ MAX_FOUND
  pub within_to : within ≤ℤ pos MAX_WITHIN

-- of these items the k live ones that are nearest to a place, within so many millimetres, as C has them
abbrev pub nearest_hits : List held.Item → ℕ → Option ℕ → Place → List Hit
nearest_hits m k r p = map c_hit (nearest m k (place_at p) r)

-- There are items to be searched. The front of the hits, as long as the count, is the k live ones that are nearest to the place.
pub record IsNearest (searched : Option (List held.Item)) (p : Place) (k : ℕ) (within : ℤ) (hits : List Hit) (count : ℕ) : Type 0 where
  pub items : List held.Item
  pub shown : searched ≡ Some items
  pub asked : IsSearch k within
  pub room : k ≤ length hits
  pub range : IsRightPlace p
  pub list : take count hits ≡ nearest_hits items k (within_at within) p
  pub number : count ≡ length (nearest_hits items k (within_at within) p)

-- why a search is refused
abbrev pub IsSearchRefusal : Place → ℕ → ℤ → ℕ → ℤ → Type 0
IsSearchRefusal p k within room status =
    ((status ≡ bad_number) × (IsSearch k within → ⊥))
    ⊎ ((status ≡ no_room) × (room < k))
    ⊎ ((status ≡ out_of_range) × (IsRightPlace p → ⊥))
    ⊎ ((status ≡ no_memory) × (16 < k))

-- why the nearest aren't told: there is nothing to be searched, or the search is refused
abbrev pub IsNearestRefusal : Option (List held.Item) → Place → ℕ → ℤ → ℕ → ℤ → Type 0
IsNearestRefusal searched p k within room status = ((status ≡ empty) × (searched ≡ None)) ⊎ IsSearchRefusal p k within room status

-- the hits of each place in turn
abbrev pub all_hits : List held.Item → ℕ → Option ℕ → List Place → List Hit
all_hits m k r ps = flat_map (nearest_hits m k r) ps

-- how many each place has
abbrev pub hit_counts : List held.Item → ℕ → Option ℕ → List Place → List ℕ
hit_counts m k r ps = map (λ p. length (nearest_hits m k r p)) ps

-- The front of the hits, as long as the count, is the hits of each place in turn, and the front of the counts how many each has.
pub record IsNearestEach (searched : Option (List held.Item)) (ps : List Place) (k : ℕ) (within : ℤ) (hits : List Hit) (counts : List ℕ) (count : ℕ) : Type 0 where
  pub items : List held.Item
  pub shown : searched ≡ Some items
  pub asked : IsSearch k within
  pub counts_room : length ps ≤ length counts
  pub room : length ps * k ≤ length hits
  pub range : All IsRightPlace ps
  pub list : take count hits ≡ all_hits items k (within_at within) ps
  pub each : take (length ps) counts ≡ hit_counts items k (within_at within) ps
  pub number : count ≡ length (all_hits items k (within_at within) ps)

-- why several searches are refused
abbrev pub AreSearchesRefusal : List Place → ℕ → ℤ → ℕ → ℕ → ℤ → Type 0
AreSearchesRefusal ps k within room counts_room status =
    ((status ≡ bad_number) × (IsSearch k within → ⊥))
    ⊎ ((status ≡ no_room) × ((counts_room < length ps) ⊎ (room < length ps * k)))
    ⊎ ((status ≡ out_of_range) × Any (λ p. IsRightPlace p → ⊥) ps)
    ⊎ ((status ≡ no_memory) × (16 < k))

-- why those of several places aren't told: there is nothing to be searched, or the searches are refused
abbrev pub IsNearestEachRefusal : Option (List held.Item) → List Place → ℕ → ℤ → ℕ → ℕ → ℤ → Type 0
IsNearestEachRefusal searched ps k within room counts_room status =
    ((status ≡ empty) × (searched ≡ None)) ⊎ AreSearchesRefusal ps k within room counts_room status

-- the handle shows `live` live points in the box
pub record IsCount (c : Option Content) (b : Bounds) (live : ℕ) : Type 0 where
  pub version : VersionAt
  pub shown : shown_in c ≡ Some version
  pub range : IsRightBox b
  pub number : live ≡ count (contents version.tree) (bounds_at b)

-- why they aren't counted
abbrev pub IsCountRefusal : Option Content → Bounds → ℤ → Type 0
IsCountRefusal c b status = ((status ≡ empty) × (shown_in c ≡ None)) ⊎ ((status ≡ bad_box) × (IsRightBox b → ⊥))

-- a list may have `most` items
pub record IsMost (most : ℕ) : Type 0 where
  pub from : 1 ≤ most
  pub to : most ≤ MAX_FOUND

-- the live points of what is shown in the box, by number, the first `most` of them, as C has them
abbrev pub c_items : VersionAt → Bounds → ℕ → List Item
c_items v b most = map c_item (inside (contents v.tree) (bounds_at b) most)

-- The first `count` items are the live points in the box of what the handle shows.
pub record IsInside (c : Option Content) (b : Bounds) (most : ℕ) (items : List Item) (count : ℕ) : Type 0 where
  pub version : VersionAt
  pub shown : shown_in c ≡ Some version
  pub asked : IsMost most
  pub room : most ≤ length items
  pub range : IsRightBox b
  pub list : take count items ≡ c_items version b most
  pub number : count ≡ length (c_items version b most)

-- why they aren't listed
abbrev pub IsListRefusal : Bounds → ℕ → ℕ → ℤ → Type 0
IsListRefusal b most room status =
    ((status ≡ bad_number) × (IsMost most → ⊥))
    ⊎ ((status ≡ no_room) × (room < most))
    ⊎ ((status ≡ bad_box) × (IsRightBox b → ⊥))
    ⊎ (status ≡ no_memory)

-- why the points in a box aren't listed: the handle shows nothing, or the list is refused
abbrev pub IsInsideRefusal : Option Content → Bounds → ℕ → ℕ → ℤ → Type 0
IsInsideRefusal c b most room status = ((status ≡ empty) × (shown_in c ≡ None)) ⊎ IsListRefusal b most room status

-- how many updates, points, live points and suspended points there are of what is shown
abbrev pub totals_of : VersionAt → Totals
totals_of v = record { updates = v.len; points = v.next; live = live_count (contents v.tree); suspended = suspended_count (contents v.tree) }

-- these are the totals of what the handle shows
abbrev pub AreTotals : Option Content → Totals → Type 0
AreTotals c t = (v : VersionAt) × (shown_in c ≡ Some v) × (t ≡ totals_of v)

-- why they aren't returned
abbrev pub IsTotalsRefusal : Option Content → ℤ → Type 0
IsTotalsRefusal c status = (status ≡ empty) × (shown_in c ≡ None)

-- The totals of what the handle shows are returned, or it shows nothing. It holds what it held.
pub record AreTold (old new : Option Content) (t : Totals) (status : ℤ) : Type 0 where
  pub told : status ≡ done → AreTotals old t
  pub refused : status ≢ done → IsTotalsRefusal old status
  pub same : new ≡ old

-- the second handle holds a view of what the first shows
abbrev pub IsViewOf : Option Content → Option Content → Type 0
IsViewOf c d = (v : VersionAt) × (shown_in c ≡ Some v) × (d ≡ Some (content.View v))

-- why no view is made into a handle that held this
abbrev pub IsViewRefusal : Option Content → Option Content → ℤ → Type 0
IsViewRefusal c was status =
    ((status ≡ full) × (was ≡ None → ⊥))
    ⊎ ((status ≡ empty) × (shown_in c ≡ None))
    ⊎ (status ≡ no_memory)

-- A view of what the one handle shows is made into the other, which was empty, or a status says why not, and the other holds what
-- it held. The one holds what it held, whichever it is.
pub record IsViewed (old new was view : Option Content) (status : ℤ) : Type 0 where
  pub made : status ≡ done → IsViewOf old view
  pub none : status ≡ done → was ≡ None
  pub refused : status ≢ done → IsViewRefusal old was status
  pub same : new ≡ old
  pub view_same : status ≢ done → view ≡ was
