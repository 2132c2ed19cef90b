-- Regions, as C has them, and how they move.
use Rattle.std.specs.Prelude.{◌≡◌, ◌<◌, ◌≤◌, ◌⊎◌, ℕ, ℤ, List, IsOk, map, length, take}
use Rattle.point_geom.specs.Place as geom
use Rattle.point_geom.specs.declared.cuboid.Corner.{Corner}
use Rattle.local_region.specs.Rules.{Rules, rules_of}
use Rattle.local_region.specs.Regions.{IsStartCorner, RegionAt, begun}
use Rattle.local_region.specs.Moves.{after}
use Rattle.local_region.specs.Removed.{AreLeftBehind, removed}
use Rattle.map_c.specs.Forms.{IsRightPlace, corner_at, place_at}
use Rattle.map_c.specs.Status.{bad_number, no_memory, no_room, out_of_range}
use Rattle.map_c.specs.declared.handles.forms.Bounds.{Bounds}
use Rattle.map_c.specs.declared.handles.forms.Place.{Place}
use Rattle.map_c.specs.declared.handles.forms.Region.{Region}

-- a corner of a box, as C has it
abbrev pub c_place : Corner → Place
c_place p = record { x = p.x; y = p.y; z = p.z }

-- a box, as C has it
abbrev pub c_box : geom.Bounds → Bounds
c_box b = record { lo = c_place b.lo; hi = c_place b.hi }

-- the rules of these numbers
abbrev pub rules_at : ℕ → ℕ → ℕ → Rules
rules_at side ball step = record { side = side; ball = ball; step = step }

-- a region may have these rules
abbrev pub AreRightRules : ℕ → ℕ → ℕ → Type 0
AreRightRules side ball step = IsOk (rules_of side ball step)

-- the region of C's numbers
abbrev pub region_at : Region → RegionAt
region_at g = record { rules = rules_at g.side g.ball g.step; lo = corner_at g.lo }

-- a region as C has it
abbrev pub c_region : RegionAt → Region
c_region r = record { lo = c_place r.lo; side = r.rules.side; ball = r.rules.ball; step = r.rules.step }

-- C's numbers are a region's: its rules are right, and it starts no farther out than a region does
abbrev pub IsRightRegion : Region → Type 0
IsRightRegion g = AreRightRules g.side g.ball g.step × IsStartCorner (corner_at g.lo)

-- The region begins with the place in its middle.
pub record IsBegun (side ball step : ℕ) (p : Place) (g : Region) : Type 0 where
  pub rules : AreRightRules side ball step
  pub range : IsRightPlace p
  pub region : g ≡ c_region (begun (rules_at side ball step) (place_at p))

-- why none is made
abbrev pub IsBeginRefusal : ℕ → ℕ → ℕ → Place → ℤ → Type 0
IsBeginRefusal side ball step p status =
    ((status ≡ bad_number) × (AreRightRules side ball step → ⊥))
    ⊎ ((status ≡ out_of_range) × (IsRightPlace p → ⊥))

-- The region has moved to the place, and the first `count` boxes are what left it.
pub record IsMove (old new : Region) (p : Place) (boxes : List Bounds) (count : ℕ) : Type 0 where
  pub was : IsRightRegion old
  pub room : 3 ≤ length boxes
  pub range : IsRightPlace p
  pub region : new ≡ c_region (after (place_at p) (region_at old))
  pub list : take count boxes ≡ map c_box (removed (region_at old) (region_at new))
  pub number : count ≡ length (removed (region_at old) (region_at new))
  pub left : AreLeftBehind (region_at old) (region_at new) (removed (region_at old) (region_at new))

-- why it doesn't move
abbrev pub IsMoveRefusal : Region → Place → ℕ → ℤ → Type 0
IsMoveRefusal g p room status =
    ((status ≡ bad_number) × (IsRightRegion g → ⊥))
    ⊎ ((status ≡ no_room) × (room < 3))
    ⊎ ((status ≡ out_of_range) × (IsRightPlace p → ⊥))
    ⊎ (status ≡ no_memory)
