-- Regions.
use Rattle.std.specs.Prelude.{ℕ, ◌/◌, ℤ, pos, Bool, ◌≤ℤ◌, ◌-ℤ◌}
use Rattle.point_geom.specs.Place.{Place, Bounds}
use Rattle.point_geom.specs.Boxes.{cube, holds}
use Rattle.point_geom.specs.declared.cuboid.Corner.{Corner}
use Rattle.local_region.specs.declared.limits.TheConstants.{FARTHEST}
use Rattle.local_region.specs.Rules.{Rules, AreRules}

-- a region: how it is to move, and its corner with the least numbers
pub record RegionAt : Type 0 where
  pub rules : Rules
  pub lo : Corner

-- the half-open cube of a region
abbrev pub cube_of : RegionAt → Bounds
cube_of r = cube r.rules.side r.lo

-- the point is in the region
abbrev pub is_in : RegionAt → Place → Bool
is_in r p = holds (cube_of r) p

-- where a region of this side starts that begins round c
abbrev pub first_start : ℕ → ℤ → ℤ
first_start side c = c -ℤ pos (side / 2)

-- a region begins with the point in its middle
abbrev pub begun : Rules → Place → RegionAt
begun r p = record {
  rules = r;
  lo = record { x = first_start r.side p.x; y = first_start r.side p.y; z = first_start r.side p.z };
}

-- a region starts within this distance of 0 on an axis
abbrev pub IsStart : ℤ → Type 0
IsStart c = ((pos 0 -ℤ FARTHEST) ≤ℤ c) × (c ≤ℤ FARTHEST)

-- on each axis a region starts within this distance, 4,398,046,511,104 millimetres, of 0
abbrev pub IsStartCorner : Corner → Type 0
IsStartCorner p = IsStart p.x × IsStart p.y × IsStart p.z

-- the rules are lawful, and the start isn't too far out
pub record IsRegion (r : RegionAt) : Type 0 where
  pub rules : AreRules r.rules
  pub lo : IsStartCorner r.lo
