-- Corners, as places.
use Rattle.point_geom.specs.Place.{Place}
use Rattle.point_geom.specs.declared.cuboid.Corner.{Corner}

-- the corner where a point is
abbrev pub corner_of : Place → Corner
corner_of p = record { x = p.x; y = p.y; z = p.z }
