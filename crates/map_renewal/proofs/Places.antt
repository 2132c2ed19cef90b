-- Every point is in the box of all places.
use Rattle.std.proofs.Common.{◌≡◌, ℤ, pos, true, All, List, [], ◌∷◌, refl, arith}
use Rattle.std.specs.Prelude.{negsuc}
use Rattle.std.specs.List.{AllByRecursion}
use Rattle.std.proofs.lemmas.Int.{ints}
use Rattle.std.proofs.lemmas.List.Elements.{recursion_from_All}
use Rattle.point_geom.specs.Place.{IsCoordinate, IsPlace, Place}
use Rattle.point_geom.specs.Boxes.{holds, is_between}
use Rattle.point_geom.proofs.Laws.{is_between_by}
use Rattle.map_renewal.specs.Renewed.{all_places}

between : (c : ℤ) → IsCoordinate c → is_between (negsuc 1099511627775) c (pos 1099511627777) ≡ true
between c k =
    let low = k.0 in
    let high = k.1 in
    is_between_by (negsuc 1099511627775) c (pos 1099511627777) low (omega (arith, ints))

pub held_there : (p : Place) → IsPlace p → holds all_places p ≡ true
held_there p k = rw (between p.x k.0, between p.y k.1, between p.z k.2) refl

pub all_held : (ps : List Place) → All IsPlace ps → AllByRecursion (λ p. holds all_places p ≡ true) ps
all_held ps k = each ps (recursion_from_All IsPlace ps k)
  where
    each : (qs : List Place) → AllByRecursion IsPlace qs → AllByRecursion (λ p. holds all_places p ≡ true) qs
    each [] h = tt
    each (q ∷ qs) h = (held_there q h.0, each qs h.1)
