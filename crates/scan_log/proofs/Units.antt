-- The boxes of a command's points are a command's boxes.
use Rattle.std.proofs.Common.{ℤ, pos, ◌≤ℤ◌, ◌+ℤ◌, List, [], ◌∷◌, map, arith}
use Rattle.std.specs.List.{AllByRecursion}
use Rattle.std.proofs.lemmas.Int.{ints}
use Rattle.std.proofs.lemmas.List.{length-map}
use Rattle.point_geom.specs.Place.{Place}
use Rattle.point_geom.specs.Boxes.{unit_box}
use Rattle.scan_log.specs.declared.format.Format.{Format}
use Rattle.scan_log.specs.declared.format.Format.TheVariants.{One, Two}
use Rattle.scan_log.specs.Scripts.{ArePoints, AreBoxes, IsBoxNumber, IsCallerBox, IsLogPlace, IsLogCoordinate}

unit_number : (format : Format) (c : ℤ) → IsLogCoordinate format c → IsBoxNumber format c × IsBoxNumber format (c +ℤ pos 1) × (c ≤ℤ (c +ℤ pos 1))
unit_number One c h =
    let from = h.0 in
    let to = h.1 in ((omega (arith, ints), omega (arith, ints)), (omega (arith, ints), omega (arith, ints)), omega (arith, ints))
unit_number Two c h =
    let from = h.0 in
    let to = h.1 in ((omega (arith, ints), omega (arith, ints)), (omega (arith, ints), omega (arith, ints)), omega (arith, ints))

unit_is : (format : Format) (p : Place) → IsLogPlace format p → IsCallerBox format (unit_box p)
unit_is format p h =
    let x = unit_number format p.x h.0 in
    let y = unit_number format p.y h.1 in
    let z = unit_number format p.z h.2 in
    record { lo = (x.0, y.0, z.0); hi = (x.1, y.1, z.1); below = record { x = x.2; y = y.2; z = z.2 } }

each_unit : (format : Format) (ps : List Place) → AllByRecursion (IsLogPlace format) ps → AllByRecursion (IsCallerBox format) (map unit_box ps)
each_unit format [] h = tt
each_unit format (p ∷ ps) h = (unit_is format p h.0, each_unit format ps h.1)

pub units_are : (format : Format) (ps : List Place) → ArePoints format ps → AreBoxes format (map unit_box ps)
units_are format ps h =
    let same = length-map ps unit_box in (omega (arith, h.0, same), omega (arith, h.1, same), each_unit format ps h.2)
