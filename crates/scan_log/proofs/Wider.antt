-- What is in the limits of a log of any version is in those of version 2.
use Rattle.std.proofs.Common.{ℕ, ◌≤◌, List, [], ◌∷◌, arith, ℤ}
use Rattle.std.specs.List.{AllByRecursion}
use Rattle.std.proofs.lemmas.Int.{ints}
use Rattle.point_geom.specs.Place.{Place, Bounds}
use Rattle.point_geom.specs.declared.cuboid.Corner.{Corner}
use Rattle.map_items.specs.declared.update.Update.{Update}
use Rattle.map_items.specs.declared.update.Update.TheVariants.{Add, Thin, Delete, Suspend, Restore, Expire}
use Rattle.scan_log.specs.declared.format.Format.{Format}
use Rattle.scan_log.specs.declared.format.Format.TheVariants.{One, Two}
use Rattle.scan_log.specs.Formats.{farthest}
use Rattle.scan_log.specs.declared.command.Command.{Command}
use Rattle.scan_log.specs.declared.command.Command.TheVariants.{Change, Near, Nears, Inside, Ball, Lonely, Clusters, Pose, Sync}
use Rattle.scan_log.specs.Scripts.{IsLogCoordinate, IsLogPlace, IsScannedPlace, AreScanned, IsBoxNumber, IsBoxCorner, IsCallerBox, AreBoxes, IsUpdate, IsCommand}

coordinate_widens : (format : Format) (c : ℤ) → IsLogCoordinate format c → IsLogCoordinate Two c
coordinate_widens One c h = (grind (arith, ints, h.0), grind (arith, ints, h.1))
coordinate_widens Two c h = h

place_widens : (format : Format) (p : Place) → IsLogPlace format p → IsLogPlace Two p
place_widens format p h = (coordinate_widens format p.x h.0, coordinate_widens format p.y h.1, coordinate_widens format p.z h.2, h.3)

scanned_widens : (format : Format) (p : Place) → IsScannedPlace format p → IsScannedPlace Two p
scanned_widens One p h = (coordinate_widens One p.x h.0, coordinate_widens One p.y h.1, coordinate_widens One p.z h.2, omega (arith, h.3))
scanned_widens Two p h = h

box_number_widens : (format : Format) (c : ℤ) → IsBoxNumber format c → IsBoxNumber Two c
box_number_widens One c h = (grind (arith, ints, h.0), grind (arith, ints, h.1))
box_number_widens Two c h = h

corner_widens : (format : Format) (p : Corner) → IsBoxCorner format p → IsBoxCorner Two p
corner_widens format p h = (box_number_widens format p.x h.0, box_number_widens format p.y h.1, box_number_widens format p.z h.2)

box_widens : (format : Format) (c : Bounds) → IsCallerBox format c → IsCallerBox Two c
box_widens format c h = record { lo = corner_widens format c.lo h.lo; hi = corner_widens format c.hi h.hi; below = h.below }

each_widens : {X : Type 0} (P Q : X → Type 0) (one : (x : X) → P x → Q x) (xs : List X) → AllByRecursion P xs → AllByRecursion Q xs
each_widens P Q one [] h = tt
each_widens P Q one (x ∷ xs) h = (one x h.0, each_widens P Q one xs h.1)

scanned_all_widen : (format : Format) (ps : List Place) → AreScanned format ps → AreScanned Two ps
scanned_all_widen format ps h = (h.0, h.1, each_widens (IsScannedPlace format) (IsScannedPlace Two) (scanned_widens format) ps h.2)

boxes_widen : (format : Format) (cs : List Bounds) → AreBoxes format cs → AreBoxes Two cs
boxes_widen format cs h = (h.0, h.1, each_widens (IsCallerBox format) (IsCallerBox Two) (box_widens format) cs h.2)

update_widens : (format : Format) (u : Update) → IsUpdate format u → IsUpdate Two u
update_widens format (Add ps) h = scanned_all_widen format ps h
update_widens format (Thin ps) h = scanned_all_widen format ps h
update_widens format (Delete cs) h = boxes_widen format cs h
update_widens format (Suspend cs) h = boxes_widen format cs h
update_widens format (Restore cs) h = boxes_widen format cs h
update_widens One (Expire n) h = absurd h
update_widens Two (Expire n) h = h

farthest_widens : (format : Format) (r : ℕ) → r ≤ farthest format → r ≤ farthest Two
farthest_widens One r h = omega (arith, h)
farthest_widens Two r h = h

pub command_widens : (format : Format) (c : Command) → IsCommand format c → IsCommand Two c
command_widens format (Change caller u) h = (h.0, update_widens format u h.1)
command_widens format (Near caller k p within) h =
    (h.0, h.1, h.2, place_widens format p h.3, λ r e. farthest_widens format r (h.4 r e))
command_widens One (Nears caller k ps) h = absurd h.4
command_widens Two (Nears caller k ps) h = h
command_widens format (Inside caller k c) h = (h.0, h.1, h.2, box_widens format c h.3)
command_widens One (Ball caller k r p) h = absurd h.5
command_widens Two (Ball caller k r p) h = h
command_widens One (Lonely caller k r) h = absurd h.4
command_widens Two (Lonely caller k r) h = h
command_widens One (Clusters caller k r) h = absurd h.4
command_widens Two (Clusters caller k r) h = h
command_widens One (Pose caller rules p) h = absurd h.3
command_widens Two (Pose caller rules p) h = h
command_widens format Sync h = tt

pub commands_widen : (format : Format) (cs : List Command) → AllByRecursion (IsCommand format) cs → AllByRecursion (IsCommand Two) cs
commands_widen format cs h = each_widens (IsCommand format) (IsCommand Two) (command_widens format) cs h
