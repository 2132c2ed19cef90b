-- The fields of commands have no spaces and no line feeds.
use Rattle.std.proofs.Common.{◌≡◌, ℕ, suc, ◌*◌, ◌<◌, ◌≤◌, ◌^◌, true, List, [], ◌∷◌, ◌++◌, refl, arith, ℤ, pos, ◌≤ℤ◌, ◌∙◌, None, Some, Option}
use lib.IntN.{negsuc}
use Rattle.std.specs.Prelude.{decimal}
use Rattle.std.specs.Fmt.{signed_decimal}
use Rattle.std.specs.List.{flat_map, list_all, AllByRecursion}
use Rattle.std.specs.Option.{ForSome}
use Rattle.std.specs.Str.Parse.{AllDigits}
use Rattle.std.proofs.lemmas.Bool.{and_from}
use Rattle.std.proofs.lemmas.Bool.Decides.{nat_tests}
use Rattle.std.proofs.lemmas.Int.{ints}
use Rattle.std.proofs.lemmas.Fmt.{decimal_is_IsNumeral}
use Rattle.std.proofs.lemmas.List.Folds.{list_all-append}
use Rattle.std.proofs.lemmas.Str.Parse.{tells_digits}
use Rattle.point_geom.specs.Place.{Place, Bounds, bare}
use Rattle.point_geom.specs.Corners.{corner_of}
use Rattle.point_geom.specs.declared.cuboid.Corner.{Corner}
use Rattle.map_items.specs.Sizes.{Sizes, AreSizes}
use Rattle.map_items.specs.declared.update.Update.{Update}
use Rattle.map_items.specs.declared.update.Update.TheVariants.{Add, Thin, Delete, Suspend, Restore, Expire}
use Rattle.scan_log.specs.declared.format.Format.{Format}
use Rattle.scan_log.proofs.NumbersAgain.{farthest_fits}
use Rattle.scan_log.specs.Formats.{version_field, highest, box_highest, farthest}
use Rattle.scan_log.specs.declared.format.Format.TheVariants.{One, Two}
use Rattle.scan_log.specs.declared.command.Command.{Command}
use Rattle.scan_log.specs.declared.command.Command.TheVariants.{Change, Near, Nears, Inside, Ball, Lonely, Clusters, Pose, Sync}
use Rattle.scan_log.specs.Scripts.{IsCaller, IsBoxCorner, IsCallerBox, IsUpdate, IsCommand, IsLogPlace, IsScannedPlace, IsBoxNumber}
use Rattle.scan_log.specs.Spelling.{header_fields, scanned_fields, corner_fields, point_fields, box_fields, update_fields, within_fields, caller_field, command_fields}
use Rattle.scan_log.proofs.WrittenLines.{is_in_field, are_fields}

digits_field : (ds : List ℕ) → AllDigits 10 ds → list_all is_in_field ds ≡ true
digits_field [] h = refl
digits_field (c ∷ cs) h =
    let p = tells_digits.parts c cs h in
    let low : 48 ≤ c = p.0.0 in
    let one : is_in_field c ≡ true = grind (arith, nat_tests) in
    and_from _ _ one (digits_field cs p.1)

decimal_field : (n : ℕ) → n < 2 ^ 64 → list_all is_in_field (decimal n) ≡ true
decimal_field n h = digits_field (decimal n) (decimal_is_IsNumeral n h).0.1

-- a number of a box's corner, and so each of a point
number_field : (z : ℤ) → negsuc 1099511627775 ≤ℤ z → z ≤ℤ pos 1099511627777 → list_all is_in_field (signed_decimal z) ≡ true
number_field (pos n) low high = decimal_field n (grind (arith, ints))
number_field (negsuc n) low high = decimal_field (suc n) (grind (arith, ints))

log_field : (format : Format) (z : ℤ) → IsBoxNumber format z → list_all is_in_field (signed_decimal z) ≡ true
log_field One z h = number_field z (grind (arith, ints, h.0)) (grind (arith, ints, h.1))
log_field Two z h = number_field z h.0 h.1

corner_numbers : (format : Format) (p : Corner) → IsBoxCorner format p → are_fields (corner_fields p) ≡ true
corner_numbers format p h =
    and_from _ _ (log_field format p.x h.0) (and_from _ _ (log_field format p.y h.1) (and_from _ _ (log_field format p.z h.2) refl))

-- a point may be a corner
place_number : (format : Format) (z : ℤ) → z ≤ℤ highest format → z ≤ℤ box_highest format
place_number One z h = grind (arith, ints)
place_number Two z h = grind (arith, ints)

place_corner : (format : Format) (p : Place) → IsLogPlace format p → IsBoxCorner format (corner_of p)
place_corner format p h =
    ((h.0.0, place_number format p.x h.0.1), (h.1.0, place_number format p.y h.1.1), (h.2.0, place_number format p.z h.2.1))

place_fields : (format : Format) (p : Place) → IsLogPlace format p → are_fields (point_fields p) ≡ true
place_fields format p h = corner_numbers format (corner_of p) (place_corner format p h)

append_fields : (fs gs : List (List ℕ)) → are_fields fs ≡ true → are_fields gs ≡ true → are_fields (fs ++ gs) ≡ true
append_fields fs gs f g = list_all-append (list_all is_in_field) fs gs ∙ and_from _ _ f g

scanned_numbers : (format : Format) (p : Place) → IsScannedPlace format p → are_fields (scanned_fields format p) ≡ true
scanned_numbers One p h = place_fields One p (h.0, h.1, h.2, omega (arith, h.3))
scanned_numbers Two p h =
    let own : IsLogPlace Two (bare p) = (h.0, h.1, h.2, refl) in
    append_fields (point_fields p) (decimal p.intensity ∷ []) (place_fields Two (bare p) own) (and_from _ _ (decimal_field p.intensity (omega (arith, h.3))) refl)

cuboid_fields : (format : Format) (c : Bounds) → IsCallerBox format c → are_fields (box_fields c) ≡ true
cuboid_fields format c h = append_fields (corner_fields c.lo) (corner_fields c.hi) (corner_numbers format c.lo h.lo) (corner_numbers format c.hi h.hi)

each_fields : {X : Type 0} (P : X → Type 0) (f : X → List (List ℕ)) (one : (x : X) → P x → are_fields (f x) ≡ true) (xs : List X)
    → AllByRecursion P xs → are_fields (flat_map f xs) ≡ true
each_fields P f one [] h = refl
each_fields P f one (x ∷ xs) h = append_fields (f x) (flat_map f xs) (one x h.0) (each_fields P f one xs h.1)

updates_fields : (format : Format) (u : Update) → IsUpdate format u → are_fields (update_fields format u) ≡ true
updates_fields format (Add ps) h = each_fields (IsScannedPlace format) (scanned_fields format) (scanned_numbers format) ps h.2
updates_fields format (Thin ps) h = each_fields (IsScannedPlace format) (scanned_fields format) (scanned_numbers format) ps h.2
updates_fields format (Delete cs) h = each_fields (IsCallerBox format) box_fields (cuboid_fields format) cs h.2
updates_fields format (Suspend cs) h = each_fields (IsCallerBox format) box_fields (cuboid_fields format) cs h.2
updates_fields format (Restore cs) h = each_fields (IsCallerBox format) box_fields (cuboid_fields format) cs h.2
updates_fields One (Expire n) h = absurd h
updates_fields Two (Expire n) h = and_from _ _ (decimal_field n (omega (arith, h))) refl

limits_fields : (format : Format) (within : Option ℕ) → ForSome within (λ r. r ≤ farthest format) → are_fields (within_fields within) ≡ true
limits_fields format None h = refl
limits_fields format (Some r) h = let few : r ≤ farthest format = h r refl in and_from _ _ (decimal_field r (omega (arith, farthest_fits format))) refl

-- a caller's word, a count, a distance, and more
reaches_fields : (format : Format) (caller k r : ℕ) (more : List (List ℕ)) → IsCaller caller → k ≤ 256 → r ≤ farthest format → are_fields more ≡ true
    → are_fields (caller_field caller ∷ decimal k ∷ decimal r ∷ more) ≡ true
reaches_fields format caller k r more from few near rest =
    and_from _ _ (decimal_field caller (omega (arith, from.1)))
    (and_from _ _ (decimal_field k (omega (arith, few))) (and_from _ _ (decimal_field r (omega (arith, near, farthest_fits format))) rest))

-- a command's fields
pub commands_fields : (format : Format) (c : Command) → IsCommand format c → are_fields (command_fields format c) ≡ true
commands_fields format (Change caller u) h = and_from _ _ (decimal_field caller (omega (arith, h.0.1))) (updates_fields format u h.1)
commands_fields format (Near caller k p within) h =
    and_from _ _ (decimal_field caller (omega (arith, h.0.1)))
    (and_from _ _ (decimal_field k (omega (arith, h.2))) (append_fields (point_fields p) (within_fields within) (place_fields format p h.3) (limits_fields format within h.4)))
commands_fields format (Nears caller k ps) h =
    and_from _ _ (decimal_field caller (omega (arith, h.0.1)))
    (and_from _ _ (decimal_field k (omega (arith, h.2))) (each_fields (IsLogPlace format) point_fields (place_fields format) ps h.3.2))
commands_fields format (Inside caller k c) h =
    and_from _ _ (decimal_field caller (omega (arith, h.0.1))) (and_from _ _ (decimal_field k (omega (arith, h.2))) (cuboid_fields format c h.3))
commands_fields format (Ball caller k r p) h = reaches_fields format caller k r (point_fields p) h.0 h.2 h.3 (place_fields format p h.4)
commands_fields format (Lonely caller k r) h = reaches_fields format caller k r [] h.0 h.2 h.3 refl
commands_fields format (Clusters caller k r) h = reaches_fields format caller k r [] h.0 h.2 h.3 refl
commands_fields format (Pose caller rules p) h =
    let side : rules.side ≤ 2199023255552 = h.1.side_to in
    let ball : 2 * rules.ball < rules.side = h.1.ball in
    let step : rules.step ≤ rules.side = h.1.step_to in
    and_from _ _ (decimal_field caller (omega (arith, h.0.1)))
    (and_from _ _ (decimal_field rules.side (omega arith))
    (and_from _ _ (decimal_field rules.ball (omega arith)) (and_from _ _ (decimal_field rules.step (omega arith)) (place_fields format p h.2))))
commands_fields format Sync h = refl

version_in_field : (format : Format) → list_all is_in_field (version_field format) ≡ true
version_in_field One = refl
version_in_field Two = refl

-- the header's fields
pub headers_fields : (format : Format) (s : Sizes) → AreSizes s → are_fields (header_fields format s) ≡ true
headers_fields format s h =
    and_from _ _ (version_in_field format)
    (and_from _ _ (decimal_field s.voxel (omega (arith, h.voxel_to))) (and_from _ _ (decimal_field s.large (omega (arith, h.large_to))) refl))
