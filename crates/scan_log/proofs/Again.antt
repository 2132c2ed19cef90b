-- What is spelled so is read.
use Rattle.std.proofs.Common.{◌≡◌, ℕ, ◌+◌, ◌-◌, ◌*◌, ◌/◌, ◌%◌, ◌<◌, ◌≤◌, true, false, inl, inr, List, [], ◌∷◌, map, length, min, refl, sym, ap, ◌∙◌, arith, None, Some, Ok}
use Rattle.std.specs.Prelude.{◌++◌, codes, decimal, nat_eq, nat_le, int_le}
use Rattle.std.specs.List.{flat_map, AllByRecursion}
use Rattle.std.specs.Fmt.{signed_decimal}
use Rattle.std.specs.Str.{bytes_eq}
use Rattle.std.specs.declared.option.Option.{Option}
use Rattle.std.proofs.lemmas.Bool.Decides.{nat_tests}
use Rattle.std.proofs.lemmas.Int.{ints}
use Rattle.std.proofs.lemmas.Fmt.{decimal_digit}
use Rattle.point_geom.specs.Place.{Place, Bounds, IsUpright, bare}
use Rattle.point_geom.specs.Boxes.{unit_box}
use Rattle.point_geom.specs.declared.cuboid.Corner.{Corner}
use Rattle.local_region.specs.Rules.{Rules}
use Rattle.map_items.specs.Sizes.{Sizes, AreSizes}
use Rattle.map_items.specs.declared.update.Update.{Update}
use Rattle.map_items.specs.declared.update.Update.TheVariants.{Add, Thin, Delete, Suspend, Restore, Expire}
use Rattle.scan_log.specs.declared.format.Format.{Format}
use Rattle.scan_log.specs.Formats.{farthest, width}
use Rattle.scan_log.specs.declared.format.Format.TheVariants.{One, Two}
use Rattle.scan_log.specs.declared.command.Command.{Command}
use Rattle.scan_log.specs.declared.command.Command.TheVariants.{Change, Near, Nears, Inside, Ball, Lonely, Clusters, Pose, Sync}
use Rattle.scan_log.specs.Reading.{place_of, places_of, scanned_place_of, scanned_places_of, few_scanned_of, corner_of, is_upright, box_of, boxes_of, groups_of, few_places_of, few_boxes_of, units_of, expiry_of, update_of, near_of, inside_of, nears_of, ball_of, reach_of, pose_of, basic_of, called_of, digit_caller, caller_of, after_caller, command_of, header_of}
use Rattle.scan_log.specs.Scripts.{IsCaller, ArePoints, AreBoxes, IsBoxCorner, IsCallerBox, IsCommand, submitted, IsLogPlace, IsScannedPlace, AreScanned}
use Rattle.scan_log.specs.Spelling.{header_fields, point_fields, scanned_fields, box_fields, within_fields, caller_field, update_fields, command_fields}
use Rattle.scan_log.proofs.NumbersAgain.{farthest_fits, natural_in-decimal, coordinate-signed_decimal, corner_number-signed_decimal}
use Rattle.scan_log.proofs.Takes.{length-point_fields, length-scanned_fields, length-box_fields}
use Rattle.scan_log.proofs.TakesCommand.{FieldsSpell}

place_of-signed_decimal : (format : Format) (p : Place) → IsLogPlace format p
    → place_of format (signed_decimal p.x) (signed_decimal p.y) (signed_decimal p.z) ≡ Ok p
unfolding place_of
place_of-signed_decimal format p h =
    rw (coordinate-signed_decimal format p.x h.0, coordinate-signed_decimal format p.y h.1, coordinate-signed_decimal format p.z h.2)
    (ap (λ (n : ℕ). Ok (record p { intensity = n })) (sym h.3))

places_of-flat_map : (format : Format) (ps : List Place) → AllByRecursion (IsLogPlace format) ps → places_of format (flat_map point_fields ps) ≡ Ok ps
places_of-flat_map format [] h = refl
places_of-flat_map format (p ∷ ps) h = rw (place_of-signed_decimal format p h.0, places_of-flat_map format ps h.1) refl

corner_of-signed_decimal : (format : Format) (p : Corner) → IsBoxCorner format p
    → corner_of format (signed_decimal p.x) (signed_decimal p.y) (signed_decimal p.z) ≡ Ok p
unfolding corner_of
corner_of-signed_decimal format p h =
    rw (corner_number-signed_decimal format p.x h.0, corner_number-signed_decimal format p.y h.1, corner_number-signed_decimal format p.z h.2) refl

upright : (lo hi : Corner) → IsUpright lo hi → is_upright lo hi ≡ true
upright lo hi h =
    let x : int_le lo.x hi.x ≡ true = grind (arith, ints, h.x) in
    let y : int_le lo.y hi.y ≡ true = grind (arith, ints, h.y) in
    let z : int_le lo.z hi.z ≡ true = grind (arith, ints, h.z) in rw (x, y, z) refl

box_of-signed_decimal : (format : Format) (c : Bounds) → IsCallerBox format c
    → box_of format (signed_decimal c.lo.x) (signed_decimal c.lo.y) (signed_decimal c.lo.z)
    (signed_decimal c.hi.x) (signed_decimal c.hi.y) (signed_decimal c.hi.z) ≡ Ok c
unfolding box_of
box_of-signed_decimal format c h =
    rw (corner_of-signed_decimal format c.lo h.lo, corner_of-signed_decimal format c.hi h.hi, upright c.lo c.hi h.below) refl

boxes_of-flat_map : (format : Format) (cs : List Bounds) → AllByRecursion (IsCallerBox format) cs → boxes_of format (flat_map box_fields cs) ≡ Ok cs
boxes_of-flat_map format [] h = refl
boxes_of-flat_map format (c ∷ cs) h = rw (box_of-signed_decimal format c h.0, boxes_of-flat_map format cs h.1) refl

-- arguments in groups, one or more, and few enough
groups_of-many : (size most n : ℕ) (args : List (List ℕ)) → length args ≡ n * size → length args % size ≡ 0 → length args / size ≡ n → 0 < length args → n ≤ most
    → groups_of size most args ≡ Ok n
unfolding groups_of
groups_of-many size most n args count whole is some few =
    let e : nat_eq (length args) 0 ≡ false = grind (arith, nat_tests) in
    let f : nat_eq (length args % size) 0 ≡ true = grind (arith, nat_tests) in
    let g : nat_le n most ≡ true = grind (arith, nat_tests) in
    rw (e, f, is, g) refl

few_places_of-flat_map : (format : Format) (most : ℕ) (ps : List Place) → 0 < length ps → length ps ≤ most → AllByRecursion (IsLogPlace format) ps
    → few_places_of format most (flat_map point_fields ps) ≡ Ok ps
unfolding few_places_of
few_places_of-flat_map format most ps some few each =
    let count = length-point_fields ps in
    rw (groups_of-many 3 most (length ps) (flat_map point_fields ps) count (omega (arith, count)) (omega (arith, count)) (omega (arith, count)) few)
    (places_of-flat_map format ps each)

few_boxes_of-flat_map : (format : Format) (cs : List Bounds) → AreBoxes format cs → few_boxes_of format (flat_map box_fields cs) ≡ Ok cs
unfolding few_boxes_of
few_boxes_of-flat_map format cs h =
    let count = length-box_fields cs in
    let some : 0 < length cs = h.0 in
    rw (groups_of-many 6 262144 (length cs) (flat_map box_fields cs) count (omega (arith, count)) (omega (arith, count)) (omega (arith, count)) h.1)
    (boxes_of-flat_map format cs h.2)

units_of-flat_map : (format : Format) (ps : List Place) → ArePoints format ps → units_of format (flat_map point_fields ps) ≡ Ok (map unit_box ps)
unfolding units_of
units_of-flat_map format ps h = rw (few_places_of-flat_map format 262144 ps h.0 h.1 h.2) refl

scanned_place_of-decimal : (p : Place) → IsScannedPlace Two p → scanned_place_of (signed_decimal p.x) (signed_decimal p.y) (signed_decimal p.z) (decimal p.intensity) ≡ Ok p
unfolding scanned_place_of
scanned_place_of-decimal p h =
    rw (place_of-signed_decimal Two (bare p) (h.0, h.1, h.2, refl), natural_in-decimal 0 65535 p.intensity (omega arith) (omega arith) h.3) refl

-- where points have no intensity, a point that is scanned is any other
scanned_plain : (ps : List Place) → AllByRecursion (IsScannedPlace One) ps → AllByRecursion (IsLogPlace One) ps
scanned_plain [] h = tt
scanned_plain (p ∷ ps) h = ((h.0.0, h.0.1, h.0.2, omega (arith, h.0.3)), scanned_plain ps h.1)

scanned_places_of-flat_map : (format : Format) (ps : List Place) → AllByRecursion (IsScannedPlace format) ps
    → scanned_places_of format (flat_map (scanned_fields format) ps) ≡ Ok ps
scanned_places_of-flat_map One ps h = places_of-flat_map One ps (scanned_plain ps h)
scanned_places_of-flat_map Two [] h = refl
scanned_places_of-flat_map Two (p ∷ ps) h = rw (scanned_place_of-decimal p h.0, scanned_places_of-flat_map Two ps h.1) refl

-- they are in groups of as many numbers as each has
scanned_groups : (format : Format) (most : ℕ) (ps : List Place) → 0 < length ps → length ps ≤ most
    → groups_of (width format) most (flat_map (scanned_fields format) ps) ≡ Ok (length ps)
scanned_groups One most ps some few =
    let count = length-scanned_fields One ps in
    groups_of-many 3 most (length ps) (flat_map (scanned_fields One) ps) count (omega (arith, count)) (omega (arith, count)) (omega (arith, count)) few
scanned_groups Two most ps some few =
    let count = length-scanned_fields Two ps in
    groups_of-many 4 most (length ps) (flat_map (scanned_fields Two) ps) count (omega (arith, count)) (omega (arith, count)) (omega (arith, count)) few

few_scanned_of-flat_map : (format : Format) (most : ℕ) (ps : List Place) → 0 < length ps → length ps ≤ most → AllByRecursion (IsScannedPlace format) ps
    → few_scanned_of format most (flat_map (scanned_fields format) ps) ≡ Ok ps
unfolding few_scanned_of
few_scanned_of-flat_map format most ps some few each = rw (scanned_groups format most ps some few) (scanned_places_of-flat_map format ps each)

-- the points have room
points_again : (format : Format) (room : ℕ) (ps : List Place) → AreScanned format ps → length ps ≤ room → few_scanned_of format (min 262144 room) (flat_map (scanned_fields format) ps) ≡ Ok ps
points_again format room ps h fits =
    let few : length ps ≤ 262144 = h.1 in few_scanned_of-flat_map format (min 262144 room) ps h.0 (omega (arith, few, fits)) h.2

near_of-point_fields : (format : Format) (caller k : ℕ) (p : Place) (within : Option ℕ) → IsCommand format (Near caller k p within)
    → near_of format caller (decimal k ∷ (point_fields p ++ within_fields within)) ≡ Ok (Near caller k p within)
unfolding near_of
near_of-point_fields format caller k p None h =
    rw (natural_in-decimal 1 256 k (omega arith) h.1 h.2, place_of-signed_decimal format p h.3) refl
near_of-point_fields format caller k p (Some r) h =
    rw (natural_in-decimal 1 256 k (omega arith) h.1 h.2, place_of-signed_decimal format p h.3, natural_in-decimal 0 (farthest format) r (farthest_fits format) (omega arith) (h.4 r refl)) refl

inside_of-box_fields : (format : Format) (caller k : ℕ) (c : Bounds) → IsCommand format (Inside caller k c)
    → inside_of format caller (decimal k ∷ box_fields c) ≡ Ok (Inside caller k c)
unfolding inside_of
inside_of-box_fields format caller k c h =
    rw (natural_in-decimal 1 256 k (omega arith) h.1 h.2, box_of-signed_decimal format c h.3) refl

nears_of-point_fields : (caller k : ℕ) (ps : List Place) → IsCommand Two (Nears caller k ps)
    → nears_of caller (decimal k ∷ flat_map point_fields ps) ≡ Ok (Nears caller k ps)
unfolding nears_of
nears_of-point_fields caller k ps h =
    let count = length-point_fields ps in
    let some : 0 < length ps = h.3.0 in
    rw (
      groups_of-many 3 262144 (length ps) (flat_map point_fields ps) count (omega (arith, count)) (omega (arith, count)) (omega (arith, count)) h.3.1,
      natural_in-decimal 1 256 k (omega arith) h.1 h.2,
      places_of-flat_map Two ps h.3.2,
    ) refl

ball_of-fields : (caller k r : ℕ) (p : Place) → IsCommand Two (Ball caller k r p) → ball_of caller (decimal k ∷ decimal r ∷ point_fields p) ≡ Ok (Ball caller k r p)
unfolding ball_of
ball_of-fields caller k r p h =
    rw (natural_in-decimal 1 256 k (omega arith) h.1 h.2, natural_in-decimal 0 (farthest Two) r (farthest_fits Two) (omega arith) h.3, place_of-signed_decimal Two p h.4) refl

reach_of-fields : (k r : ℕ) → 1 ≤ k → k ≤ 256 → r ≤ farthest Two → reach_of (decimal k ∷ decimal r ∷ []) ≡ Ok (k, r)
unfolding reach_of
reach_of-fields k r from to near =
    rw (natural_in-decimal 1 256 k (omega arith) from to, natural_in-decimal 0 (farthest Two) r (farthest_fits Two) (omega arith) near) refl

pose_of-fields : (caller : ℕ) (rules : Rules) (p : Place) → IsCommand Two (Pose caller rules p)
    → pose_of caller (decimal rules.side ∷ decimal rules.ball ∷ decimal rules.step ∷ point_fields p) ≡ Ok (Pose caller rules p)
unfolding pose_of
pose_of-fields caller rules p h =
    let side_from : 2 ≤ rules.side = h.1.side_from in
    let side_to : rules.side ≤ 2199023255552 = h.1.side_to in
    let ball : 2 * rules.ball < rules.side = h.1.ball in
    let step_from : 1 ≤ rules.step = h.1.step_from in
    let step_to : rules.step ≤ rules.side = h.1.step_to in
    rw (
      natural_in-decimal 2 2199023255552 rules.side (omega arith) side_from side_to,
      natural_in-decimal 0 ((rules.side - 1) / 2) rules.ball (omega arith) (omega arith) (omega arith),
      natural_in-decimal 1 rules.side rules.step (omega arith) step_from step_to,
      place_of-signed_decimal Two p h.2,
    ) refl

digit_caller-decimal : (caller : ℕ) → IsCaller caller → digit_caller (decimal caller) ≡ Ok caller
digit_caller-decimal caller h =
    let from : 1 ≤ caller = h.0 in
    let to : caller ≤ 8 = h.1 in
    let low : nat_le 49 (48 + caller) ≡ true = grind (arith, nat_tests) in
    let high : nat_le (48 + caller) 56 ≡ true = grind (arith, nat_tests) in
    rw (decimal_digit caller (omega arith), low, high) (ap Ok (omega arith))

-- a line of a caller
called_again : (format : Format) (room caller : ℕ) (fields : List (List ℕ)) → IsCaller caller
    → command_of format room (caller_field caller ∷ fields) ≡ after_caller format room caller fields
unfolding command_of caller_of
called_again format room caller fields h = rw (digit_caller-decimal caller h) refl

-- a word that version 1 has, too
called_basic : (format : Format) (room caller : ℕ) (word : List ℕ) (args : List (List ℕ))
    → bytes_eq word (codes "nears") ≡ false → bytes_eq word (codes "ball") ≡ false → bytes_eq word (codes "lonely") ≡ false → bytes_eq word (codes "clusters") ≡ false → bytes_eq word (codes "pose") ≡ false
    → called_of format room caller word args ≡ basic_of format room caller word args
unfolding called_of
called_basic One room caller word args n b l c p = refl
called_basic Two room caller word args n b l c p = rw (n, b, l, c, p) refl

update_again : (format : Format) (room caller : ℕ) (u : Update) → IsCommand format (Change caller u) → submitted (Change caller u) ≤ room
    → after_caller format room caller (update_fields format u) ≡ Ok (Change caller u)
unfolding basic_of update_of expiry_of
update_again format room caller (Add ps) h fits = called_basic format room caller _ _ refl refl refl refl refl ∙ rw (points_again format room ps h.1 fits) refl
update_again format room caller (Thin ps) h fits = called_basic format room caller _ _ refl refl refl refl refl ∙ rw (points_again format room ps h.1 fits) refl
update_again format room caller (Delete cs) h fits = called_basic format room caller _ _ refl refl refl refl refl ∙ rw (few_boxes_of-flat_map format cs h.1) refl
update_again format room caller (Suspend cs) h fits = called_basic format room caller _ _ refl refl refl refl refl ∙ rw (few_boxes_of-flat_map format cs h.1) refl
update_again format room caller (Restore cs) h fits = called_basic format room caller _ _ refl refl refl refl refl ∙ rw (few_boxes_of-flat_map format cs h.1) refl
update_again One room caller (Expire n) h fits = absurd h.1
update_again Two room caller (Expire n) h fits =
    called_basic Two room caller _ _ refl refl refl refl refl ∙ rw (natural_in-decimal 0 4194304 n (omega arith) (omega arith) h.1) refl

near_again : (format : Format) (room caller k : ℕ) (p : Place) (within : Option ℕ) → IsCommand format (Near caller k p within)
    → after_caller format room caller (codes "near" ∷ decimal k ∷ (point_fields p ++ within_fields within)) ≡ Ok (Near caller k p within)
unfolding basic_of
near_again format room caller k p within h = called_basic format room caller _ _ refl refl refl refl refl ∙ near_of-point_fields format caller k p within h

inside_again : (format : Format) (room caller k : ℕ) (c : Bounds) → IsCommand format (Inside caller k c)
    → after_caller format room caller (codes "box" ∷ decimal k ∷ box_fields c) ≡ Ok (Inside caller k c)
unfolding basic_of
inside_again format room caller k c h = called_basic format room caller _ _ refl refl refl refl refl ∙ inside_of-box_fields format caller k c h

nears_again : (format : Format) (room caller k : ℕ) (ps : List Place) → IsCommand format (Nears caller k ps)
    → after_caller format room caller (codes "nears" ∷ decimal k ∷ flat_map point_fields ps) ≡ Ok (Nears caller k ps)
unfolding called_of
nears_again One room caller k ps h = absurd h.4
nears_again Two room caller k ps h = nears_of-point_fields caller k ps h

ball_again : (format : Format) (room caller k r : ℕ) (p : Place) → IsCommand format (Ball caller k r p)
    → after_caller format room caller (codes "ball" ∷ decimal k ∷ decimal r ∷ point_fields p) ≡ Ok (Ball caller k r p)
unfolding called_of
ball_again One room caller k r p h = absurd h.5
ball_again Two room caller k r p h = ball_of-fields caller k r p h

lonely_again : (format : Format) (room caller k r : ℕ) → IsCommand format (Lonely caller k r)
    → after_caller format room caller (codes "lonely" ∷ decimal k ∷ decimal r ∷ []) ≡ Ok (Lonely caller k r)
unfolding called_of
lonely_again One room caller k r h = absurd h.4
lonely_again Two room caller k r h = rw (reach_of-fields k r h.1 h.2 h.3) refl

clusters_again : (format : Format) (room caller k r : ℕ) → IsCommand format (Clusters caller k r)
    → after_caller format room caller (codes "clusters" ∷ decimal k ∷ decimal r ∷ []) ≡ Ok (Clusters caller k r)
unfolding called_of
clusters_again One room caller k r h = absurd h.4
clusters_again Two room caller k r h = rw (reach_of-fields k r h.1 h.2 h.3) refl

pose_again : (format : Format) (room caller : ℕ) (rules : Rules) (p : Place) → IsCommand format (Pose caller rules p)
    → after_caller format room caller (codes "pose" ∷ decimal rules.side ∷ decimal rules.ball ∷ decimal rules.step ∷ point_fields p) ≡ Ok (Pose caller rules p)
unfolding called_of
pose_again One room caller rules p h = absurd h.3
pose_again Two room caller rules p h = pose_of-fields caller rules p h

command_of-command_fields : (format : Format) (room : ℕ) (c : Command) → IsCommand format c → submitted c ≤ room → command_of format room (command_fields format c) ≡ Ok c
unfolding command_of
command_of-command_fields format room (Change caller u) h fits = called_again format room caller (update_fields format u) h.0 ∙ update_again format room caller u h fits
command_of-command_fields format room (Near caller k p within) h fits =
    called_again format room caller (codes "near" ∷ decimal k ∷ (point_fields p ++ within_fields within)) h.0 ∙ near_again format room caller k p within h
command_of-command_fields format room (Nears caller k ps) h fits =
    called_again format room caller (codes "nears" ∷ decimal k ∷ flat_map point_fields ps) h.0 ∙ nears_again format room caller k ps h
command_of-command_fields format room (Inside caller k c) h fits =
    called_again format room caller (codes "box" ∷ decimal k ∷ box_fields c) h.0 ∙ inside_again format room caller k c h
command_of-command_fields format room (Ball caller k r p) h fits =
    called_again format room caller (codes "ball" ∷ decimal k ∷ decimal r ∷ point_fields p) h.0 ∙ ball_again format room caller k r p h
command_of-command_fields format room (Lonely caller k r) h fits =
    called_again format room caller (codes "lonely" ∷ decimal k ∷ decimal r ∷ []) h.0 ∙ lonely_again format room caller k r h
command_of-command_fields format room (Clusters caller k r) h fits =
    called_again format room caller (codes "clusters" ∷ decimal k ∷ decimal r ∷ []) h.0 ∙ clusters_again format room caller k r h
command_of-command_fields format room (Pose caller rules p) h fits =
    called_again format room caller (codes "pose" ∷ decimal rules.side ∷ decimal rules.ball ∷ decimal rules.step ∷ point_fields p) h.0 ∙ pose_again format room caller rules p h
command_of-command_fields format room Sync h fits = refl

command_of-erasure : (format : Format) (room caller : ℕ) (ps : List Place) → IsCaller caller → ArePoints format ps
    → command_of format room (caller_field caller ∷ codes "erase" ∷ flat_map point_fields ps) ≡ Ok (Change caller (Delete (map unit_box ps)))
unfolding basic_of update_of
command_of-erasure format room caller ps from h =
    called_again format room caller (codes "erase" ∷ flat_map point_fields ps) from ∙ called_basic format room caller _ _ refl refl refl refl refl ∙ rw (units_of-flat_map format ps h) refl

-- a command is read where the fields spell it, in either way
pub command_of-spelled : (format : Format) (room : ℕ) (fields : List (List ℕ)) (c : Command) → FieldsSpell format fields c → IsCommand format c → submitted c ≤ room
    → command_of format room fields ≡ Ok c
command_of-spelled format room fields c (inl text) is fits = ap (command_of format room) text ∙ command_of-command_fields format room c is fits
command_of-spelled format room fields c (inr e) is fits =
    let from : IsCaller e.caller = (rw e.command at is).0 in
    ap (command_of format room) e.text ∙ command_of-erasure format room e.caller e.points from e.limits ∙ ap Ok (sym e.command)

pub header_of-header_fields : (format : Format) (s : Sizes) → AreSizes s → header_of (header_fields format s) ≡ Ok (format, s)
unfolding header_of
header_of-header_fields One s h =
    let voxel = natural_in-decimal 1 1000000 s.voxel (omega arith) h.voxel_from h.voxel_to in
    let large = natural_in-decimal 16 1000000 s.large (omega arith) h.large_from h.large_to in
    rw (voxel, large) refl
header_of-header_fields Two s h =
    let voxel = natural_in-decimal 1 1000000 s.voxel (omega arith) h.voxel_from h.voxel_to in
    let large = natural_in-decimal 16 1000000 s.large (omega arith) h.large_from h.large_to in
    rw (voxel, large) refl
