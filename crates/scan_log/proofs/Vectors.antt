-- Worked examples, by computation.
use Rattle.std.proofs.Common.{◌≡◌, refl, inr, rules, ℤ, pos, List, ℕ, [], ◌∷◌, Ok, Err}
use lib.IntN.{negsuc}
use Rattle.std.specs.Prelude.{codes}
use Rattle.std.specs.Fmt.{digits}
use Rattle.std.specs.declared.option.Option.TheVariants.{None, Some}
use Rattle.point_geom.specs.Place.{Place, Bounds}
use Rattle.point_geom.specs.Boxes.{unit_box}
use Rattle.point_geom.specs.Corners.{corner_of as corner_at}
use Rattle.map_items.specs.declared.update.Update.TheVariants.{Add, Thin, Delete, Suspend, Restore}
use Rattle.scan_log.specs.declared.command.Command.TheVariants.{Change, Near, Nears, Inside, Ball, Lonely, Clusters, Pose, Sync}
use Rattle.scan_log.specs.declared.format.Format.TheVariants.{One, Two}
use Rattle.scan_log.specs.declared.fault.LogCause.{LogCause}
use Rattle.scan_log.specs.declared.fault.LogCause.TheVariants.{NoHeader, UnknownCommand, BadCaller, BadNumber, OutOfRange, WrongCount, InvertedBox, TooManyPoints, TooManyCommands, TooManyHits}
use Rattle.scan_log.specs.Lines.{lines_of, kept_lines, fields_of}
use Rattle.scan_log.specs.Numbers.{number_in}
use Rattle.scan_log.specs.Faults.{FaultAt, command_fault, first_fault, fault_text}
use Rattle.scan_log.specs.Scripts.{ScriptAt}
use Rattle.scan_log.specs.Spelling.{header_fields, command_fields, LineSpells}
use Rattle.scan_log.specs.Reading.{few_scanned_of, scanned_place_of, place_of, corner_of, box_of, groups_of, few_places_of, few_boxes_of, units_of, update_of, near_of, inside_of, nears_of, ball_of, reach_of, pose_of, basic_of, called_of, caller_of, command_of, header_of, log_of}
use Rattle.scan_log.specs.Poses.{plain_script}
use Rattle.scan_log.specs.Transcript.{text, serial_marks}

abbrev at : ℤ → ℤ → ℤ → Place
at x y z = record { x = x; y = y; z = z; intensity = 0 }

-- the smallest run
abbrev script : ScriptAt
script = record {
  format = One;
  sizes = record { voxel = 200; large = 1500 };
  commands = Change 1 (Add (at (pos 1) (pos 2) (pos 3) ∷ [])) ∷ Near 1 1 (at (pos 0) (pos 0) (pos 0)) None ∷ [];
}

abbrev log : List ℕ
log = codes "ikdmap 1 voxel 200 large 1500\n@1 add 1 2 3\n@1 near 1 0 0 0\n"

log_read : log_of log ≡ Ok script
unfolding log_of header_of command_of caller_of called_of basic_of update_of few_places_of few_scanned_of groups_of place_of near_of
log_read = refl

script_told : text script (serial_marks (plain_script script)) ≡ codes "@1 ok 1\n@1 near 1 | 0 1 2 3 14\nend 1 live 1 suspended 0\n"
unfolding digits
script_told = refl

-- from -1, 0, 1 to 2, 3, 4
abbrev box : Bounds
box = record { lo = corner_at (at (negsuc 0) (pos 0) (pos 1)); hi = corner_at (at (pos 2) (pos 3) (pos 4)) }

-- each kind of command, with lines that are skipped
abbrev all_kinds : ScriptAt
all_kinds = record {
  format = One;
  sizes = record { voxel = 1; large = 16 };
  commands = Change 8 (Thin (at (negsuc 6) (pos 0) (pos 12) ∷ [])) ∷ Change 2 (Suspend (box ∷ [])) ∷ Change 3 (Restore (box ∷ []))
      ∷ Change 4 (Delete (box ∷ [])) ∷ Change 5 (Delete (unit_box (at (pos 1) (pos 2) (pos 3)) ∷ [])) ∷ Sync
      ∷ Near 6 256 (at (pos 0) (pos 0) (pos 0)) (Some 4000000000) ∷ Inside 7 1 box ∷ [];
}

abbrev log_of_all_kinds : List ℕ
log_of_all_kinds = codes "# a map\n\nikdmap 1 voxel 1 large 16\n@8 thin -7 0 12\n@2 suspend -1 0 1 2 3 4\n\n@3 restore -1 0 1 2 3 4\n#\n@4 delete -1 0 1 2 3 4\n@5 erase 1 2 3\nsync\n@6 near 256 0 0 0 within 4000000000\n@7 box 1 -1 0 1 2 3 4"

all_kinds_read : log_of log_of_all_kinds ≡ Ok all_kinds
unfolding log_of header_of command_of caller_of called_of basic_of update_of few_places_of few_scanned_of few_boxes_of groups_of place_of corner_of box_of units_of near_of inside_of
all_kinds_read = refl

-- wide coordinates and intensities
abbrev wide_script : ScriptAt
wide_script = record {
  format = Two;
  sizes = record { voxel = 200; large = 1500 };
  commands = Change 1 (Add (record { x = pos 1099511627776; y = pos 0; z = pos 0; intensity = 7 } ∷ record { x = pos 1; y = pos 2; z = pos 3; intensity = 65535 } ∷ []))
      ∷ Near 1 2 (at (negsuc 1099511627775) (pos 0) (pos 0)) None ∷ [];
}

abbrev wide_log : List ℕ
wide_log = codes "ikdmap 2 voxel 200 large 1500\n@1 add 1099511627776 0 0 7 1 2 3 65535\n@1 near 2 -1099511627776 0 0\n"

wide_log_read : log_of wide_log ≡ Ok wide_script
unfolding log_of header_of command_of caller_of called_of basic_of update_of few_scanned_of scanned_place_of groups_of place_of near_of
wide_log_read = refl

wide_script_told : text wide_script (serial_marks (plain_script wide_script))
    ≡ codes "@1 ok 1\n@1 near 1 | 1 1 2 3 65535 1208925819616828197961742 | 0 1099511627776 0 0 7 4835703278458516698824704\nend 1 live 2 suspended 0\n"
unfolding digits
wide_script_told = refl

-- the searches that version 2 alone has
abbrev seen : ℕ → Place
seen x = record { x = pos x; y = pos 0; z = pos 0; intensity = 1 }

abbrev searches : ScriptAt
searches = record {
  format = Two;
  sizes = record { voxel = 200; large = 1500 };
  commands = Change 1 (Add (seen 0 ∷ seen 3 ∷ seen 6 ∷ seen 20 ∷ seen 24 ∷ [])) ∷ Nears 1 1 (at (pos 1) (pos 0) (pos 0) ∷ at (pos 21) (pos 0) (pos 0) ∷ [])
      ∷ Ball 1 5 3 (at (pos 3) (pos 0) (pos 0)) ∷ Lonely 1 5 3 ∷ Clusters 1 5 3 ∷ Clusters 1 1 4 ∷ [];
}

abbrev log_of_searches : List ℕ
log_of_searches = codes "ikdmap 2 voxel 200 large 1500\n@1 add 0 0 0 1 3 0 0 1 6 0 0 1 20 0 0 1 24 0 0 1\n@1 nears 1 1 0 0 21 0 0\n@1 ball 5 3 3 0 0\n@1 lonely 5 3\n@1 clusters 5 3\n@1 clusters 1 4\n"

searches_read : log_of log_of_searches ≡ Ok searches
unfolding log_of header_of command_of caller_of called_of basic_of update_of few_scanned_of scanned_place_of groups_of place_of nears_of ball_of reach_of
searches_read = refl

searches_told : text searches (serial_marks (plain_script searches))
    ≡ codes "@1 ok 1\n@1 nears 1 / | 0 0 0 0 1 1 / | 3 20 0 0 1 1\n@1 ball 1 3 | 0 0 0 0 1 | 1 3 0 0 1 | 2 6 0 0 1\n@1 lonely 1 2 | 3 20 0 0 1 | 4 24 0 0 1\n@1 clusters 1 3 | 0 3 | 3 1 | 4 1\n@1 clusters 1 2 | 0 3\nend 1 live 5 suspended 0\n"
unfolding digits
searches_told = refl

-- a region that moves by its caller's poses, and what leaves it
abbrev posed_script : ScriptAt
posed_script = record {
  format = Two;
  sizes = record { voxel = 200; large = 1500 };
  commands = Change 1 (Add (seen 0 ∷ record { x = negsuc 44; y = pos 0; z = pos 0; intensity = 2 } ∷ seen 45 ∷ []))
      ∷ Pose 1 (record { side = 100; ball = 20; step = 30 }) (at (pos 0) (pos 0) (pos 0)) ∷ Pose 1 (record { side = 100; ball = 20; step = 30 }) (at (pos 30) (pos 0) (pos 0))
      ∷ Near 1 3 (at (pos 0) (pos 0) (pos 0)) None ∷ [];
}

abbrev log_of_poses : List ℕ
log_of_poses = codes "ikdmap 2 voxel 200 large 1500\n@1 add 0 0 0 1 -45 0 0 2 45 0 0 1\n@1 pose 100 20 30 0 0 0\n@1 pose 100 20 30 30 0 0\n@1 near 3 0 0 0\n"

poses_read : log_of log_of_poses ≡ Ok posed_script
unfolding log_of header_of command_of caller_of called_of basic_of update_of few_scanned_of scanned_place_of groups_of place_of near_of pose_of
poses_read = refl

poses_told : text posed_script (serial_marks (plain_script posed_script))
    ≡ codes "@1 ok 1\n@1 ok 2\n@1 ok 3\n@1 near 3 | 0 0 0 0 1 0 | 2 45 0 0 1 2025\nend 3 live 2 suspended 0\n"
unfolding digits
poses_told = refl

header_spelled : fields_of (codes "ikdmap 1 voxel 200 large 1500") ≡ header_fields One script.sizes
unfolding digits
header_spelled = refl

-- with all its fields
near_spelled : fields_of (codes "@8 near 256 -1 0 1000000000 within 4000000000") ≡ command_fields One (Near 8 256 (at (negsuc 0) (pos 0) (pos 1000000000)) (Some 4000000000))
unfolding digits
near_spelled = refl

-- two boxes, of which the second holds no point
deletion_spelled : fields_of (codes "@1 delete -1 0 1 2 3 4 5 5 5 5 5 5") ≡ command_fields One (Change 1 (Delete (box ∷ record { lo = corner_at (at (pos 5) (pos 5) (pos 5)); hi = corner_at (at (pos 5) (pos 5) (pos 5)) } ∷ [])))
unfolding digits
deletion_spelled = refl

box_spelled : fields_of (codes "@8 box 12 -1 0 1 2 3 4") ≡ command_fields One (Inside 8 12 box)
unfolding digits
box_spelled = refl

-- the box of a point, by its corners
erased_box : unit_box (at (pos 1) (pos 2) (pos 3)) ≡ record { lo = corner_at (at (pos 1) (pos 2) (pos 3)); hi = corner_at (at (pos 2) (pos 3) (pos 4)) }
erased_box = refl

-- and by the point
erasure_spelled : LineSpells One (codes "@1 erase 1 2 3") (Change 1 (Delete (unit_box (at (pos 1) (pos 2) (pos 3)) ∷ [])))
unfolding digits
erasure_spelled = inr (record {
  caller = 1;
  points = at (pos 1) (pos 2) (pos 3) ∷ [];
  limits = search rules;
  command = refl;
  text = refl;
})

no_line : lines_of [] ≡ []
no_line = refl

last_line : lines_of (codes "a\n\nb") ≡ codes "a" ∷ [] ∷ codes "b" ∷ []
last_line = refl

skipped : kept_lines (codes "# a\n\nb\n #\n") ≡ codes "b" ∷ codes " #" ∷ []
skipped = refl

empty_fields : fields_of (codes " a  b ") ≡ [] ∷ codes "a" ∷ [] ∷ codes "b" ∷ [] ∷ []
empty_fields = refl

zero : number_in (negsuc 9) (pos 9) (codes "0") ≡ Ok (pos 0)
zero = refl

lowest : number_in (negsuc 9) (pos 9) (codes "-10") ≡ Ok (negsuc 9)
lowest = refl

below_the_lowest : number_in (negsuc 9) (pos 9) (codes "-11") ≡ Err OutOfRange
below_the_lowest = refl

above_the_highest : number_in (negsuc 9) (pos 9) (codes "10") ≡ Err OutOfRange
above_the_highest = refl

no_plus : number_in (negsuc 9) (pos 9) (codes "+5") ≡ Err BadNumber
no_plus = refl

no_leading_zero : number_in (negsuc 9) (pos 9) (codes "007") ≡ Err BadNumber
no_leading_zero = refl

no_minus_zero : number_in (negsuc 9) (pos 9) (codes "-0") ≡ Err BadNumber
no_minus_zero = refl

no_lone_minus : number_in (negsuc 9) (pos 9) (codes "-") ≡ Err BadNumber
no_lone_minus = refl

no_empty_number : number_in (negsuc 9) (pos 9) [] ≡ Err BadNumber
no_empty_number = refl

no_carriage_return : number_in (negsuc 9) (pos 9) (codes "3\r") ≡ Err BadNumber
no_carriage_return = refl

abbrev fault_on : ℕ → LogCause → FaultAt
fault_on n c = record { line = n; cause = c }

no_header : first_fault [] ≡ Some (fault_on 1 NoHeader)
no_header = refl

-- comments alone, of which the last has no line feed
comments_alone : first_fault (codes "# a\n# b") ≡ Some (fault_on 2 NoHeader)
comments_alone = refl

-- the lines that are skipped are counted
skipped_lines_count : first_fault (codes "ikdmap 1 voxel 200 large 1500\n# scan\n\n@9 add 1 2 3\n") ≡ Some (fault_on 4 BadCaller)
skipped_lines_count = refl

-- the first of two
first_of_two : first_fault (codes "ikdmap 1 voxel 200 large 1500\n@1 add 1 2\n@9 add 1 2 3\n") ≡ Some (fault_on 2 WrongCount)
first_of_two = refl

-- a count is looked at before the numbers
count_before_numbers : command_fault One 0 0 0 (fields_of (codes "@1 add +1 2 3 4")) ≡ Some WrongCount
count_before_numbers = refl

-- four numbers a point in version 2
intensity_missing : first_fault (codes "ikdmap 2 voxel 200 large 1500\n@1 add 1 2 3") ≡ Some (fault_on 2 WrongCount)
intensity_missing = refl

intensity_too_great : first_fault (codes "ikdmap 2 voxel 200 large 1500\n@1 add 1 2 3 65536") ≡ Some (fault_on 2 OutOfRange)
intensity_too_great = refl

-- but three in version 1, in its limits
wide_in_version_1 : first_fault (codes "ikdmap 1 voxel 200 large 1500\n@1 add 1000000001 2 3") ≡ Some (fault_on 2 OutOfRange)
wide_in_version_1 = refl

no_version_3 : first_fault (codes "ikdmap 3 voxel 200 large 1500\n") ≡ Some (fault_on 1 NoHeader)
no_version_3 = refl

-- the numbers of a box before its corners, and its corners before the next box
box_by_box : command_fault One 0 0 0 (fields_of (codes "@1 delete 0 0 0 -1 0 0 + 0 0 0 0 0")) ≡ Some InvertedBox
box_by_box = refl

too_many_points : command_fault One 0 4194304 0 (fields_of (codes "@1 thin 1 2 x")) ≡ Some TooManyPoints
too_many_points = refl

too_many_commands : command_fault One 65536 0 0 (fields_of (codes "what")) ≡ Some TooManyCommands
too_many_commands = refl

-- a list has room for 16 hits, also where fewer are asked for
too_many_hits : command_fault One 0 0 16777201 (fields_of (codes "@1 near 5 0 0 0")) ≡ Some TooManyHits
too_many_hits = refl

few_enough_hits : command_fault One 0 0 16777200 (fields_of (codes "@1 near 5 0 0 0")) ≡ None
few_enough_hits = refl

-- the room of each place's list is asked for
hits_of_places : command_fault Two 0 0 16777184 (fields_of (codes "@1 nears 17 0 0 0 1 1 1")) ≡ Some TooManyHits
hits_of_places = refl

-- the places are counted before the count is looked at
places_before_count : command_fault Two 0 0 0 (fields_of (codes "@1 nears 0 1 2")) ≡ Some WrongCount
places_before_count = refl

newer_word : command_fault One 0 0 0 (fields_of (codes "@1 lonely 5 3")) ≡ Some UnknownCommand
newer_word = refl

-- a ball that touches both faces of a region
wide_ball : command_fault Two 0 0 0 (fields_of (codes "@1 pose 100 50 x 0 0 0")) ≡ Some OutOfRange
wide_ball = refl

distance_before_point : command_fault Two 0 0 0 (fields_of (codes "@1 ball 5 4398046511105 x 0 0")) ≡ Some OutOfRange
distance_before_point = refl

unknown : command_fault One 0 0 0 (fields_of (codes "@1 sync")) ≡ Some UnknownCommand
unknown = refl

fault_told : fault_text (fault_on 12 WrongCount) ≡ codes "line 12: wrong count"
unfolding digits
fault_told = refl
