-- The first fault of a log, in the order of the checks.
use Rattle.std.specs.Prelude.{ℕ, ◌+◌, ◌-◌, ◌*◌, ◌/◌, ◌%◌, ℤ, pos, unsigned_abs, Bool, true, false, not, ◌&&◌, ◌||◌, ◌==◌, nat_lt, nat_le, int_le, List, [], ◌∷◌, ◌++◌, count_by, length, codes, decimal, if◌then◌else◌}
use Rattle.std.specs.Str.{bytes_eq}
use Rattle.std.specs.Str.Parse.{signed_digits_value}
use Rattle.std.specs.declared.option.Option.{Option}
use Rattle.std.specs.declared.option.Option.TheVariants.{None, Some}
use Rattle.log_numbers.specs.Numerals.{is_numeral}
use Rattle.scan_log.specs.declared.format.Format.{Format}
use Rattle.scan_log.specs.declared.format.Format.TheVariants.{One, Two}
use Rattle.scan_log.specs.Formats.{is_version, format_of, lowest, highest, box_highest, farthest, width, greatest_intensity, has_expiry}
use Rattle.scan_log.specs.declared.fault.LogCause.{LogCause}
use Rattle.scan_log.specs.declared.fault.LogCause.TheVariants.{NoHeader, UnknownCommand, BadCaller, BadNumber, OutOfRange, WrongCount, InvertedBox, TooManyPoints, TooManyCommands, TooManyHits}
use Rattle.scan_log.specs.Lines.{lines_of, kept_from, fields_of}
use Rattle.scan_log.specs.Scripts.{room_of}
use Rattle.map_items.specs.declared.limits.TheConstants.{MAX_POINTS}
use Rattle.scan_log.specs.declared.commands.TheConstants.{MAX_COMMANDS}

-- a fault, and the number of the line that has it
pub record FaultAt : Type 0 where
  pub line : ℕ
  pub cause : LogCause

-- the words for each cause, as bytes
abbrev pub cause_text : LogCause → List ℕ
cause_text NoHeader = codes "no header"
cause_text UnknownCommand = codes "unknown command"
cause_text BadCaller = codes "bad caller"
cause_text BadNumber = codes "bad number"
cause_text OutOfRange = codes "out of range"
cause_text WrongCount = codes "wrong count"
cause_text InvertedBox = codes "inverted box"
cause_text TooManyPoints = codes "too many points"
cause_text TooManyCommands = codes "too many commands"
cause_text TooManyHits = codes "too many hits"

-- the log is refused for its length alone
abbrev pub is_limit : LogCause → Bool
is_limit NoHeader = false
is_limit UnknownCommand = false
is_limit BadCaller = false
is_limit BadNumber = false
is_limit OutOfRange = false
is_limit WrongCount = false
is_limit InvertedBox = false
is_limit TooManyPoints = true
is_limit TooManyCommands = true
is_limit TooManyHits = true

-- the first of two checks that fails
infixl 10 ◌orelse◌
abbrev pub ◌orelse◌ : {X : Type 0} → Option X → Option X → Option X
None orelse d = d
(Some c) orelse d = Some c

-- the cause, unless the test passes
abbrev pub fault_unless : Bool → LogCause → Option LogCause
fault_unless true c = None
fault_unless false c = Some c

-- the number that a numeral spells
abbrev pub value : List ℕ → ℤ
value f = signed_digits_value 10 f

-- a number is to be from low to high
abbrev pub number_fault : ℤ → ℤ → List ℕ → Option LogCause
number_fault low high f = fault_unless (is_numeral f) BadNumber orelse fault_unless (int_le low (value f) && int_le (value f) high) OutOfRange

-- each is to be a coordinate of a point
abbrev pub coordinates_fault : Format → List (List ℕ) → Option LogCause
coordinates_fault format [] = None
coordinates_fault format (f ∷ fs) = number_fault (lowest format) (highest format) f orelse coordinates_fault format fs

-- the numbers of the points that are added or thinned, where each fourth may be an intensity
abbrev pub scanned_fault : Format → List (List ℕ) → Option LogCause
scanned_fault One args = coordinates_fault One args
scanned_fault Two (x ∷ y ∷ z ∷ intensity ∷ rest) =
    coordinates_fault Two (x ∷ y ∷ z ∷ []) orelse number_fault (pos 0) (pos (greatest_intensity Two)) intensity orelse scanned_fault Two rest
scanned_fault Two args = None

-- a number of a box's corner
abbrev pub corner_fault : Format → List ℕ → Option LogCause
corner_fault format f = number_fault (lowest format) (box_highest format) f

-- six numbers, of which no upper one is below its lower one, and then the next box
abbrev pub boxes_fault : Format → List (List ℕ) → Option LogCause
boxes_fault format (a ∷ b ∷ c ∷ d ∷ e ∷ f ∷ rest) =
    corner_fault format a orelse corner_fault format b orelse corner_fault format c orelse corner_fault format d orelse corner_fault format e orelse corner_fault format f
    orelse fault_unless (int_le (value a) (value d) && int_le (value b) (value e) && int_le (value c) (value f)) InvertedBox
    orelse boxes_fault format rest
boxes_fault format fields = None

-- the arguments are in groups of n, and there is at least one
abbrev pub are_groups : ℕ → List (List ℕ) → Bool
are_groups n args = not (length args == 0) && (length args % n == 0)

-- the points of add and thin, after `before` points
abbrev pub points_fault : Format → ℕ → List (List ℕ) → Option LogCause
points_fault format before args =
    fault_unless (are_groups (width format) args) WrongCount
    orelse fault_unless (nat_le (length args / width format) 262144 && nat_le (before + length args / width format) MAX_POINTS) TooManyPoints
    orelse scanned_fault format args

-- the points of erase, of which there are from 1 to 262,144
abbrev pub erase_fault : Format → List (List ℕ) → Option LogCause
erase_fault format args = fault_unless (are_groups 3 args) WrongCount orelse fault_unless (nat_le (length args / 3) 262144) TooManyPoints orelse coordinates_fault format args

-- the boxes of delete, suspend and restore
abbrev pub marks_fault : Format → List (List ℕ) → Option LogCause
marks_fault format args = fault_unless (are_groups 6 args) WrongCount orelse fault_unless (nat_le (length args / 6) 262144) TooManyPoints orelse boxes_fault format args

-- the number of an expiry
abbrev pub expire_fault : List (List ℕ) → Option LogCause
expire_fault (n ∷ []) = number_fault (pos 0) (pos MAX_POINTS) n
expire_fault args = Some WrongCount

-- the count that is asked for is to be from 1 to 256
abbrev pub k_fault : List ℕ → Option LogCause
k_fault f = number_fault (pos 1) (pos 256) f

-- what near is asked with: a count, a point, and a greatest distance where one is given
abbrev pub near_fault : Format → List (List ℕ) → Option LogCause
near_fault format (k ∷ x ∷ y ∷ z ∷ []) = k_fault k orelse coordinates_fault format (x ∷ y ∷ z ∷ [])
near_fault format (k ∷ x ∷ y ∷ z ∷ word ∷ r ∷ []) =
    fault_unless (bytes_eq word (codes "within")) WrongCount orelse k_fault k orelse coordinates_fault format (x ∷ y ∷ z ∷ []) orelse number_fault (pos 0) (pos (farthest format)) r
near_fault format args = Some WrongCount

-- what box is asked with: a count and a box
abbrev pub box_fault : Format → List (List ℕ) → Option LogCause
box_fault format (k ∷ a ∷ b ∷ c ∷ d ∷ e ∷ f ∷ []) = k_fault k orelse boxes_fault format (a ∷ b ∷ c ∷ d ∷ e ∷ f ∷ [])
box_fault format args = Some WrongCount

-- a count, and the points that are searched round
abbrev pub nears_fault : List (List ℕ) → Option LogCause
nears_fault (k ∷ args) =
    fault_unless (are_groups 3 args) WrongCount orelse fault_unless (nat_le (length args / 3) 262144) TooManyPoints orelse k_fault k orelse coordinates_fault Two args
nears_fault [] = Some WrongCount

-- a distance, in version 2
abbrev pub distance_fault : List ℕ → Option LogCause
distance_fault f = number_fault (pos 0) (pos (farthest Two)) f

-- what ball is asked with, in version 2: a count, a distance and a point
abbrev pub ball_fault : List (List ℕ) → Option LogCause
ball_fault (k ∷ r ∷ x ∷ y ∷ z ∷ []) = k_fault k orelse distance_fault r orelse coordinates_fault Two (x ∷ y ∷ z ∷ [])
ball_fault args = Some WrongCount

-- what lonely and clusters are asked with
abbrev pub reach_fault : List (List ℕ) → Option LogCause
reach_fault (k ∷ r ∷ []) = k_fault k orelse distance_fault r
reach_fault args = Some WrongCount

-- twice the ball is to be below the side, and the step no longer than it
abbrev pub pose_fault : List (List ℕ) → Option LogCause
pose_fault (side ∷ ball ∷ step ∷ x ∷ y ∷ z ∷ []) =
    number_fault (pos 2) (pos 2199023255552) side orelse number_fault (pos 0) (pos ((unsigned_abs (value side) - 1) / 2)) ball
    orelse number_fault (pos 1) (pos (unsigned_abs (value side))) step orelse coordinates_fault Two (x ∷ y ∷ z ∷ [])
pose_fault args = Some WrongCount

-- a command of this word and these arguments, of those that version 1 has, or an expiry
abbrev pub basic_fault : Format → ℕ → List ℕ → List (List ℕ) → Option LogCause
basic_fault format before word args =
    if bytes_eq word (codes "add") || bytes_eq word (codes "thin") then points_fault format before args else (
    if bytes_eq word (codes "erase") then erase_fault format args else (
    if bytes_eq word (codes "delete") || bytes_eq word (codes "suspend") || bytes_eq word (codes "restore") then marks_fault format args else (
    if bytes_eq word (codes "near") then near_fault format args else (
    if bytes_eq word (codes "box") then box_fault format args else (
    if has_expiry format && bytes_eq word (codes "expire") then expire_fault args else Some UnknownCommand)))))

-- a command of this word and these arguments, after `before` points
abbrev pub word_fault : Format → ℕ → List ℕ → List (List ℕ) → Option LogCause
word_fault One before word args = basic_fault One before word args
word_fault Two before word args =
    if bytes_eq word (codes "nears") then nears_fault args else (
    if bytes_eq word (codes "ball") then ball_fault args else (
    if bytes_eq word (codes "lonely") || bytes_eq word (codes "clusters") then reach_fault args else (
    if bytes_eq word (codes "pose") then pose_fault args else basic_fault Two before word args)))

-- one digit from 1 to 8
abbrev pub is_caller : List ℕ → Bool
is_caller (c ∷ []) = nat_le 49 c && nat_le c 56
is_caller digits = false

-- a command of a caller
abbrev pub called_fault : Format → ℕ → List ℕ → List (List ℕ) → Option LogCause
called_fault format before (c ∷ digits) (word ∷ args) = fault_unless (c == 64) UnknownCommand orelse fault_unless (is_caller digits) BadCaller orelse word_fault format before word args
called_fault format before (c ∷ digits) [] = fault_unless (c == 64) UnknownCommand orelse fault_unless (is_caller digits) BadCaller orelse Some UnknownCommand
called_fault format before [] fields = Some UnknownCommand

-- how many hits a list has room for whose count the first argument spells
abbrev pub count_room : List (List ℕ) → ℕ
count_room (k ∷ args) = room_of (unsigned_abs (value k))
count_room [] = 0

-- how many hits the reply to the fields of a good command has room for
abbrev pub fields_hits : List (List ℕ) → ℕ
fields_hits (caller ∷ word ∷ args) =
    if bytes_eq word (codes "near") then count_room args else (
    if bytes_eq word (codes "nears") then length args / 3 * count_room args else 0)
fields_hits fields = 0

-- the fault of a command's fields, after this many commands, points and hits
abbrev pub command_fault : Format → ℕ → ℕ → ℕ → List (List ℕ) → Option LogCause
command_fault format commands points hits (first ∷ fields) =
    fault_unless (nat_lt commands MAX_COMMANDS) TooManyCommands
    orelse (if bytes_eq first (codes "sync") then fault_unless (length fields == 0) WrongCount else called_fault format points first fields)
    orelse fault_unless (nat_le (hits + fields_hits (first ∷ fields)) 16777216) TooManyHits
command_fault format commands points hits [] = Some UnknownCommand

-- how many points the fields of a good command submit
abbrev pub fields_points : Format → List (List ℕ) → ℕ
fields_points format (caller ∷ word ∷ args) = if bytes_eq word (codes "add") || bytes_eq word (codes "thin") then length args / width format else 0
fields_points format fields = 0

-- the fault of the header's fields
abbrev pub header_fault : List (List ℕ) → Option LogCause
header_fault (a ∷ b ∷ c ∷ edge ∷ d ∷ large ∷ []) =
    fault_unless (bytes_eq a (codes "ikdmap") && is_version b && bytes_eq c (codes "voxel") && bytes_eq d (codes "large")) NoHeader
    orelse number_fault (pos 1) (pos 1000000) edge orelse number_fault (pos 16) (pos 1000000) large
header_fault fields = Some NoHeader

-- the version that a good header's fields name
abbrev pub named_format : List (List ℕ) → Format
named_format (a ∷ b ∷ fields) = format_of b
named_format fields = One

-- a line's fault
abbrev pub at_line : ℕ → Option LogCause → Option FaultAt
at_line n None = None
at_line n (Some c) = Some (record { line = n; cause = c })

-- the first fault of the commands' lines, after this many commands, points and hits
abbrev pub commands_fault : Format → ℕ → ℕ → ℕ → List (ℕ × List ℕ) → Option FaultAt
commands_fault format commands points hits [] = None
commands_fault format commands points hits ((n, line) ∷ lines) =
    at_line n (command_fault format commands points hits (fields_of line))
    orelse commands_fault format (commands + 1) (points + fields_points format (fields_of line)) (hits + fields_hits (fields_of line)) lines

-- the first fault of the kept lines, where the log has `feeds` line feeds
abbrev pub lines_fault : ℕ → List (ℕ × List ℕ) → Option FaultAt
lines_fault feeds [] = Some (record { line = feeds + 1; cause = NoHeader })
lines_fault feeds ((n, header) ∷ lines) = at_line n (header_fault (fields_of header)) orelse commands_fault (named_format (fields_of header)) 0 0 0 lines

-- how many line feeds there are
abbrev pub line_feeds : List ℕ → ℕ
line_feeds bytes = count_by (λ b. b == 10) bytes

-- the first fault of a log
abbrev pub first_fault : List ℕ → Option FaultAt
first_fault bytes = lines_fault (line_feeds bytes) (kept_from 1 (lines_of bytes))

-- line N: and the cause's text
abbrev pub fault_text : FaultAt → List ℕ
fault_text f = codes "line " ++ decimal f.line ++ codes ": " ++ cause_text f.cause
