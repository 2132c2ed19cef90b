-- Reading a log line by line, and a line field by field. Cited by private functions alone.
use Rattle.std.specs.Prelude.{◌≡◌, ◌⊎◌, ℕ, ℤ, ◌+◌, ◌-◌, ◌/◌, Bool, ◌&&◌, ◌==◌, List, [], ◌∷◌, length, map, codes, min, nat_le, nat_lt, int_le, if◌then◌else◌}
use Rattle.std.specs.Str.{bytes_eq}
use Rattle.std.specs.declared.option.Option.{Option}
use Rattle.std.specs.declared.option.Option.TheVariants.{None, Some}
use Rattle.std.specs.declared.result.Result.{Result}
use Rattle.std.specs.declared.result.Result.TheVariants.{Ok, Err}
use Rattle.point_geom.specs.Place.{Place, Bounds}
use Rattle.point_geom.specs.Boxes.{unit_box}
use Rattle.point_geom.specs.declared.cuboid.Corner.{Corner}
use Rattle.map_items.specs.Sizes.{Sizes}
use Rattle.map_items.specs.declared.update.Update.{Update}
use Rattle.map_items.specs.declared.update.Update.TheVariants.{Add, Thin, Delete, Suspend, Restore, Expire}
use Rattle.scan_log.specs.declared.format.Format.{Format}
use Rattle.scan_log.specs.declared.format.Format.TheVariants.{One, Two}
use Rattle.scan_log.specs.Formats.{farthest, format_of, greatest_intensity, has_expiry, is_version, width}
use Rattle.scan_log.specs.declared.command.Command.{Command}
use Rattle.scan_log.specs.declared.command.Command.TheVariants.{Change, Near, Nears, Inside, Ball, Lonely, Clusters, Pose, Sync}
use Rattle.scan_log.specs.declared.commands.TheConstants.{MAX_COMMANDS}
use Rattle.scan_log.specs.declared.fault.LogCause.{LogCause}
use Rattle.scan_log.specs.declared.fault.LogCause.TheVariants.{NoHeader, UnknownCommand, BadCaller, WrongCount, InvertedBox, TooManyPoints, TooManyCommands, TooManyHits}
use Rattle.scan_log.specs.Steps.{◌>>=◌, given}
use Rattle.scan_log.specs.Lines.{lines_of, kept_from, fields_of}
use Rattle.scan_log.specs.Numbers.{coordinate, corner_number, natural_in, read_number}
use Rattle.scan_log.specs.Faults.{FaultAt, are_groups, line_feeds}
use Rattle.scan_log.specs.Scripts.{ScriptAt, asked, submitted}
use Rattle.map_items.specs.declared.limits.TheConstants.{MAX_POINTS}

-- a point of three fields
unfoldable pub place_of : Format → List ℕ → List ℕ → List ℕ → Result Place LogCause
place_of format f g h = do
  x ← coordinate format f
  y ← coordinate format g
  z ← coordinate format h
  Ok (record { x = x; y = y; z = z; intensity = 0 })

-- the number of the first field, as far as it counts
abbrev pub first_number : List (List ℕ) → Result ℤ LogCause
first_number [] = Err WrongCount
first_number (f ∷ fields) = read_number f

-- the coordinate of the first field
abbrev pub first_coordinate : Format → List (List ℕ) → Result ℤ LogCause
first_coordinate format [] = Err WrongCount
first_coordinate format (f ∷ fields) = coordinate format f

-- fewer than three
abbrev pub AreTooFew : List (List ℕ) → Type 0
AreTooFew fields = (fields ≡ []) ⊎ ((f : List ℕ) × (fields ≡ f ∷ [])) ⊎ ((f g : List ℕ) × (fields ≡ f ∷ g ∷ []))

-- the point of the first three fields
abbrev pub first_place : Format → List (List ℕ) → Result Place LogCause
first_place format [] = Err WrongCount
first_place format (f ∷ []) = Err WrongCount
first_place format (f ∷ g ∷ []) = Err WrongCount
first_place format (f ∷ g ∷ h ∷ rest) = place_of format f g h

-- a point for each three fields
abbrev pub places_of : Format → List (List ℕ) → Result (List Place) LogCause
places_of format [] = Ok []
places_of format (f ∷ []) = Err WrongCount
places_of format (f ∷ g ∷ []) = Err WrongCount
places_of format (f ∷ g ∷ h ∷ rest) = do
  p ← place_of format f g h
  ps ← places_of format rest
  Ok (p ∷ ps)

-- a point of four fields, the last of which is its intensity
unfoldable pub scanned_place_of : List ℕ → List ℕ → List ℕ → List ℕ → Result Place LogCause
scanned_place_of f g h i = do
  p ← place_of Two f g h
  n ← natural_in 0 (greatest_intensity Two) i
  Ok (record p { intensity = n })

-- the intensity of the first field
abbrev pub first_intensity : List (List ℕ) → Result ℕ LogCause
first_intensity [] = Err WrongCount
first_intensity (f ∷ fields) = natural_in 0 (greatest_intensity Two) f

-- the point of the first four fields
abbrev pub first_scanned : List (List ℕ) → Result Place LogCause
first_scanned (f ∷ g ∷ h ∷ i ∷ rest) = scanned_place_of f g h i
first_scanned fields = Err WrongCount

-- a point for each three fields, or for each four where points have intensities
abbrev pub scanned_places_of : Format → List (List ℕ) → Result (List Place) LogCause
scanned_places_of One fields = places_of One fields
scanned_places_of Two [] = Ok []
scanned_places_of Two (f ∷ g ∷ h ∷ i ∷ rest) = do
  p ← scanned_place_of f g h i
  ps ← scanned_places_of Two rest
  Ok (p ∷ ps)
scanned_places_of Two fields = Err WrongCount

-- a corner of three fields
unfoldable pub corner_of : Format → List ℕ → List ℕ → List ℕ → Result Corner LogCause
corner_of format f g h = do
  x ← corner_number format f
  y ← corner_number format g
  z ← corner_number format h
  Ok (record { x = x; y = y; z = z })

-- no number of the first is above the second's
abbrev pub is_upright : Corner → Corner → Bool
is_upright lo hi = int_le lo.x hi.x && int_le lo.y hi.y && int_le lo.z hi.z

-- a box of six fields
unfoldable pub box_of : Format → List ℕ → List ℕ → List ℕ → List ℕ → List ℕ → List ℕ → Result Bounds LogCause
box_of format a b c d e f = do
  lo ← corner_of format a b c
  hi ← corner_of format d e f
  given (is_upright lo hi) InvertedBox (Ok (record { lo = lo; hi = hi }))

-- a box for each six fields
abbrev pub boxes_of : Format → List (List ℕ) → Result (List Bounds) LogCause
boxes_of format [] = Ok []
boxes_of format (a ∷ b ∷ c ∷ d ∷ e ∷ f ∷ rest) = do
  box ← box_of format a b c d e f
  boxes ← boxes_of format rest
  Ok (box ∷ boxes)
boxes_of format fields = Err WrongCount

-- a box that was read, and then those of the fields behind it
abbrev pub with_boxes : Format → Result Bounds LogCause → List (List ℕ) → Result (List Bounds) LogCause
with_boxes format read rest = do
  box ← read
  boxes ← boxes_of format rest
  Ok (box ∷ boxes)

-- how many groups of `size` fields there are: from one to `most`
unfoldable pub groups_of : ℕ → ℕ → List (List ℕ) → Result ℕ LogCause
groups_of size most args =
    given (are_groups size args) WrongCount (given (nat_le (length args / size) most) TooManyPoints (Ok (length args / size)))

-- the points of a command, at most `most`
unfoldable pub few_places_of : Format → ℕ → List (List ℕ) → Result (List Place) LogCause
few_places_of format most args = groups_of 3 most args >>= λ count. places_of format args

-- the points of a command that adds or thins them, at most `most`
unfoldable pub few_scanned_of : Format → ℕ → List (List ℕ) → Result (List Place) LogCause
few_scanned_of format most args = groups_of (width format) most args >>= λ count. scanned_places_of format args

-- the boxes of a command
unfoldable pub few_boxes_of : Format → List (List ℕ) → Result (List Bounds) LogCause
few_boxes_of format args = groups_of 6 262144 args >>= λ count. boxes_of format args

-- the unit cuboids of the points of a command
unfoldable pub units_of : Format → List (List ℕ) → Result (List Bounds) LogCause
units_of format args = do
  ps ← few_places_of format 262144 args
  Ok (map unit_box ps)

-- the number of an expiry
unfoldable pub expiry_of : List (List ℕ) → Result Update LogCause
expiry_of (number ∷ []) = natural_in 0 MAX_POINTS number >>= λ n. Ok (Expire n)
expiry_of args = Err WrongCount

-- the update of a word and its arguments, where the log has room for `room` points
unfoldable pub update_of : Format → ℕ → List ℕ → List (List ℕ) → Result Update LogCause
update_of format room word args =
    if bytes_eq word (codes "add") then (few_scanned_of format (min 262144 room) args >>= λ ps. Ok (Add ps)) else
    (if bytes_eq word (codes "thin") then (few_scanned_of format (min 262144 room) args >>= λ ps. Ok (Thin ps)) else
    (if bytes_eq word (codes "erase") then (units_of format args >>= λ cs. Ok (Delete cs)) else
    (if bytes_eq word (codes "delete") then (few_boxes_of format args >>= λ cs. Ok (Delete cs)) else
    (if bytes_eq word (codes "suspend") then (few_boxes_of format args >>= λ cs. Ok (Suspend cs)) else
    (if bytes_eq word (codes "restore") then (few_boxes_of format args >>= λ cs. Ok (Restore cs)) else
    (if has_expiry format && bytes_eq word (codes "expire") then expiry_of args else Err UnknownCommand))))))

-- near, with four arguments, or with the word within and a greatest distance
unfoldable pub near_of : Format → ℕ → List (List ℕ) → Result Command LogCause
near_of format caller (count ∷ x ∷ y ∷ z ∷ []) = do
  k ← natural_in 1 256 count
  p ← place_of format x y z
  Ok (Near caller k p None)
near_of format caller (count ∷ x ∷ y ∷ z ∷ word ∷ distance ∷ []) =
    given (bytes_eq word (codes "within")) WrongCount (do
      k ← natural_in 1 256 count
      p ← place_of format x y z
      r ← natural_in 0 (farthest format) distance
      Ok (Near caller k p (Some r)))
near_of format caller args = Err WrongCount

-- near, with a greatest distance or without one
abbrev pub nearest_of : Format → ℕ → List ℕ → List ℕ → List ℕ → List ℕ → Option (List ℕ) → Result Command LogCause
nearest_of format caller count x y z None = near_of format caller (count ∷ x ∷ y ∷ z ∷ [])
nearest_of format caller count x y z (Some distance) = near_of format caller (count ∷ x ∷ y ∷ z ∷ codes "within" ∷ distance ∷ [])

-- box, and its seven arguments
unfoldable pub inside_of : Format → ℕ → List (List ℕ) → Result Command LogCause
inside_of format caller (count ∷ a ∷ b ∷ c ∷ d ∷ e ∷ f ∷ []) = do
  k ← natural_in 1 256 count
  box ← box_of format a b c d e f
  Ok (Inside caller k box)
inside_of format caller args = Err WrongCount

-- nears, a count, and a point for each three fields behind it
unfoldable pub nears_of : ℕ → List (List ℕ) → Result Command LogCause
nears_of caller (count ∷ args) = do
  n ← groups_of 3 262144 args
  k ← natural_in 1 256 count
  ps ← places_of Two args
  Ok (Nears caller k ps)
nears_of caller [] = Err WrongCount

-- ball, and its five arguments
unfoldable pub ball_of : ℕ → List (List ℕ) → Result Command LogCause
ball_of caller (count ∷ distance ∷ x ∷ y ∷ z ∷ []) = do
  k ← natural_in 1 256 count
  r ← natural_in 0 (farthest Two) distance
  p ← place_of Two x y z
  Ok (Ball caller k r p)
ball_of caller args = Err WrongCount

-- the count and the distance that lonely and clusters are asked with
unfoldable pub reach_of : List (List ℕ) → Result (ℕ × ℕ) LogCause
reach_of (count ∷ distance ∷ []) = do
  k ← natural_in 1 256 count
  r ← natural_in 0 (farthest Two) distance
  Ok (k, r)
reach_of args = Err WrongCount

-- pose, and its six arguments: twice the ball is below the side, and the step no longer than it
unfoldable pub pose_of : ℕ → List (List ℕ) → Result Command LogCause
pose_of caller (side ∷ ball ∷ step ∷ x ∷ y ∷ z ∷ []) = do
  s ← natural_in 2 2199023255552 side
  b ← natural_in 0 ((s - 1) / 2) ball
  t ← natural_in 1 s step
  p ← place_of Two x y z
  Ok (Pose caller (record { side = s; ball = b; step = t }) p)
pose_of caller args = Err WrongCount

-- the command of a word that version 1 has, or an expiry
unfoldable pub basic_of : Format → ℕ → ℕ → List ℕ → List (List ℕ) → Result Command LogCause
basic_of format room caller word args =
    if bytes_eq word (codes "near") then near_of format caller args else
    (if bytes_eq word (codes "box") then inside_of format caller args else (update_of format room word args >>= λ u. Ok (Change caller u)))

-- the command of a word and its arguments
unfoldable pub called_of : Format → ℕ → ℕ → List ℕ → List (List ℕ) → Result Command LogCause
called_of One room caller word args = basic_of One room caller word args
called_of Two room caller word args =
    if bytes_eq word (codes "nears") then nears_of caller args else
    (if bytes_eq word (codes "ball") then ball_of caller args else
    (if bytes_eq word (codes "lonely") then (reach_of args >>= λ q. Ok (Lonely caller q.0 q.1)) else
    (if bytes_eq word (codes "clusters") then (reach_of args >>= λ q. Ok (Clusters caller q.0 q.1)) else
    (if bytes_eq word (codes "pose") then pose_of caller args else basic_of Two room caller word args))))

-- the caller of one digit from 1 to 8
abbrev pub digit_caller : List ℕ → Result ℕ LogCause
digit_caller (c ∷ []) = given (nat_le 49 c && nat_le c 56) BadCaller (Ok (c - 48))
digit_caller digits = Err BadCaller

-- the caller after an @
unfoldable pub caller_of : List ℕ → Result ℕ LogCause
caller_of (c ∷ digits) = given (c == 64) UnknownCommand (digit_caller digits)
caller_of [] = Err UnknownCommand

-- a word and its arguments
abbrev pub after_caller : Format → ℕ → ℕ → List (List ℕ) → Result Command LogCause
after_caller format room caller (word ∷ args) = called_of format room caller word args
after_caller format room caller [] = Err UnknownCommand

-- the command of a line's fields, where the log has room for `room` points
unfoldable pub command_of : Format → ℕ → List (List ℕ) → Result Command LogCause
command_of format room (first ∷ fields) =
    if bytes_eq first (codes "sync") then given (length fields == 0) WrongCount (Ok Sync) else
    (caller_of first >>= λ caller. after_caller format room caller fields)
command_of format room [] = Err UnknownCommand

-- the words of a header
abbrev pub are_header_words : List ℕ → List ℕ → List ℕ → List ℕ → Bool
are_header_words a b c d = bytes_eq a (codes "ikdmap") && is_version b && bytes_eq c (codes "voxel") && bytes_eq d (codes "large")

-- the version and the settings of the header's fields
unfoldable pub header_of : List (List ℕ) → Result (Format × Sizes) LogCause
header_of (a ∷ b ∷ c ∷ voxel ∷ d ∷ large ∷ []) =
    given (bytes_eq a (codes "ikdmap") && is_version b && bytes_eq c (codes "voxel") && bytes_eq d (codes "large")) NoHeader (do
      v ← natural_in 1 1000000 voxel
      l ← natural_in 16 1000000 large
      Ok (format_of b, record { voxel = v; large = l }))
header_of fields = Err NoHeader

-- what is read of a line, or its fault with its number
abbrev pub on_line : {A : Type 0} → ℕ → Result A LogCause → Result A FaultAt
on_line n (Ok x) = Ok x
on_line n (Err c) = Err (record { line = n; cause = c })

-- the command, if there is room for the hits of its reply
abbrev pub few_hits : ℕ → Command → Result Command LogCause
few_hits hits c = given (nat_le (asked c) hits) TooManyHits (Ok c)

-- the command of a line, after `before` commands, where the log has room for `room` points and `hits` hits
abbrev pub line_command : Format → ℕ → ℕ → ℕ → List ℕ → Result Command LogCause
line_command format before room hits line = given (nat_lt before MAX_COMMANDS) TooManyCommands (command_of format room (fields_of line) >>= few_hits hits)

-- the commands of the lines, after `before` commands, where the log has room for `room` points and `hits` hits
abbrev pub commands_of : Format → ℕ → ℕ → ℕ → List (ℕ × List ℕ) → Result (List Command) FaultAt
commands_of format before room hits [] = Ok []
commands_of format before room hits ((n, line) ∷ lines) = do
  c ← on_line n (line_command format before room hits line)
  cs ← commands_of format (before + 1) (room - submitted c) (hits - asked c) lines
  Ok (c ∷ cs)

-- the script of this version and these settings, and of the lines after the header
abbrev pub body_of : Format → Sizes → List (ℕ × List ℕ) → Result ScriptAt FaultAt
body_of format sizes lines = do
  cs ← commands_of format 0 MAX_POINTS 16777216 lines
  Ok (record { format = format; sizes = sizes; commands = cs })

-- the script of the kept lines, where the log has `feeds` line feeds
abbrev pub script_of : ℕ → List (ℕ × List ℕ) → Result ScriptAt FaultAt
script_of feeds [] = Err (record { line = feeds + 1; cause = NoHeader })
script_of feeds ((n, header) ∷ lines) = do
  head ← on_line n (header_of (fields_of header))
  body_of head.0 head.1 lines

-- the script of a log, or its first fault
unfoldable pub log_of : List ℕ → Result ScriptAt FaultAt
log_of bytes = script_of (line_feeds bytes) (kept_from 1 (lines_of bytes))
