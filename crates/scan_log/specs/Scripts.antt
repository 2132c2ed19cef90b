-- Scripts, and their limits.
use Rattle.std.specs.Prelude.{◌≡◌, ℕ, ◌+◌, ◌*◌, ◌≤◌, ◌<◌, max, ℤ, ◌≤ℤ◌, List, [], ◌∷◌, ◌++◌, length}
use Rattle.std.specs.List.{AllByRecursion}
use Rattle.std.specs.Option.{ForSome, option_map, unwrap_or}
use Rattle.point_geom.specs.Place.{Place, Bounds, IsUpright}
use Rattle.point_geom.specs.declared.cuboid.Corner.{Corner}
use Rattle.local_region.specs.Rules.{AreRules}
use Rattle.map_items.specs.Sizes.{Sizes, AreSizes}
use Rattle.map_items.specs.Fold.{points_in}
use Rattle.map_items.specs.declared.update.Update.{Update}
use Rattle.map_items.specs.declared.update.Update.TheVariants.{Add, Thin, Delete, Suspend, Restore, Expire}
use Rattle.scan_log.specs.declared.format.Format.{Format}
use Rattle.scan_log.specs.declared.format.Format.TheVariants.{One, Two}
use Rattle.scan_log.specs.Commands.{command_update}
use Rattle.scan_log.specs.Formats.{HasNewer, lowest, highest, box_highest, farthest, greatest_intensity}
use Rattle.scan_log.specs.declared.command.Command.{Command}
use Rattle.scan_log.specs.declared.command.Command.TheVariants.{Change, Near, Nears, Inside, Ball, Lonely, Clusters, Pose, Sync}
use Rattle.map_items.specs.declared.limits.TheConstants.{MAX_POINTS}
use Rattle.scan_log.specs.declared.commands.TheConstants.{MAX_COMMANDS}

-- what is in a log: its version, the settings, and the commands in order
pub record ScriptAt : Type 0 where
  pub format : Format
  pub sizes : Sizes
  pub commands : List Command

-- the script with one more command at its end
abbrev pub with_command : ScriptAt → Command → ScriptAt
with_command s c = record s { commands = s.commands ++ c ∷ [] }

-- callers are numbered from 1 to 8
abbrev pub IsCaller : ℕ → Type 0
IsCaller caller = (1 ≤ caller) × (caller ≤ 8)

-- a coordinate is in the limits of the log's version
abbrev pub IsLogCoordinate : Format → ℤ → Type 0
IsLogCoordinate format c = (lowest format ≤ℤ c) × (c ≤ℤ highest format)

-- a point that is asked for or erased has no intensity, which is 0
abbrev pub IsLogPlace : Format → Place → Type 0
IsLogPlace format p = IsLogCoordinate format p.x × IsLogCoordinate format p.y × IsLogCoordinate format p.z × (p.intensity ≡ 0)

-- a point that is added or thinned may have one where the version has any
abbrev pub IsScannedPlace : Format → Place → Type 0
IsScannedPlace format p = IsLogCoordinate format p.x × IsLogCoordinate format p.y × IsLogCoordinate format p.z × (p.intensity ≤ greatest_intensity format)

-- the points that one command erases, or that searches are made round
abbrev pub ArePoints : Format → List Place → Type 0
ArePoints format ps = (0 < length ps) × (length ps ≤ 262144) × AllByRecursion (IsLogPlace format) ps

-- the points that one command adds or thins
abbrev pub AreScanned : Format → List Place → Type 0
AreScanned format ps = (0 < length ps) × (length ps ≤ 262144) × AllByRecursion (IsScannedPlace format) ps

-- a number of a box's corner may lie one past the last coordinate
abbrev pub IsBoxNumber : Format → ℤ → Type 0
IsBoxNumber format c = (lowest format ≤ℤ c) × (c ≤ℤ box_highest format)

-- each number of a box's corner is in the limits of the log's version
abbrev pub IsBoxCorner : Format → Corner → Type 0
IsBoxCorner format p = IsBoxNumber format p.x × IsBoxNumber format p.y × IsBoxNumber format p.z

-- a box that a caller may give
pub record IsCallerBox (format : Format) (c : Bounds) : Type 0 where
  pub lo : IsBoxCorner format c.lo
  pub hi : IsBoxCorner format c.hi
  pub below : IsUpright c.lo c.hi

-- the boxes of one command
abbrev pub AreBoxes : Format → List Bounds → Type 0
AreBoxes format cs = (0 < length cs) × (length cs ≤ 262144) × AllByRecursion (IsCallerBox format) cs

-- the numbers up to which a log of this version may expire
abbrev pub IsExpiry : Format → ℕ → Type 0
IsExpiry One n = ⊥
IsExpiry Two n = n ≤ MAX_POINTS

-- an update has one point or box or more, and no more than a command may have
abbrev pub IsUpdate : Format → Update → Type 0
IsUpdate format (Add ps) = AreScanned format ps
IsUpdate format (Thin ps) = AreScanned format ps
IsUpdate format (Delete cs) = AreBoxes format cs
IsUpdate format (Suspend cs) = AreBoxes format cs
IsUpdate format (Restore cs) = AreBoxes format cs
IsUpdate format (Expire n) = IsExpiry format n

-- each argument of a command is in its limits
abbrev pub IsCommand : Format → Command → Type 0
IsCommand format (Change caller u) = IsCaller caller × IsUpdate format u
IsCommand format (Near caller k p within) =
    IsCaller caller × (1 ≤ k) × (k ≤ 256) × IsLogPlace format p × ForSome within (λ r. r ≤ farthest format)
IsCommand format (Nears caller k ps) = IsCaller caller × (1 ≤ k) × (k ≤ 256) × ArePoints format ps × HasNewer format
IsCommand format (Inside caller k c) = IsCaller caller × (1 ≤ k) × (k ≤ 256) × IsCallerBox format c
IsCommand format (Ball caller k r p) = IsCaller caller × (1 ≤ k) × (k ≤ 256) × (r ≤ farthest format) × IsLogPlace format p × HasNewer format
IsCommand format (Lonely caller k r) = IsCaller caller × (1 ≤ k) × (k ≤ 256) × (r ≤ farthest format) × HasNewer format
IsCommand format (Clusters caller k r) = IsCaller caller × (1 ≤ k) × (k ≤ 256) × (r ≤ farthest format) × HasNewer format
IsCommand format (Pose caller rules p) = IsCaller caller × AreRules rules × IsLogPlace format p × HasNewer format
IsCommand format Sync = Unit {0}

-- how many points a command submits: those of its update, if it makes one
abbrev pub submitted : Command → ℕ
submitted c = unwrap_or (option_map points_in (command_update c)) 0

-- how many points the commands submit
abbrev pub points_of : List Command → ℕ
points_of [] = 0
points_of (c ∷ cs) = submitted c + points_of cs

-- how many hits a list has room for: it has room for 16 in itself
abbrev pub room_of : ℕ → ℕ
room_of k = max k 16

-- how many hits the reply to a command has room for
abbrev pub asked : Command → ℕ
asked (Change caller u) = 0
asked (Near caller k p within) = room_of k
asked (Nears caller k ps) = length ps * room_of k
asked (Inside caller k c) = 0
asked (Ball caller k r p) = 0
asked (Lonely caller k r) = 0
asked (Clusters caller k r) = 0
asked (Pose caller rules p) = 0
asked Sync = 0

-- how many hits the replies to the commands have room for
abbrev pub hits_of : List Command → ℕ
hits_of [] = 0
hits_of (c ∷ cs) = asked c + hits_of cs

-- the settings and each command are in their limits, and there are few enough commands, points and hits
pub record IsScript (s : ScriptAt) : Type 0 where
  pub sizes : AreSizes s.sizes
  pub each : AllByRecursion (IsCommand s.format) s.commands
  pub few : length s.commands ≤ MAX_COMMANDS
  pub room : points_of s.commands ≤ MAX_POINTS
  pub hits : hits_of s.commands ≤ 16777216
