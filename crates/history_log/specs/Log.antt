-- The log of a history, whole and in parts.
use Rattle.std.specs.Prelude.{◌≡◌, ◌<◌, ◌≤◌, ◌+◌, ℕ, zero, suc, List, [], ◌++◌, Option, None, Some, get_or, length, take, drop}
use Rattle.std.specs.List.{AllByRecursion, flat_map}
use Rattle.map_items.specs.Sizes.{Sizes}
use Rattle.map_items.specs.declared.entry.Entry.{Entry}
use Rattle.rebuild_core.specs.Lawful.{StateAt}
use Rattle.scan_log.specs.Scripts.{IsCommand, ScriptAt}
use Rattle.scan_log.specs.Spelling.{header_fields}
use Rattle.scan_log.specs.Written.{command_text, script_text, written_line}
use Rattle.scan_log.specs.declared.commands.TheConstants.{MAX_COMMANDS}
use Rattle.scan_log.specs.declared.format.Format.TheVariants.{Two}
use Rattle.history_log.specs.declared.fault.LogFault.{LogFault}
use Rattle.history_log.specs.declared.fault.LogFault.TheVariants as fault
use Rattle.history_log.specs.declared.part.Stop.{Stop}
use Rattle.history_log.specs.declared.part.Stop.TheVariants as stop
use Rattle.history_log.specs.Lines.{HasLines, line_count, line_of, lines_of}

-- the history, as a script of version 2
abbrev pub script_of : StateAt → ScriptAt
script_of s = record { format = Two; sizes = s.settings; commands = lines_of s.history }

-- the header's line
abbrev pub header_text : Sizes → List ℕ
header_text sizes = written_line (header_fields Two sizes)

-- the text of these entries' lines
abbrev pub lines_text : List Entry → List ℕ
lines_text h = flat_map (command_text Two) (lines_of h)

-- what is before the lines of the update with this number: the header, where it is the first
abbrev pub opening : Sizes → ℕ → List ℕ
opening sizes zero = header_text sizes
opening sizes (suc at) = []

-- what is before the lines of the updates from the first number on and below the second one
abbrev pub opening_of : Sizes → ℕ → ℕ → List ℕ
opening_of sizes zero zero = []
opening_of sizes zero (suc to) = header_text sizes
opening_of sizes (suc from) to = []

-- the entries from the first number on and below the second one
abbrev pub entries_between : ℕ → ℕ → List Entry → List Entry
entries_between from to h = drop from (take to h)

-- the part of the log of these updates
abbrev pub log_part : StateAt → ℕ → ℕ → List ℕ
log_part s from to = opening_of s.settings from to ++ lines_text (entries_between from to s.history)

-- The part is lines of a log, and all lines up to its end are at most as many as a log may have.
pub record AreLines (s : StateAt) (from next : ℕ) : Type 0 where
  pub each : AllByRecursion (IsCommand Two) (lines_of (entries_between from next s.history))
  pub few : length (lines_of (take next s.history)) ≤ MAX_COMMANDS

-- no line of a log spells the entry
abbrev pub HasNoLine : Entry → Type 0
HasNoLine e = HasLines e.update → ⊥

-- the update with this number is there, and no line of a log spells it
abbrev pub IsUnsaid : List Entry → ℕ → Type 0
IsUnsaid h number = (e : Entry) × (number < length h) × (e ≡ get_or h number e) × HasNoLine e

-- with the lines of the update of this number there are more lines than a log has
abbrev pub HasTooManyLines : List Entry → ℕ → Type 0
HasTooManyLines h number = (number < length h) × (MAX_COMMANDS < length (lines_of (take (number + 1) h)))

-- why a part ends before the update with the number next
abbrev pub IsStop : StateAt → ℕ → ℕ → ℕ → Stop → Type 0
IsStop s from next room stop.NoLine = IsUnsaid s.history next
IsStop s from next room stop.TooManyUpdates = HasTooManyLines s.history next
IsStop s from next room stop.NoRoom = (next < length s.history) × (room < length (log_part s from (next + 1)))

-- all updates are in it, or something stops it
abbrev pub EndsThere : StateAt → ℕ → ℕ → ℕ → Option Stop → Type 0
EndsThere s from next room None = next ≡ length s.history
EndsThere s from next room (Some why) = IsStop s from next room why

-- why there is no log, where this stops it before the update with this number. Where there is no room for it, there is no memory.
abbrev pub fault_of : Stop → ℕ → LogFault
fault_of stop.NoLine n = fault.NoLine n
fault_of stop.TooManyUpdates n = fault.TooManyUpdates
fault_of stop.NoRoom n = fault.NoMemory

-- why the history has no log
abbrev pub IsLogFault : List Entry → LogFault → Type 0
IsLogFault h fault.NoMemory = Unit {0}
IsLogFault h fault.TooManyUpdates = MAX_COMMANDS < length (lines_of h)
IsLogFault h (fault.NoLine n) = IsUnsaid h n

-- parts in turn are one part
abbrev pub JoinInTurn : Type 0
JoinInTurn = (s : StateAt) (a b c : ℕ) → a ≤ b → b ≤ c → c ≤ length s.history → log_part s a b ++ log_part s b c ≡ log_part s a c

-- the part of all updates is the whole log
abbrev pub AreWhole : Type 0
AreWhole = (s : StateAt) → 0 < length s.history → log_part s 0 (length s.history) ≡ script_text (script_of s)

-- what was written stays so, whatever updates follow
abbrev pub StayWritten : Type 0
StayWritten = (s t : StateAt) (more : List Entry) (a b : ℕ) → t.settings ≡ s.settings → t.history ≡ s.history ++ more → b ≤ length s.history → log_part t a b ≡ log_part s a b

-- why an entry's lines aren't appended to these bytes, after `lines` lines. Cited by private functions alone.
abbrev pub IsEntryStop : List ℕ → Sizes → Entry → ℕ → ℕ → ℕ → Stop → Type 0
IsEntryStop bytes sizes e at lines room stop.NoLine = HasNoLine e
IsEntryStop bytes sizes e at lines room stop.TooManyUpdates = MAX_COMMANDS < lines + line_count e.update
IsEntryStop bytes sizes e at lines room stop.NoRoom = room < length (bytes ++ (opening sizes at ++ flat_map (command_text Two) (line_of e)))
