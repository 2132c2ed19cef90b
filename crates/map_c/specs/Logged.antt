-- The log of a map, by parts.
use Rattle.std.specs.Prelude.{◌≡◌, ◌<◌, ◌≤◌, ◌⊎◌, ℕ, ℤ, pos, List, length, take, Option, None, Some}
use Rattle.rebuild_core.specs.Lawful.{StateAt}
use Rattle.history_log.specs.Log.{AreLines, EndsThere, IsStop, log_part}
use Rattle.history_log.specs.declared.part.Stop.{Stop}
use Rattle.history_log.specs.declared.part.Stop.TheVariants as stop
use Rattle.map_c.specs.Status.{bad_number, empty, no_memory, no_room, too_many_updates}
use Rattle.map_c.specs.declared.handles.content.Content.{Content}
use Rattle.map_c.specs.Maps.{map_in}

-- no line of a log spells an update
abbrev pub no_line : ℤ
no_line = pos 13

-- the status of what stops a part
abbrev pub stop_code : Stop → ℤ
stop_code stop.NoLine = no_line
stop_code stop.TooManyUpdates = too_many_updates
stop_code stop.NoRoom = no_room

-- These bytes are the part of the map's log of the updates from number `from` on and below `next`: as far as there is room, and of
-- at least one update where there is one.
pub record IsPart (c : Option Content) (from room : ℕ) (part : List ℕ) (next : ℕ) : Type 0 where
  pub state : StateAt
  pub held : map_in c ≡ Some state
  pub after : from ≤ next
  pub made : next ≤ length state.history
  pub text : part ≡ log_part state from next
  pub fits : length part ≤ room
  pub lines : from < next → AreLines state from next
  pub some : from < length state.history → from < next
  pub ends : (why : Option Stop) × EndsThere state from next room why

-- the first `count` bytes are such a part
abbrev pub IsLogged : Option Content → ℕ → ℕ → List ℕ → ℕ → ℕ → Type 0
IsLogged c from room bytes count next = IsPart c from room (take count bytes) next × (count ≤ length bytes)

-- fewer updates were made
abbrev pub IsAfterAll : Option Content → ℕ → Type 0
IsAfterAll c from = (s : StateAt) × (map_in c ≡ Some s) × (length s.history < from)

-- something stops the part at its first update, and the status says what
abbrev pub HasNoPart : Option Content → ℕ → ℕ → ℤ → Type 0
HasNoPart c from room status = (s : StateAt) × (map_in c ≡ Some s) × (why : Stop) × IsStop s from from room why × (status ≡ stop_code why)

-- why nothing is written
abbrev pub IsLogRefusal : Option Content → ℕ → ℕ → ℤ → Type 0
IsLogRefusal c from room status =
    ((status ≡ empty) × (map_in c ≡ None))
    ⊎ ((status ≡ bad_number) × IsAfterAll c from)
    ⊎ HasNoPart c from room status
    ⊎ (status ≡ no_memory)
