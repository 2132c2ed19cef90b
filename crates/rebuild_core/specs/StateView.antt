-- What contracts see of a state.
use Rattle.std.specs.Prelude.{◌≡◌, ℕ, ◌+◌, ◌-◌, ◌<◌, List, length, slice_index_or, Option, Some, None}
use Rattle.map_items.specs.declared.entry.Entry.{Entry}
use Rattle.rebuild_core.specs.declared.state.MapState.TheInside.{Inside}
use Rattle.rebuild_parts.specs.History.{MayComeNext, entries_of}
use Rattle.rebuild_core.specs.Lawful.{StateAt}
use Rattle.kd_update.specs.Detached.{PartAt}
use Rattle.rebuild_parts.specs.declared.part.PartInfo.{PartInfo}
use Rattle.rebuild_core.specs.declared.plan.TheConstants.{MAX_UPDATES}

-- the state as contracts see it, from the fields that keep it
abbrev pub state_of : Inside → StateAt
state_of s = record { settings = s.settings; tree = s.tree; next = s.next; history = s.history.items; parts = s.parts.items; last = s.last; version = s.version.value }

-- for how many more entries the history has room as it is
abbrev pub spare_of : Inside → ℕ
spare_of s = s.history.cap - length s.history.items

-- each caller's number of entries, the first caller's first
pub record AreMade (made : List ℕ) (history : List Entry) : Type 0 where
  pub all : length made ≡ 8
  pub each : (i d : ℕ) → i < 8 → slice_index_or made i d ≡ entries_of (i + 1) history

-- the entry, if there is one, may follow these, of which there are few enough
abbrev pub IsNextOf : List Entry → Option Entry → Type 0
IsNextOf before None = Unit {0}
IsNextOf before (Some e) = MayComeNext before e × (length before < MAX_UPDATES)

-- what is shown of a part
abbrev pub info_of : Option PartAt → Option PartInfo
info_of None = None
info_of (Some p) = Some (record { ticket = p.ticket; logged = length p.log })
