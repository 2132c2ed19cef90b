-- What a turn of the lock makes of the history. Cited by private functions alone.
use Rattle.std.specs.Prelude.{List, ◌++◌}
use Rattle.map_items.specs.declared.entry.Entry.{Entry}
use Rattle.rebuild_core.specs.Lawful.{StateAt}
use Rattle.rebuild_core.specs.Steps.{PlannedAt}
use Rattle.rebuild_parts.specs.History.{listed}

-- the history with the plan's entry, if there is one, appended
abbrev pub history_after : PlannedAt → StateAt → List Entry
history_after p s = s.history ++ listed p.entry
