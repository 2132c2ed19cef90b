-- Histories: each caller's entries are counted.
use Rattle.std.specs.Prelude.{◌≡◌, ℕ, ◌≤◌, List, [], ◌∷◌, ◌++◌, map, count_by, ◌==◌, Option, Some, None}
use Rattle.map_items.specs.declared.update.Update.{Update}
use Rattle.map_items.specs.declared.entry.Entry.{Entry}

-- the updates of the entries, in their order
abbrev pub updates : List Entry → List Update
updates history = map (λ e. e.update) history

-- how many entries a caller has
abbrev pub entries_of : ℕ → List Entry → ℕ
entries_of caller history = count_by (λ e. caller == e.caller) history

-- the entry may follow these: its caller is one of eight, and made as many before as it says
pub record MayComeNext (before : List Entry) (e : Entry) : Type 0 where
  pub caller_from : 1 ≤ e.caller
  pub caller_to : e.caller ≤ 8
  pub seq : e.seq ≡ entries_of e.caller before

-- each entry may follow those before it
abbrev pub AreEntries : List Entry → List Entry → Type 0
AreEntries before [] = Unit {0}
AreEntries before (e ∷ es) = MayComeNext before e × AreEntries (before ++ e ∷ []) es

-- the caller's next entry
abbrev pub entry_by : ℕ → Update → List Entry → Entry
entry_by caller u history = record { caller = caller; seq = entries_of caller history; update = u }

-- the entry as a list, or an empty list where there is none
abbrev pub listed : Option Entry → List Entry
listed None = []
listed (Some e) = e ∷ []
