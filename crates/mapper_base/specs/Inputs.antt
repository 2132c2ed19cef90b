-- What the input may be, where the words have a log read from it and the source shows its bytes.
use Rattle.std.specs.Prelude.{◌≡◌, ◌≤◌, ◌<◌, ◌⊎◌, ℕ, List, length, true, false, Some}
use Rattle.std.specs.declared.option.Option.{Option}
use Rattle.scan_log.specs.Scripts.{ScriptAt}
use Rattle.scan_log.specs.Spelling.{Spells}
use Rattle.scan_log.specs.Faults.{FaultAt, first_fault, is_limit}
use Rattle.mapper_base.specs.declared.command_line.words.Ask.{Ask}
use Rattle.mapper_base.specs.Asks.{AskOfLog, log_of, most_of}

-- P holds, if the log in the input is spelled, whatever comes after it
abbrev pub IfSpelled : List (List ℕ) → Option (List ℕ) → Type 0 → Type 0
IfSpelled words input P = (a : Ask) (bytes : List ℕ) (s : ScriptAt) → AskOfLog a words → input ≡ Some bytes → length bytes ≤ most_of a → Spells (log_of a bytes) s → P

-- P holds, if the log's first fault is no limit
abbrev pub IfBad : List (List ℕ) → Option (List ℕ) → Type 0 → Type 0
IfBad words input P =
    (a : Ask) (bytes : List ℕ) (f : FaultAt) → AskOfLog a words → input ≡ Some bytes → length bytes ≤ most_of a
    → first_fault (log_of a bytes) ≡ Some f → is_limit f.cause ≡ false → P

-- the input is too long, or the log's first fault is a limit
abbrev pub IsOverLimit : Ask → List ℕ → Type 0
IsOverLimit a bytes = (most_of a < length bytes) ⊎ ((f : FaultAt) × (first_fault (log_of a bytes) ≡ Some f) × (is_limit f.cause ≡ true))

-- P holds, if the input is too long, or the log's first fault is a limit
abbrev pub IfOverLimit : List (List ℕ) → Option (List ℕ) → Type 0 → Type 0
IfOverLimit words input P = (a : Ask) (bytes : List ℕ) → AskOfLog a words → input ≡ Some bytes → IsOverLimit a bytes → P
