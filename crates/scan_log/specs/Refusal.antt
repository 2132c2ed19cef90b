-- Why a log is not read.
use Rattle.std.specs.Prelude.{◌≡◌, ◌⊎◌, ℕ, List, None, Some}
use Rattle.scan_log.specs.declared.fault.LogCause.{LogCause}
use Rattle.scan_log.specs.declared.fault.ParseFault.{ParseFault}
use Rattle.scan_log.specs.declared.fault.ParseFault.TheVariants.{Bad, NoMemory}
use Rattle.scan_log.specs.Scripts.{ScriptAt}
use Rattle.scan_log.specs.Spelling.{Spells}
use Rattle.scan_log.specs.Faults.{FaultAt, first_fault}

-- The log has this first fault, and spells nothing.
pub record IsFirstFault (bytes : List ℕ) (line : ℕ) (cause : LogCause) : Type 0 where
  pub fault : first_fault bytes ≡ Some (record { line = line; cause = cause })
  pub unspelled : (s : ScriptAt) → Spells bytes s → ⊥

-- The log spells one script, no other, and has no fault.
pub record IsSpelledOnce (bytes : List ℕ) : Type 0 where
  pub script : ScriptAt
  pub spelled : Spells bytes script
  pub only : (s : ScriptAt) → Spells bytes s → s ≡ script
  pub sound : first_fault bytes ≡ None

-- The bytes spell exactly one script, or they have a first fault; never both.
abbrev pub IsSpelledOrFaulty : List ℕ → Type 0
IsSpelledOrFaulty bytes = IsSpelledOnce bytes ⊎ ((f : FaultAt) × IsFirstFault bytes f.line f.cause)

-- why a log wasn't read
abbrev pub IsParseFault : List ℕ → ParseFault → Type 0
IsParseFault bytes (Bad line cause) = IsFirstFault bytes line cause
IsParseFault bytes NoMemory = Unit {0}
