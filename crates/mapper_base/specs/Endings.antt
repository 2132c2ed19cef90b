-- The status and the line of notes of each way to end.
use Rattle.std.specs.Prelude.{◌≡◌, ◌⊎◌, ℕ, List, [], ◌∷◌, ◌++◌, codes, if◌then◌else◌}
use Rattle.scan_log.specs.Faults.{fault_text, is_limit}
use Rattle.mapper_base.specs.declared.ending.Ending.{Ending}
use Rattle.mapper_base.specs.declared.ending.Ending.TheVariants.{Done, Usage, ReadFault, TooLong, Bad, WriteFault, NoMemory}
use Rattle.mapper_base.specs.declared.status.Status.{Status}
use Rattle.mapper_base.specs.declared.status.Status.TheVariants as status

-- the status of each way to end: a limit that was passed has one of its own
abbrev pub status_of : Ending → Status
status_of Done = status.Done
status_of Usage = status.Usage
status_of ReadFault = status.ReadFault
status_of TooLong = status.OverLimit
status_of (Bad line cause) = if is_limit cause then status.OverLimit else status.BadLog
status_of WriteFault = status.WriteFault
status_of NoMemory = status.NoMemory

-- it is the status that is wanted, or `NoMemory`
abbrev pub IsOrNoMemory : Status → Status → Type 0
IsOrNoMemory it wanted = (it ≡ wanted) ⊎ (it ≡ status.NoMemory)

-- its line in notes
abbrev pub note_of : Ending → List ℕ
note_of Done = []
note_of Usage = codes "usage: mapper run | run --serial | make N | drive N | check N\n"
note_of ReadFault = codes "read fault\n"
note_of TooLong = codes "log too long\n"
note_of (Bad line cause) = fault_text (record { line = line; cause = cause }) ++ 10 ∷ []
note_of WriteFault = codes "write fault\n"
note_of NoMemory = codes "no memory\n"
