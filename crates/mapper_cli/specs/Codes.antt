-- The exit status of the program.
use Rattle.std.specs.Prelude.{ℕ}
use Rattle.mapper_base.specs.declared.status.Status.{Status}
use Rattle.mapper_base.specs.declared.status.Status.TheVariants.{Done, BadLog, Usage, ReadFault, WriteFault, NoMemory, OverLimit}

-- the number with which the program exits, for each status of a run
abbrev pub code_of : Status → ℕ
code_of Done = 0
code_of BadLog = 1
code_of Usage = 2
code_of ReadFault = 3
code_of WriteFault = 4
code_of NoMemory = 5
code_of OverLimit = 6
