-- Why a run ends, and what it has read and written by then.
use Rattle.std.specs.Prelude.{◌≡◌, ◌≤◌, ◌+◌, ◌⊎◌, ℕ, false, true, None, List, length, IfSome}
use Rattle.std.specs.declared.option.Option.{Option}
use Rattle.std.specs.Io.KnownBytes.{Appends, Keeps}
use Rattle.scan_log.specs.Scripts.{ScriptAt}
use Rattle.scan_log.specs.Spelling.{Spells}
use Rattle.scan_log.specs.Faults.{FaultAt, first_fault}
use Rattle.scan_log.specs.Refusal.{IsFirstFault}
use Rattle.mapper_base.specs.declared.ending.Ending.{Ending}
use Rattle.mapper_base.specs.declared.ending.Ending.TheVariants.{Done, Usage, ReadFault, TooLong, Bad, WriteFault, NoMemory}
use Rattle.mapper_base.specs.declared.status.Status.{Status}
use Rattle.mapper_base.specs.declared.command_line.words.Ask.{Ask}
use Rattle.mapper_base.specs.declared.command_line.words.Ask.TheVariants as ask
use Rattle.mapper_base.specs.Asks.{Asks, AskOfLog, AskNothing, log_of, most_of}
use Rattle.mapper_base.specs.Endings.{status_of, note_of}
use Rattle.mapper_base.specs.Generated.{generated}
use Rattle.byte_streams.specs.Outside.{Rose, HasRead, AppendsFront}
use Rattle.mapper_base.specs.Prints.{Prints}
use Rattle.mapper_base.specs.Seen.{LogSeen, RunSeen}

-- a byte more than the input may have was read
abbrev pub IsTooLong : Ask → LogSeen → Type 0
IsTooLong a log = HasRead log.left log.left_after (λ n. n ≡ most_of a + 1)

-- no more was read than a byte past the most that the input may have
abbrev pub ReadsInLimit : Ask → LogSeen → Type 0
ReadsInLimit a log = HasRead log.left log.left_after (λ n. n ≤ most_of a + 1)

-- the input was read to its end and isn't too long, and this holds of the log in it, where its bytes are shown
abbrev pub WasRead : Ask → LogSeen → (List ℕ → Type 0) → Type 0
WasRead a log P = (log.ended ≡ true) × IfSome log.left (λ bytes. (length bytes ≤ most_of a) × P (log_of a bytes))

-- the log spells the script, and has no fault
abbrev pub Says : Ask → LogSeen → ScriptAt → Type 0
Says a log s = WasRead a log (λ bytes. Spells bytes s × (first_fault bytes ≡ None))

-- it is the log's first fault, and no script is spelled
abbrev pub HasFault : Ask → LogSeen → FaultAt → Type 0
HasFault a log f = WasRead a log (λ bytes. IsFirstFault bytes f.line f.cause)

-- why no script was read from the log
abbrev pub NotRead : Ask → LogSeen → Ending → Type 0
NotRead a log TooLong = IsTooLong a log
NotRead a log (Bad line cause) = HasFault a log (record { line = line; cause = cause })
NotRead a log ReadFault = (log.ended ≡ false) × Rose log.faults log.faults_after × HasRead log.left log.left_after (λ n. n ≤ most_of a)
NotRead a log NoMemory = Unit {0}
NotRead a log Done = ⊥
NotRead a log Usage = ⊥
NotRead a log WriteFault = ⊥

-- what is asked for is done on this script: on the log's, or on the one that is generated
abbrev pub IsDoneOn : Ask → LogSeen → ScriptAt → Type 0
IsDoneOn ask.Run log s = Says ask.Run log s
IsDoneOn ask.Serial log s = Says ask.Serial log s
IsDoneOn (ask.Make n) log s = s ≡ generated n
IsDoneOn (ask.Drive n) log s = s ≡ generated n
IsDoneOn (ask.Check n) log s = Says (ask.Check n) log s

-- The text is what is printed of such a script.
pub record IsTextOf (a : Ask) (log : LogSeen) (lines : List ℕ) : Type 0 where
  pub script : ScriptAt
  pub said : IsDoneOn a log script
  pub printed : Prints a log.left script lines

-- why there is no such text: the log's cause, or `NoMemory`
abbrev pub HasNoText : Ask → LogSeen → Ending → Type 0
HasNoText ask.Run log e = NotRead ask.Run log e
HasNoText ask.Serial log e = NotRead ask.Serial log e
HasNoText (ask.Make n) log e = e ≡ NoMemory
HasNoText (ask.Drive n) log e = e ≡ NoMemory
HasNoText (ask.Check n) log e = NotRead (ask.Check n) log e

-- What the words ask for has been written so far.
pub record HasPrinted (s : RunSeen) (so_far : List ℕ → Type 0) : Type 0 where
  pub ask : Ask
  pub asked : Asks ask s.words
  pub lines : List ℕ
  pub text : IsTextOf ask s.log lines
  pub written : so_far lines

-- no script was read, and out got nothing
pub record HasRefused (s : RunSeen) (e : Ending) : Type 0 where
  pub ask : Ask
  pub asked : AskOfLog ask s.words
  pub unread : NotRead ask s.log e
  pub kept : Keeps s.out.held s.out.held_after

-- why a run ended so
abbrev pub Ended : RunSeen → Ending → Type 0
Ended s Done = HasPrinted s (Appends s.out.held s.out.held_after)
Ended s Usage = AskNothing s.words × Keeps s.log.left s.log.left_after × Keeps s.out.held s.out.held_after
Ended s ReadFault = HasRefused s ReadFault
Ended s TooLong = HasRefused s TooLong
Ended s (Bad line cause) = HasRefused s (Bad line cause)
Ended s WriteFault = HasPrinted s (AppendsFront s.out.held s.out.held_after) × Rose s.out.faults s.out.faults_after
Ended s NoMemory = Keeps s.out.held s.out.held_after ⊎ HasPrinted s (AppendsFront s.out.held s.out.held_after)

-- The run ended in one of these ways, and returns its status; notes got its line or a prefix of it.
pub record Ends (s : RunSeen) (notes notes_after : Option (List ℕ)) (status : Status) : Type 0 where
  pub way : Ending
  pub answered : status ≡ status_of way
  pub ended : Ended s way
  pub told : AppendsFront notes notes_after (note_of way)
