-- What was returned, next to what reading gives. Cited by private functions alone.
use Rattle.std.specs.Prelude.{◌≡◌, ℕ}
use Rattle.std.specs.declared.result.Result.{Result}
use Rattle.std.specs.declared.result.Result.TheVariants.{Ok, Err}
use Rattle.scan_log.specs.declared.fault.LogCause.{LogCause}
use Rattle.scan_log.specs.declared.fault.ParseFault.{ParseFault}
use Rattle.scan_log.specs.declared.fault.ParseFault.TheVariants as parse
use Rattle.scan_log.specs.declared.line_fault.LineFault.{LineFault}
use Rattle.scan_log.specs.declared.line_fault.LineFault.TheVariants.{Bad, NoMemory}
use Rattle.scan_log.specs.Faults.{FaultAt}

-- the fault of the log whose line n it is
abbrev pub fault_on : ℕ → LineFault → ParseFault
fault_on n (Bad cause) = parse.Bad n cause
fault_on n NoMemory = parse.NoMemory

-- a line's fault is the one that reading meets
abbrev pub Fails : {A : Type 0} → LineFault → Result A LogCause → Type 0
Fails (Bad cause) read = read ≡ Err cause
Fails NoMemory read = Unit {0}

-- what was returned of a line is what reading gives, or `NoMemory`
abbrev pub Gives : {A : Type 0} → Result A LineFault → Result A LogCause → Type 0
Gives (Ok x) read = read ≡ Ok x
Gives (Err fault) read = Fails fault read

-- a log's fault is the one that reading meets
abbrev pub LogFails : {A : Type 0} → ParseFault → Result A FaultAt → Type 0
LogFails (parse.Bad n cause) read = read ≡ Err (record { line = n; cause = cause })
LogFails parse.NoMemory read = Unit {0}

-- what was returned of a log is what reading gives, or `NoMemory`
abbrev pub LogGives : {A : Type 0} → Result A ParseFault → Result A FaultAt → Type 0
LogGives (Ok x) read = read ≡ Ok x
LogGives (Err fault) read = LogFails fault read
