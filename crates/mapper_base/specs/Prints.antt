-- What is printed of a script.
use Rattle.std.specs.Prelude.{◌≡◌, ℕ, List, drop, IfSome}
use Rattle.std.specs.declared.option.Option.{Option}
use Rattle.scan_log.specs.Scripts.{ScriptAt}
use Rattle.scan_log.specs.Transcript.{text, serial_marks}
use Rattle.scan_log.specs.Legal.{AreLegalLines}
use Rattle.scan_log.specs.Poses.{plain_script}
use Rattle.scan_log.specs.Written.{script_text}
use Rattle.transcript_check.specs.declared.verdict.Verdict.{Verdict}
use Rattle.transcript_check.specs.Verdicts.{IsVerdict}
use Rattle.mapper_base.specs.declared.command_line.words.Ask.{Ask}
use Rattle.mapper_base.specs.declared.command_line.words.Ask.TheVariants.{Run, Serial, Make, Drive, Check}
use Rattle.mapper_base.specs.Summary.{summary_of}
use Rattle.mapper_base.specs.Verdicts.{verdict_line}

-- the lines are those of legal replies, and of these the ones in the log's order
abbrev pub AreSerialLines : ScriptAt → List ℕ → Type 0
AreSerialLines s lines = AreLegalLines s lines × (lines ≡ text s (serial_marks (plain_script s)))

-- The line is that of a verdict, which is the one on what is in the input after n bytes, where the input is shown.
pub record IsVerdictLine (s : ScriptAt) (n : ℕ) (input : Option (List ℕ)) (line : List ℕ) : Type 0 where
  pub verdict : Verdict
  pub found : IfSome input (λ bytes. IsVerdict s (drop n bytes) verdict)
  pub told : line ≡ verdict_line verdict

-- A run prints the lines of legal replies, a serial one those of the replies in the log's order. Of a generated script the log is
-- printed, or the line of its sums. A check prints the line of the verdict on what is in the input after the log.
abbrev pub Prints : Ask → Option (List ℕ) → ScriptAt → List ℕ → Type 0
Prints Run input s lines = AreLegalLines s lines
Prints Serial input s lines = AreSerialLines s lines
Prints (Make n) input s lines = lines ≡ script_text s
Prints (Drive n) input s lines = lines ≡ summary_of n s
Prints (Check n) input s lines = IsVerdictLine s n input lines
