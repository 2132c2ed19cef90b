-- What was read and written once all was done, for each of the things that words ask for.
use Rattle.std.specs.Prelude.{◌≡◌, ℕ, true, List, IfSome}
use Rattle.std.specs.Io.KnownBytes.{Appends}
use Rattle.scan_log.specs.Scripts.{ScriptAt}
use Rattle.scan_log.specs.Spelling.{Spells}
use Rattle.scan_log.specs.Legal.{IsLegalTranscript}
use Rattle.scan_log.specs.Poses.{plain_script}
use Rattle.scan_log.specs.Transcript.{text, serial_marks}
use Rattle.scan_log.specs.Written.{script_text}
use Rattle.transcript_check.specs.declared.verdict.Verdict.{Verdict}
use Rattle.mapper_base.specs.Generated.{generated}
use Rattle.mapper_base.specs.Seen.{LogSeen, OutSeen}
use Rattle.mapper_base.specs.Summary.{summary}
use Rattle.mapper_base.specs.Verdicts.{IsFound, verdict_line}

-- the log was read to its end, and a legal transcript of it was written
abbrev pub IsTranscribed : LogSeen → OutSeen → Type 0
IsTranscribed log out = (log.ended ≡ true) × ((lines : List ℕ) × IfSome log.left (λ bytes. IsLegalTranscript bytes lines) × Appends out.held out.held_after lines)

-- the log spells a script, and the transcript of it under the marks of the log's order was written
abbrev pub IsTranscribedInOrder : LogSeen → OutSeen → Type 0
IsTranscribedInOrder log out = (s : ScriptAt) × IfSome log.left (λ bytes. Spells bytes s) × Appends out.held out.held_after (text s (serial_marks (plain_script s)))

-- the input was read to its end, and the line of the verdict was written on what is in it after a log of n bytes
abbrev pub IsChecked : ℕ → LogSeen → OutSeen → Type 0
IsChecked n log out = (log.ended ≡ true) × ((v : Verdict) × IfSome log.left (λ bytes. IsFound n bytes v) × Appends out.held out.held_after (verdict_line v))

-- the log of the generated script of n scans was written
abbrev pub IsScriptMade : ℕ → OutSeen → Type 0
IsScriptMade n out = Appends out.held out.held_after (script_text (generated n))

-- the line of the sums of that script's run was written
abbrev pub IsDriven : ℕ → OutSeen → Type 0
IsDriven n out = Appends out.held out.held_after (summary n)
