-- The line of a verdict.
use Rattle.std.specs.Prelude.{ℕ, List, [], ◌∷◌, ◌++◌, codes, decimal, drop, take}
use Rattle.scan_log.specs.Scripts.{ScriptAt}
use Rattle.scan_log.specs.Spelling.{Spells}
use Rattle.transcript_check.specs.declared.verdict.Verdict.{Verdict}
use Rattle.transcript_check.specs.declared.verdict.Verdict.TheVariants.{Legal, Unspelled, Marks, Differs}
use Rattle.transcript_check.specs.Verdicts.{IsVerdict}

-- what is printed of it
abbrev pub verdict_line : Verdict → List ℕ
verdict_line Legal = codes "legal\n"
verdict_line (Unspelled line) = codes "illegal line " ++ decimal line ++ 10 ∷ []
verdict_line Marks = codes "illegal marks\n"
verdict_line (Differs line) = codes "illegal reply " ++ decimal line ++ 10 ∷ []

-- The verdict on an input: its first n bytes are the log, and the bytes after it are found to be this of its script.
pub record IsFound (n : ℕ) (input : List ℕ) (v : Verdict) : Type 0 where
  pub script : ScriptAt
  pub spelled : Spells (take n input) script
  pub verdict : IsVerdict script (drop n input) v
