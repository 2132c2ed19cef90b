-- What is found of a transcript.
use Rattle.std.specs.Prelude.{◌≡◌, ℕ, ◌+◌, ◌<◌, List, [], ◌∷◌, ◌++◌, length, take, drop, slice_get}
use Rattle.std.specs.List.{flat_map}
use Rattle.std.specs.declared.option.Option.TheVariants.{None, Some}
use Rattle.scan_log.specs.declared.format.Format.{Format}
use Rattle.scan_log.specs.declared.command.Command.{Command}
use Rattle.scan_log.specs.declared.reply.Reply.{Reply}
use Rattle.scan_log.specs.Scripts.{ScriptAt}
use Rattle.scan_log.specs.Poses.{plain, plain_script}
use Rattle.scan_log.specs.Transcript.{replies, reply_text, text}
use Rattle.scan_log.specs.Legal.{IsLegal}
use Rattle.transcript_check.specs.Heads.{heads, IsMarked, SpellMarks}
use Rattle.transcript_check.specs.declared.verdict.Verdict.{Verdict}
use Rattle.transcript_check.specs.declared.verdict.Verdict.TheVariants.{Legal, Unspelled, Marks, Differs}

-- lines one after another
abbrev pub joined_lines : List (List ℕ) → List ℕ
joined_lines lines = flat_map (λ line. line) lines

-- the first line is not there or spells no mark, or no line is asked for and bytes remain
abbrev pub Stops : List (List ℕ) → List ℕ → Type 0
Stops [] rest = 0 < length rest
Stops (head ∷ heads) rest = (line behind : List ℕ) (m : ℕ) → rest ≡ line ++ behind → IsMarked head line m → ⊥

-- The lines before line j spell marks, and line j is not there or spells none, or it is one too many.
pub record IsUnspelled (heads : List (List ℕ)) (out : List ℕ) (j : ℕ) : Type 0 where
  pub lines : List (List ℕ)
  pub marks : List ℕ
  pub rest : List ℕ
  pub place : j ≡ length lines + 1
  pub cut : out ≡ joined_lines lines ++ rest
  pub before : SpellMarks (take (length lines) heads) lines marks
  pub stops : Stops (drop (length lines) heads) rest

-- The lines are all that is asked for, and spell these marks, of which this holds.
pub record IsSpelled (heads : List (List ℕ)) (out : List ℕ) (P : List (List ℕ) → List ℕ → Type 0) : Type 0 where
  pub lines : List (List ℕ)
  pub marks : List ℕ
  pub cut : out ≡ joined_lines lines
  pub spelled : SpellMarks heads lines marks
  pub holds : P lines marks

-- the line of each reply
abbrev pub reply_lines : Format → List Command → List Reply → List (List ℕ)
reply_lines format (c ∷ cs) (r ∷ rs) = reply_text format (Some c) r ∷ reply_lines format cs rs
reply_lines format [] (r ∷ rs) = reply_text format None r ∷ []
reply_lines format cs [] = []

-- the lines of a script's replies under these marks: the reply to each pose is that to the deletion that it submits
abbrev pub script_lines : ScriptAt → List ℕ → List (List ℕ)
script_lines s marks = reply_lines s.format s.commands (replies (plain_script s) marks)

-- line j is the first that isn't the one in its place
pub record IsFirstOther (right lines : List (List ℕ)) (j : ℕ) : Type 0 where
  pub before : ℕ
  pub place : j ≡ before + 1
  pub same : (i : ℕ) → i < before → slice_get lines i ≡ slice_get right i
  pub other : slice_get lines before ≡ slice_get right before → ⊥

-- What is found of a transcript of a script: first whether all lines spell marks, then whether these are legal, with each pose as
-- the deletion that it submits, then whether the lines are those of the replies under them.
abbrev pub IsVerdict : ScriptAt → List ℕ → Verdict → Type 0
IsVerdict s out (Unspelled j) = IsUnspelled (heads s.commands) out j
IsVerdict s out Marks = IsSpelled (heads s.commands) out (λ lines marks. IsLegal (plain s.commands) marks → ⊥)
IsVerdict s out (Differs j) = IsSpelled (heads s.commands) out (λ lines marks. IsLegal (plain s.commands) marks × IsFirstOther (script_lines s marks) lines j)
IsVerdict s out Legal = IsSpelled (heads s.commands) out (λ lines marks. IsLegal (plain s.commands) marks × (out ≡ text s marks))
