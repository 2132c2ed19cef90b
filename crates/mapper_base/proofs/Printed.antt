-- What is printed of a script, which is run without its poses.
use Rattle.std.proofs.Common.{◌≡◌, ℕ, List, refl, sym, ap, subst, ◌∙◌}
use Rattle.scan_log.specs.Legal.{AreLegalLines, AreLegalReplies}
use Rattle.scan_log.specs.Scripts.{ScriptAt}
use Rattle.scan_log.specs.Poses.{no_regions, plain_script}
use Rattle.scan_log.specs.declared.reply.Reply.{Reply}
use Rattle.scan_log.specs.Transcript.{lines_text, replies, serial_marks, text}
use Rattle.scan_log.proofs.Plains.{lines_plain, length-plain_from, points-plain_from}
use Rattle.scan_log.proofs.Serial.{serial_replies_legal}
use Rattle.mapper_base.specs.Prints.{AreSerialLines}
use Rattle.mapper_base.specs.Summary.{summary_of, summary_text}

serial_lines : (s : ScriptAt) → AreLegalLines s (text s (serial_marks (plain_script s)))
serial_lines s = let run = plain_script s in record { told = replies run (serial_marks run); legal = serial_replies_legal run; text = refl }

-- the lines of legal replies are what a run prints
pub legal_print : (s r : ScriptAt) (rs : List Reply) (lines : List ℕ) → r ≡ plain_script s → AreLegalReplies r rs → lines ≡ lines_text r.format r.commands rs → AreLegalLines s lines
legal_print s r rs lines is legal shown =
    record { told = rs; legal = subst (λ x. AreLegalReplies x rs) is legal; text = shown ∙ (rw is (lines_plain s.format no_regions s.commands rs)) }

-- those of the replies in the log's order are what a serial one prints
pub serial_print : (s r : ScriptAt) (rs : List Reply) (lines : List ℕ) → r ≡ plain_script s → rs ≡ replies r (serial_marks r) → lines ≡ lines_text r.format r.commands rs → AreSerialLines s lines
serial_print s r rs lines is all shown =
    let same : rs ≡ replies (plain_script s) (serial_marks (plain_script s)) = all ∙ ap (λ (x : ScriptAt). replies x (serial_marks x)) is in
    let told : lines ≡ text s (serial_marks (plain_script s)) =
    shown ∙ (rw is (lines_plain s.format no_regions s.commands rs)) ∙ ap (lines_text s.format s.commands) same in
    (subst (AreLegalLines s) (sym told) (serial_lines s), told)

-- and their sums are what a driven one prints
pub drive_print : (n : ℕ) (s r : ScriptAt) (rs : List Reply) (lines : List ℕ) → r ≡ plain_script s → rs ≡ replies r (serial_marks r) → lines ≡ summary_text n r rs → lines ≡ summary_of n s
drive_print n s r rs lines is all shown =
    let same : rs ≡ replies (plain_script s) (serial_marks (plain_script s)) = all ∙ ap (λ (x : ScriptAt). replies x (serial_marks x)) is in
    let sums : summary_text n r rs ≡ summary_text n s rs =
    rw (is, length-plain_from no_regions s.commands, points-plain_from no_regions s.commands) refl in
    shown ∙ sums ∙ ap (summary_text n s) same
