use Rattle.std.proofs.Common.{refl}
use Rattle.scan_log.specs.Reading.{update_of}
use Rattle.scan_log.proofs.commands.update.Goals.{else-has_expiry-via-then-has_expiry+else-is_word-7, else-has_expiry-via-else-has_expiry}
use Rattle.scan_log.proofs.commands.update.Goals as goal

-- no word of an update, or an expiry where none may be
pub returns : goal.returns
unfolding update_of
returns c =
    elim c.else-has_expiry.branch [
      | else-has_expiry-via-then-has_expiry+else-is_word-7 w ↦
          rw (
            ← c.if-is_word.ensures,
            ← c.if-is_word-2.ensures,
            ← c.if-is_word-3.ensures,
            ← c.if-is_word-4.ensures,
            ← c.if-is_word-5.ensures,
            ← c.if-is_word-6.ensures,
            ← w.if-has_expiry.ensures,
            ← w.if-is_word-7.ensures,
          )
          refl
      | else-has_expiry-via-else-has_expiry w ↦
          rw (← c.if-is_word.ensures, ← c.if-is_word-2.ensures, ← c.if-is_word-3.ensures, ← c.if-is_word-4.ensures, ← c.if-is_word-5.ensures, ← c.if-is_word-6.ensures, ← w.if-has_expiry.ensures) refl
    ]
