use Rattle.std.proofs.Common.{refl}
use Rattle.scan_log.specs.Reading.{called_of}
use Rattle.scan_log.proofs.commands.wide.Goals as goal

pub returns-then-is_word-3 : goal.returns-then-is_word-3
unfolding called_of
returns-then-is_word-3 c = rw (← c.if-is_word.ensures, ← c.if-is_word-2.ensures, ← c.if-is_word-3.ensures, ← c.in_ok-k.ensures) refl

pub returns-then-is_word-4 : goal.returns-then-is_word-4
unfolding called_of
returns-then-is_word-4 c = rw (← c.if-is_word.ensures, ← c.if-is_word-2.ensures, ← c.if-is_word-3.ensures, ← c.if-is_word-4.ensures, ← c.in_ok-k-2.ensures) refl
