use Rattle.transcript_check.proofs.ReadLines.{AreRead}
use Rattle.transcript_check.proofs.lines.read_marked_lines.Given as goal

abbrev pub invariant-loop-place : goal.invariant-loop-place
invariant-loop-place l = AreRead l.commands l.transcript l.place l.marked_lines.items l.rest
