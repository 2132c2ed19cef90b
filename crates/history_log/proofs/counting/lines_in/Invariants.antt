use Rattle.std.proofs.Common.{◌≡◌, length, min, take}
use Rattle.history_log.specs.Lines.{lines_of}
use Rattle.history_log.proofs.counting.lines_in.Given as goal

abbrev pub invariant-loop-entry : goal.invariant-loop-entry
invariant-loop-entry l = l.lines ≡ min 65537 (length (lines_of (take l.entry-index l.history)))
