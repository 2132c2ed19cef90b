use Rattle.history_log.proofs.logging.history_lines.Given as goal
use Rattle.history_log.proofs.SoFar.{IsSoFar}

abbrev pub invariant-loop-at : goal.invariant-loop-at
invariant-loop-at l = IsSoFar l.state.state l.from l.at l.room l.bytes.items l.lines
