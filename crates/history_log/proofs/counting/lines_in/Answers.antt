use Rattle.std.proofs.Common.{◌+◌, arith}
use Rattle.history_log.proofs.SoFar.{count_more}
use Rattle.history_log.proofs.counting.lines_in.Goals as goal

pub loop-entry-preserved : goal.loop-entry-preserved
loop-entry-preserved c =
    let more = count_more c.loop-entry.entry-index (c.loop-entry.entry-index + 1) c.args.history.now c.entry-item.result (omega arith) c.loop-entry-test.true c.entry-item.is in
    omega (arith, more, c.min-lines.ensures, c.loop-entry.invariant, c.line_count.ensures.count)
