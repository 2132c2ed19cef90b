use Rattle.std.proofs.Common.{◌≡◌, ◌+◌, ◌≤◌, length}
use Rattle.scan_log.specs.Lines.{kept_from, lines_of}
use Rattle.scan_log.specs.Faults.{line_feeds}
use Rattle.scan_log.proofs.lines.Lines.next.Given as goal

abbrev pub invariant-loop-end : goal.invariant-loop-end
invariant-loop-end l = record {
  left : kept_from l.self-inside.number (lines_of l.self-inside.rest.now) ≡ l.fn.self;
  few : l.self-inside.number + line_feeds l.self-inside.rest.now ≤ 4294967295;
}

abbrev pub decreases-loop-end : goal.decreases-loop-end
decreases-loop-end l = length l.self-inside.rest.now
