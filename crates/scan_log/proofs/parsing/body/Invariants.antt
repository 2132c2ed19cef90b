use Rattle.std.proofs.Common.{length}
use Rattle.scan_log.specs.Reading.{body_of}
use Rattle.scan_log.proofs.Growth.{ReadSoFar}
use Rattle.scan_log.proofs.parsing.body.Given as goal

abbrev pub invariant-loop-number : goal.invariant-loop-number
invariant-loop-number l = ReadSoFar l.script l.room l.hits l.lines (body_of l.fn.format l.fn.settings l.fn.lines)

abbrev pub decreases-loop-number : goal.decreases-loop-number
decreases-loop-number l = length l.lines
