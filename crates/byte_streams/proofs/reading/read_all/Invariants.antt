use Rattle.std.proofs.Common.{vec_len, ◌+◌, ◌-◌, ◌≤◌}
use Rattle.std.specs.Io.KnownBytes.{Consumes}
use Rattle.byte_streams.proofs.reading.read_all.Given as goal

abbrev pub invariant-loop-piece : goal.invariant-loop-piece
invariant-loop-piece g l = record {
  few : vec_len l.bytes ≤ l.fn.most + 1;
  read : Consumes (g.R.Source.left l.fn.input) (g.R.Source.left l.input) l.bytes.items;
  later : g.R.Source.faults l.fn.input ≤ g.R.Source.faults l.input;
}

abbrev pub decreases-loop-piece : goal.decreases-loop-piece
decreases-loop-piece g l = (l.fn.most + 1) - vec_len l.bytes
