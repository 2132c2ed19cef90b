use Rattle.std.proofs.Common.{arith, length-drop}
use Rattle.std.proofs.Math.Seq.{take-add}
use Rattle.std.proofs.KnownBytes.{Appends-trans}
use Rattle.byte_streams.proofs.Pieces.{rest_from}
use Rattle.byte_streams.proofs.writing.write_all.Goals as goal

pub loop-at-preserved : goal.loop-at-preserved
loop-at-preserved g c = record {
  within = omega (arith, rw rest_from at c.in_ok-at.ensures.bound, length-drop c.loop-at.at c.args.bytes.now);
  written = rw take-add (Appends-trans _ _ _ _ _ c.loop-at.invariant.written (rw rest_from at c.in_ok-at.ensures.bytes));
  later = omega (arith, c.in_ok-at.ensures.cause.later, c.loop-at.invariant.later);
}
