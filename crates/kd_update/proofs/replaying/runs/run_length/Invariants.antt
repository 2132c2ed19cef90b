use Rattle.std.proofs.Common.{◌≡◌, ◌≤◌, take}
use Rattle.kd_update.specs.Replay.{ArePuts}
use Rattle.kd_update.proofs.replaying.runs.run_length.Given as goal

abbrev pub invariant-loop-op : goal.invariant-loop-op
invariant-loop-op l = record {
  count : l.count ≡ l.op-index;
  most : l.count ≤ l.most;
  puts : ArePuts (take l.count l.ops);
}
