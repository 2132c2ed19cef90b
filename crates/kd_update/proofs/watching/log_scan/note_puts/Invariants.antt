use Rattle.std.proofs.Common.{◌≡◌, ◌++◌, drop}
use Rattle.map_items.specs.Ops.{Extends}
use Rattle.kd_update.specs.Crossing.{puts_of}
use Rattle.kd_update.proofs.watching.log_scan.note_puts.Given as goal

abbrev pub invariant-loop-item : goal.invariant-loop-item
invariant-loop-item l = record {
  whole : l.log ++ puts_of (drop l.item-index l.items) ≡ l.fn.log ++ puts_of l.items;
  begins : Extends l.fn.log l.log;
}
