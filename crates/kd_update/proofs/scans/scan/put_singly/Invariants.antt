use Rattle.std.proofs.Common.{drop}
use Rattle.kd_tree.specs.Shape.{Shape}
use Rattle.kd_tree.specs.Contents.{contents}
use Rattle.kd_update.specs.Scan.{IsPut, MayJoin}
use Rattle.kd_update.proofs.scans.scan.put_singly.Given as goal

abbrev pub invariant-loop-item : goal.invariant-loop-item
invariant-loop-item g l = record {
  fit : MayJoin (contents l.tree) (drop l.item-index l.items);
  rest : (t : Shape) → IsPut l.large l.tree (drop l.item-index l.items) t → IsPut l.large l.fn.tree l.items t;
}
