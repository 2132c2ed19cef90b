use Rattle.std.proofs.Common.{length}
use Rattle.kd_tree.specs.Shape.{Shape}
use Rattle.kd_tree.specs.Contents.{contents}
use Rattle.kd_update.specs.Scan.{IsPut, MayJoin}
use Rattle.kd_update.proofs.scans.scan.put_in_pieces.Given as goal

abbrev pub invariant-loop-rest : goal.invariant-loop-rest
invariant-loop-rest g l = record {
  fit : MayJoin (contents l.tree) l.rest;
  rest : (t : Shape) → IsPut l.large l.tree l.rest t → IsPut l.large l.fn.tree l.items t;
}

abbrev pub decreases-loop-rest : goal.decreases-loop-rest
decreases-loop-rest g l = length l.rest
