use Rattle.std.proofs.Common.{subst}
use Rattle.std.specs.Prelude.{Contains}
use Rattle.kd_tree.specs.Shape.{numbers}
use Rattle.map_bench.proofs.grown.delete.Goals as goal

pub returns : goal.returns
returns g c = λ n k. subst (λ t. Contains (numbers t) n) c.replace-old.ensures.value (c.in_ok-tree.ensures.numbers n k)
