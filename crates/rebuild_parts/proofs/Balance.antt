-- Balanced trees.
use Rattle.std.proofs.Common.{ℕ, ◌<◌, arith}
use Rattle.kd_tree.specs.Shape.{Shape, leaf, fork, nodes}
use Rattle.kd_mark.specs.Update.{IsBalancedBelow}

-- a tree of few nodes
pub small_balanced : (large : ℕ) (t : Shape) → nodes t < 10 → IsBalancedBelow large t
small_balanced large leaf few = tt
small_balanced large (fork h l r) few = ((λ many _. absurd (omega (arith, few, many))), small_balanced large l (omega (arith, few)), small_balanced large r (omega (arith, few)))
