use Rattle.std.proofs.Common.{refl, arith}
use Rattle.rebuild_parts.proofs.Balance.{small_balanced}
use Rattle.rebuild_parts.proofs.balanced.+is_balanced.Goals as goal

pub returns-then-size-lt10 : goal.returns-then-size-lt10
returns-then-size-lt10 t c = ((λ _. small_balanced c.args.large c.args.tree.now (omega arith)), λ _. refl)
