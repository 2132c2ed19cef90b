use Rattle.std.proofs.Common.{◌≡◌, length}
use Rattle.batch_near.proofs.each.empty_lists.Given as goal

abbrev pub invariant-loop : goal.invariant-loop
invariant-loop l = length l.lists.items ≡ l.counter
