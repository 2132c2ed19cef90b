use Rattle.log_numbers.proofs.FirstFields.{DigitsRead}
use Rattle.log_numbers.proofs.front.digits.Given as goal

abbrev pub invariant-loop-place : goal.invariant-loop-place
invariant-loop-place l = DigitsRead l.bytes l.place l.value
