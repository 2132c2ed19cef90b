use Rattle.base_tests.proofs.tests.watching.mark_beside.Goals as goal

pub invariant_of-map : goal.invariant_of-map
invariant_of-map g c = record { below = λ n k. c.args.at.map.below n (c.in-Ok.ensures.numbers n k) }
