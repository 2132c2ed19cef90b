use Rattle.base_tests.proofs.tests.numbered.Numbered.settled.Goals as goal

pub invariant_of-result : goal.invariant_of-result
invariant_of-result c = record { below = λ n k. c.args.self.below n (c.in_ok-tree.ensures.numbers n k) }
