use Rattle.map_bench.proofs.grown.Grown.delete.Goals as goal

pub invariant_of-self-clause-below : goal.invariant_of-self-clause-below
invariant_of-self-clause-below g c = λ n k. c.args.self.now.below n (c.delete.ensures n k)
