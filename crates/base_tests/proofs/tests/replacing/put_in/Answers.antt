use Rattle.base_tests.proofs.tests.replacing.put_in.Goals as goal

pub replaced-requires-clause-stands : goal.replaced-requires-clause-stands
replaced-requires-clause-stands g c = record { node = c.in-Some.node.now; there = c.in-Some.ensures.some; same = c.in-Ok.ensures c.if-not-are_same.false }
