use Rattle.std.proofs.Common.{arith}
use Rattle.std.proofs.lemmas.Bool.{leb-true}
use Rattle.kd_search.proofs.First.{full_to}
use Rattle.kd_search.proofs.inside.are_full_to.Goals as goal

pub returns : goal.returns
returns c e = full_to c.args.most c.args.number c.args.items.now c.index-items-most.result c.requires.most_from c.requires.held (omega arith) (leb-true _ _ e)
