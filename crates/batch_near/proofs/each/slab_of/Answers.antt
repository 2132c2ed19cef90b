use Rattle.std.proofs.Common.{rules}
use Rattle.batch_near.specs.Slabs.{slab_of}
use Rattle.batch_near.proofs.each.slab_of.Goals as goal

pub returns : goal.returns
unfolding slab_of
returns c = search rules
