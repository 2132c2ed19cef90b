use Rattle.kd_search.proofs.Walks.{walk_in_extent}
use Rattle.kd_search.proofs.pending.Pending.extent.Goals as goal

pub returns-clause-some : goal.returns-clause-some
returns-clause-some c = walk_in_extent c.extent.result c.args.self.now.pending c.args.self.now.tree.now c.extent.ensures.value
