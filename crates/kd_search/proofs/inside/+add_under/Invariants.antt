use Rattle.kd_search.specs.Pending.{nodes_of}
use Rattle.kd_search.proofs.inside.+add_under.Given as goal

abbrev pub decreases-add_under : goal.decreases-add_under
decreases-add_under l = nodes_of l.part.now
