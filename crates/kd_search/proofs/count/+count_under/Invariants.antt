use Rattle.kd_search.specs.Pending.{nodes_of}
use Rattle.kd_search.proofs.count.+count_under.Given as goal

abbrev pub decreases-count_under : goal.decreases-count_under
decreases-count_under l = nodes_of l.part.now
