use Rattle.scan_log.proofs.Fronts.{threes}
use Rattle.scan_log.proofs.queries.nears.Goals as goal

pub all_points-requires : goal.all_points-requires
all_points-requires c = threes 262144 c.in_ok-count.count c.field.new.self c.in_ok-count.ensures
