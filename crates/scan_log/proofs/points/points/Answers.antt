use Rattle.scan_log.proofs.Fronts.{threes}
use Rattle.scan_log.proofs.points.points.Goals as goal

pub all_points-requires : goal.all_points-requires
all_points-requires c = threes c.args.room.points c.in_ok-count.count c.args.fields c.in_ok-count.ensures
