use Rattle.scan_log.proofs.Fronts.{fours}
use Rattle.scan_log.proofs.points.scanned_points.Goals as goal

pub all_scanned-requires : goal.all_scanned-requires
all_scanned-requires c = fours c.args.room.points c.in_ok-count-in-Two.count c.args.fields c.in_ok-count-in-Two.ensures
