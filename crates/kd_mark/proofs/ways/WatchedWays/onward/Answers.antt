use Rattle.kd_mark.specs.Ways.{way_of}
use Rattle.kd_mark.proofs.WayLists.{onward_four}
use Rattle.kd_mark.proofs.ways.WatchedWays.onward.Goals as goal

pub returns : goal.returns
returns c =
    let w = c.args.self.now in
    onward_four c.args.side (way_of w.first) (way_of w.second) (way_of w.third) (way_of w.fourth) _ _ _ _ c.below.ensures c.below-2.ensures c.below-3.ensures c.below-4.ensures
