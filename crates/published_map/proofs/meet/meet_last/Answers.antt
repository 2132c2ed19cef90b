use Rattle.shown_versions.proofs.Counting.{all_ended}
use Rattle.published_map.proofs.meet.meet_last.Goals as goal

pub returns-clause-ended : goal.returns-clause-ended
returns-clause-ended g c =
    let e = c.meet.ensures in all_ended c.args.locked.now.state.history c.args.passes.now c.meet.new.passes e.grown e.met e.none_else
