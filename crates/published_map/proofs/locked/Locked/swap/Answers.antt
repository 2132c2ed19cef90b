use Rattle.published_map.proofs.Late.{late_cause}
use Rattle.published_map.proofs.locked.Locked.swap.Goals as goal

pub returns-in-Err-clause-refused : goal.returns-in-Err-clause-refused
returns-in-Err-clause-refused g c = late_cause _ _ _ _ c.history-history.ensures.lawful c.in-Err.ensures.refused
