use Rattle.history_log.proofs.SoFar.{joined, stay, whole}
use Rattle.history_log.proofs.logging.parts_in_turn.Goals as goal

pub returns-clause-joined : goal.returns-clause-joined
returns-clause-joined c = joined

pub returns-clause-whole : goal.returns-clause-whole
returns-clause-whole c = whole

pub returns-clause-stays : goal.returns-clause-stays
returns-clause-stays c = stay
