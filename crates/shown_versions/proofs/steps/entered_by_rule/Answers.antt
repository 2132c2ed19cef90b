use Rattle.shown_versions.proofs.Keeping.{enters}
use Rattle.shown_versions.proofs.steps.entered_by_rule.Goals as goal

pub enter_as-requires : goal.enter_as-requires
enter_as-requires g c = enters _ _
