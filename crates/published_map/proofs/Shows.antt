-- A lawful state's version shows its history.
use Rattle.std.proofs.Common.{◌≡◌, ◌∙◌}
use Rattle.kd_tree.specs.Contents.{contents}
use Rattle.rebuild_core.specs.Lawful.{IsLawful, StateAt}
use Rattle.shown_versions.specs.Versions.{IsVersionOf}

pub shows : (s : StateAt) → IsLawful s → IsVersionOf s.settings.voxel s.history s.version
shows s l = record { folded = (λ i. record { items = contents (l.shown i); next = l.shown_next i }) ∙ l.folded; len = l.shown_len }
