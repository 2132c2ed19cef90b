use Rattle.shown_versions.proofs.Keeping.{admits}
use Rattle.shown_versions.proofs.steps.place_reader.Goals as goal

pub reader-requires : goal.reader-requires
reader-requires g c = admits
