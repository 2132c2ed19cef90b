use Rattle.std.proofs.lemmas.Slice.Eq.{slice_eq-Decides}
use Rattle.std.proofs.lemmas.Bool.Decides.{same_from_decides}
use Rattle.kd_tree.proofs.Apart.{same_side, ends_here}
use Rattle.kd_tree.proofs.breach.ends_at.Goals as goal

pub returns : goal.returns
returns c =
    rw (c.as_slice.ensures.value, c.as_slice-2.ensures.value) at (same_from_decides _ _ (slice_eq-Decides same_side _ _ _ c.eq.ensures) (ends_here c.as_slice-2.result.now c.as_slice.result.now))
