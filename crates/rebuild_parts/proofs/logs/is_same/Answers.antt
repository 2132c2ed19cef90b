use Rattle.std.proofs.Common.{sym, ◌∙◌}
use Rattle.std.proofs.lemmas.Slice.Eq.{slice_eq-Decides}
use Rattle.kd_tree.proofs.Apart.{same_side}
use Rattle.rebuild_parts.proofs.logs.is_same.Goals as goal

pub returns : goal.returns
returns c =
    let d = slice_eq-Decides same_side c.as_slice.result.now c.as_slice-2.result.now c.eq.result c.eq.ensures in
    ((λ e. sym c.as_slice.ensures.value ∙ d.0 e ∙ c.as_slice-2.ensures.value), (λ e. d.1 (c.as_slice.ensures.value ∙ e ∙ sym c.as_slice-2.ensures.value)))
