use Rattle.std.proofs.lemmas.Slice.Eq.{starts_is}
use Rattle.kd_tree.proofs.Apart.{same_side, leads_on}
use Rattle.kd_tree.proofs.breach.leads_on.Goals as goal

pub returns : goal.returns
returns c =
    let k = starts_is same_side c.as_slice.result.now c.as_slice-2.result.now c.starts_with.result c.starts_with.ensures.value in
    rw (c.as_slice.ensures.value, c.as_slice-2.ensures.value) at (leads_on c.as_slice-2.result.now c.as_slice.result.now c.starts_with.result (λ e. (_, k.0 e)) k.1)
