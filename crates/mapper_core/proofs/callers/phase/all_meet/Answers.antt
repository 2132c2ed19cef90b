use Rattle.std.proofs.Common.{◌≡◌, length, sym, subst, arith}
use Rattle.shown_versions.specs.Marks.{AllMetNow}
use Rattle.mapper_core.proofs.Meeting.{lent_back, grown_length}
use Rattle.mapper_core.proofs.callers.phase.all_meet.Goals as goal

pub returns : goal.returns
returns g c =
    let items = c.args.passes.items in
    let met : AllMetNow items c.meet.new.passes = subst (λ z. AllMetNow z c.meet.new.passes) c.as_mut_slice.ensures.value c.meet.ensures in
    let is : c.args.passes.len ≡ length items = omega (arith, c.args.passes.ok.0) in
    subst (λ z. AllMetNow items z) (sym (lent_back items c.meet.new.passes c.args.passes.len (grown_length items c.meet.new.passes met.0) is)) met
