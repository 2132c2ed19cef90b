use Rattle.std.proofs.Common.{List, subst, sym}
use Rattle.std.specs.List.{remove}
use Rattle.std.proofs.lemmas.Result.{IfOk-weaker}
use Rattle.kd_mark.specs.declared.watch.Watch.{Watch}
use Rattle.map_update.specs.Draft.{AreSpared, IsDraftLeft}
use Rattle.map_update.proofs.Detached.{left_itself}
use Rattle.map_update.proofs.Working.{draft_on}
use Rattle.map_update.proofs.draft.Draft.+without_full.Goals as goal

pub returns-in_default-clause-draft : goal.returns-in_default-clause-draft
returns-in_default-clause-draft g t c = λ next last ps d. (ps, left_itself ps, d)

pub returns-clause-draft : goal.returns-clause-draft
returns-clause-draft g t c = λ next last ps d.
    let k = c.in_ok-draft.ensures.draft next last ps d in
    IfOk-weaker c.without_full.result _ (IsDraftLeft c.args.large next last ps) (λ w. draft_on c.args.large next last ps k.0 w k.1) (c.without_full.ensures.draft next last k.0 k.2)

pub returns-clause-spared : goal.returns-clause-spared
returns-clause-spared g t c =
    let first = subst (λ (ws : List Watch). AreSpared ws (remove ws c.in-Some.place)) c.as_slice.ensures.value c.in-Some.ensures.others in
    let others = subst (AreSpared c.args.self.watches) (sym c.in_ok-draft.ensures.others) first in
    IfOk-weaker c.without_full.result _ (λ w. AreSpared c.args.self.watches w.watches) (λ w k x m own. k x (others x m own) own) c.without_full.ensures.spared
