use Rattle.std.proofs.Common.{◌∙◌, List, length, sym, subst, eqb-true}
use Rattle.std.proofs.lemmas.List.{nil_from_length}
use Rattle.map_items.specs.declared.op.Op.{Op}
use Rattle.map_items.specs.Ops.{Fit}
use Rattle.map_items.proofs.Replays.{fit_front, fit_second}
use Rattle.kd_tree.specs.Contents.{contents}
use Rattle.kd_update.specs.Replay.{IsPerformed}
use Rattle.kd_update.proofs.OpRuns.{performed_none, performed_then}
use Rattle.kd_update.proofs.replaying.replay.replayed_by.Goals as goal

pub done-requires-clause-fit : goal.done-requires-clause-fit
done-requires-clause-fit g c =
    let m = contents c.loop-rest.tree in
    fit_front m c.split_at.result.0.now c.split_at.result.1.now (subst (λ (xs : List Op). Fit m xs) c.split_at.ensures.by_index.0 c.loop-rest.invariant.fit)

pub loop-rest-preserved : goal.loop-rest-preserved
loop-rest-preserved g c =
    let s = c.loop-rest.tree in
    let more = c.split_at.result.1.now in
    let cut = c.split_at.ensures.by_index.0 in
    record {
      fit =
          subst (λ m. Fit m more) (sym c.in_ok-tree.ensures.held) (fit_second (contents s) c.split_at.result.0.now more
          (subst (λ (xs : List Op). Fit (contents s) xs) cut c.loop-rest.invariant.fit));
      rest = λ u k. c.loop-rest.invariant.rest u (subst (λ (xs : List Op). IsPerformed c.args.large s xs u) (sym cut) (performed_then c.args.large s _ u _ _ c.in_ok-tree.ensures k));
    }

pub returns : goal.returns
returns g c =
    let s = c.loop-rest.tree in
    let none = nil_from_length c.loop-rest.rest.now (eqb-true (length c.loop-rest.rest.now) 0 (sym c.is_empty.ensures ∙ c.loop-rest-test.false)) in
    c.loop-rest.invariant.rest s (subst (λ (xs : List Op). IsPerformed c.args.large s xs s) (sym none) (performed_none c.args.large s))
