use Rattle.std.proofs.Common.{◌∙◌, List, sym, subst}
use Rattle.map_items.specs.declared.item.Item.{Item}
use Rattle.kd_update.specs.Replay.{IsPerformed}
use Rattle.kd_update.specs.Scan.{IsGrown, IsPiece}
use Rattle.kd_mark.proofs.Results.{ok_both}
use Rattle.kd_update.proofs.OpRuns.{run_join, run_performed, run_piece}
use Rattle.kd_update.proofs.replaying.runs.put_run.Goals as goal

pub put_at_once-requires : goal.put_at_once-requires
put_at_once-requires g c =
    let s = c.args.tree in
    let ops = c.args.run.now in
    let same = sym (c.as_mut_slice-items.ensures.value ∙ c.in_ok-items.ensures) in
    subst (λ (xs : List Item). IsPiece c.args.large s xs) same
    (run_piece c.args.large s ops c.requires.run (run_join c.args.large s ops c.size-size.ensures.sound c.requires.run c.requires.fit))

pub returns : goal.returns
returns g c =
    let s = c.args.tree in
    let ops = c.args.run.now in
    let join = run_join c.args.large s ops c.size-size.ensures.sound c.requires.run c.requires.fit in
    let same = c.as_mut_slice-items.ensures.value ∙ c.in_ok-items.ensures in
    ok_both c.put_at_once.result _ _ (λ t. IsPerformed c.args.large s ops t)
    (λ t k balanced. run_performed c.args.large s t ops c.requires.run join (subst (λ (xs : List Item). IsGrown s xs t) same k) balanced) c.put_at_once.ensures.grown c.put_at_once.ensures.balance
