use Rattle.std.proofs.Common.{◌+◌, ◌≤◌, ◌∙◌, sym, subst, arith, length}
use Rattle.std.proofs.lemmas.Result.{IfOk-weaker}
use Rattle.node_labels.specs.Labels.{keep_tag}
use Rattle.kd_tree.specs.Shape.{Shape, levels, nodes}
use Rattle.kd_tree.specs.Walk.{walk}
use Rattle.kd_tree.proofs.Held.{walk_few}
use Rattle.kd_update.specs.Scan.{IsGrown}
use Rattle.kd_update.proofs.Grown.{grown_anew, live_kept}
use Rattle.kd_mark.proofs.Among.{bare}
use Rattle.kd_mark.proofs.Results.{ok_both}
use Rattle.kd_mark.proofs.Update.{criteria_balanced}
use Rattle.kd_update.proofs.scans.one_pass.put_here.Goals as goal

pub returns-then-size-eq0-clause-grown : goal.returns-then-size-eq0-clause-grown
returns-then-size-eq0-clause-grown g c =
    let none = bare c.args.tree (sym c.size.ensures.value ∙ c.if-size-eq0.true) in
    IfOk-weaker c.put_first.result _ _ (λ t k. subst (λ (s : Shape). IsGrown s c.args.items.now t) (sym none) k.grown) c.put_first.ensures.grown

pub returns-then-size-eq0-clause-balance : goal.returns-then-size-eq0-clause-balance
returns-then-size-eq0-clause-balance g c = IfOk-weaker c.put_first.result _ _ (λ t criteria. criteria_balanced c.args.large t criteria) c.put_first.ensures.criteria

pub rebuilt_with-requires-clause-kept : goal.rebuilt_with-requires-clause-kept
rebuilt_with-requires-clause-kept g c = live_kept c.args.items.now c.requires.piece.live

pub rebuilt_with-requires-clause-few : goal.rebuilt_with-requires-clause-few
rebuilt_with-requires-clause-few g c = omega (arith, walk_few keep_tag c.args.tree, c.requires.piece.few)

pub returns-clause-grown : goal.returns-clause-grown
returns-clause-grown g c =
    let s = c.args.tree in
    let is = c.args.items.now in
    let few : length (walk keep_tag s) + length is ≤ 4194304 = omega (arith, walk_few keep_tag s, c.requires.piece.few) in
    let some : 1 ≤ nodes s + levels s = omega (arith, c.size.ensures.value, c.if-size-eq0.false) in
    ok_both c.rebuilt_with.result _ _ (λ t. IsGrown s is t) (λ t b ns. grown_anew s t is c.requires.piece.live few some b ns) c.rebuilt_with.ensures.shape c.rebuilt_with.ensures.numbers

pub returns-clause-balance : goal.returns-clause-balance
returns-clause-balance g c = IfOk-weaker c.rebuilt_with.result _ _ (λ t criteria. criteria_balanced c.args.large t criteria) c.rebuilt_with.ensures.criteria
