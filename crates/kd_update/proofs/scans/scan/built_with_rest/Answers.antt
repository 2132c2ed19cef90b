use Rattle.std.proofs.Common.{◌+◌, ◌≤◌, arith, length}
use Rattle.node_labels.specs.Labels.{keep_tag}
use Rattle.kd_tree.specs.Walk.{walk}
use Rattle.kd_update.specs.Scan.{IsGrown, IsPut}
use Rattle.kd_update.proofs.Grown.{grown_anew}
use Rattle.kd_update.proofs.Joins.{contents_size, join_grown, walk_distinct}
use Rattle.kd_mark.proofs.Results.{ok_both}
use Rattle.kd_mark.proofs.Update.{criteria_balanced}
use Rattle.kd_update.proofs.scans.scan.built_with_rest.Goals as goal

pub rebuilt_with-requires-clause-few : goal.rebuilt_with-requires-clause-few
rebuilt_with-requires-clause-few g c = omega (arith, contents_size c.args.tree, c.requires.fit.room)

pub rebuilt_with-requires-clause-distinct : goal.rebuilt_with-requires-clause-distinct
rebuilt_with-requires-clause-distinct g c = walk_distinct c.args.tree c.args.items.now c.requires.fit.distinct

pub returns : goal.returns
returns g c = λ large.
    let s = c.args.tree in
    let is = c.args.items.now in
    let few : length (walk keep_tag s) + length is ≤ 4194304 = omega (arith, contents_size s, c.requires.fit.room) in
    let built =
    ok_both c.rebuilt_with.result _ _ (λ t. IsGrown s is t)
    (λ t b ns. grown_anew s t is c.requires.fit.live few c.requires.some b ns) c.rebuilt_with.ensures.shape
    c.rebuilt_with.ensures.numbers in
    ok_both c.rebuilt_with.result _ _ (λ t. IsPut large s is t)
    (λ t k criteria. join_grown large s t is c.requires.fit k (λ balanced. criteria_balanced large t criteria))
    built c.rebuilt_with.ensures.criteria
