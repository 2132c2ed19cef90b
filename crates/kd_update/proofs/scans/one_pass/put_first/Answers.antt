use Rattle.std.proofs.Common.{List, [], sym, subst, arith}
use Rattle.std.proofs.lemmas.Result.{IfOk-weaker}
use Rattle.std.proofs.lemmas.List.Elements.{All-head}
use Rattle.map_items.specs.declared.item.Item.{Item}
use Rattle.kd_tree.specs.Shape.{leaf}
use Rattle.kd_tree.specs.Criteria.{AllMeetCriteria}
use Rattle.kd_update.specs.Scan.{AreLive}
use Rattle.kd_update.specs.Crossing.{IsWholeGrown}
use Rattle.kd_update.proofs.Grown.{IsLive, alone, live_kept}
use Rattle.kd_update.proofs.Crossing.{whole_first, whole_leaf}
use Rattle.kd_mark.proofs.Results.{ok_three}
use Rattle.kd_update.proofs.scans.one_pass.put_first.Goals as goal

pub returns-then-items-eq1-clause-grown : goal.returns-then-items-eq1-clause-grown
returns-then-items-eq1-clause-grown g c =
    let i = c.index-items-0.result in
    let e = alone c.args.items.now i c.if-items-eq1.true c.index-items-0.is in
    let live = All-head IsLive i [] (subst AreLive e c.requires.live) in
    IfOk-weaker c.leaf.result _ _ (λ t same. subst (λ (xs : List Item). IsWholeGrown leaf xs t) (sym e) (whole_leaf i c.args.axis t live same)) c.leaf.ensures.shape

pub returns-then-items-eq1-clause-criteria : goal.returns-then-items-eq1-clause-criteria
returns-then-items-eq1-clause-criteria g c = IfOk-weaker c.leaf.result _ _ (λ t same. subst (AllMeetCriteria 10) (sym same) ((λ many. absurd (omega (arith, many))), tt, tt)) c.leaf.ensures.shape

pub rebuilt_with-requires-clause-kept : goal.rebuilt_with-requires-clause-kept
rebuilt_with-requires-clause-kept g c = live_kept c.args.items.now c.requires.live

pub returns-clause-grown : goal.returns-clause-grown
returns-clause-grown g c =
    ok_three c.rebuilt_with.result _ _ _ (λ t. IsWholeGrown leaf c.args.items.now t) (λ t b ns n. whole_first c.empty.result t c.args.items.now c.empty.ensures c.requires.live c.requires.short b ns n)
    c.rebuilt_with.ensures.shape c.rebuilt_with.ensures.numbers c.rebuilt_with.ensures.nodes

pub returns-clause-criteria : goal.returns-clause-criteria
returns-clause-criteria g c = c.rebuilt_with.ensures.criteria
