use Rattle.std.proofs.Common.{◌≡◌, ◌∙◌, ap, subst, sym, rules}
use Rattle.std.proofs.lemmas.Result.{IfOk-weaker}
use Rattle.node_labels.specs.Labels.{keep_tag}
use Rattle.map_items.specs.Contents.{live_items}
use Rattle.map_fold.specs.Answers.{nearest}
use Rattle.kd_tree.specs.Walk.{walk}
use Rattle.kd_tree.specs.Contents.{AreDistinct, contents}
use Rattle.kd_frozen.specs.Cells.{items_of}
use Rattle.kd_frozen.proofs.Live.{from_nothing, live_contents, live_distinct, nearest-live}
use Rattle.kd_frozen.proofs.frozen.Frozen.of.Goals as goal
use Rattle.kd_frozen.proofs.frozen.Frozen.of.Goals.{After-as_mut_slice}

live : (c : After-as_mut_slice) → items_of c.as_mut_slice.result.now ≡ live_items (walk keep_tag c.args.tree.now)
live c = from_nothing c.in_ok-cells.cells.items c.as_mut_slice.result.now (live_items (walk keep_tag c.args.tree.now)) (search rules) (search rules)

pub laid-requires : goal.laid-requires
laid-requires c = subst AreDistinct (sym (live c)) (live_distinct c.args.tree.now c.counts-counts.ensures.sound)

pub returns-clause-live : goal.returns-clause-live
returns-clause-live c =
    IfOk-weaker c.laid.result _ _ (λ f e. e
    ∙ live_contents c.args.tree.now (items_of c.as_mut_slice.result.now)
    (live (goal.at.returns-clause-live c).After-as_mut_slice)) c.laid.ensures

pub returns-clause-asked : goal.returns-clause-asked
returns-clause-asked c =
    IfOk-weaker c.laid.result _ _
    (λ f e k q r. ap (λ z. nearest z k q r) (e
    ∙ live_contents c.args.tree.now (items_of c.as_mut_slice.result.now)
    (live (goal.at.returns-clause-asked c).After-as_mut_slice))
    ∙ nearest-live (contents c.args.tree.now) k q r)
    c.laid.ensures
