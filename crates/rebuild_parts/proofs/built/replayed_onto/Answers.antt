use Rattle.std.proofs.Common.{◌≡◌, ◌+◌, ◌≤◌, List, ◌++◌, ◌∙◌, ap, arith, length}
use Rattle.std.proofs.lemmas.List.Elements.{Contains-append_right}
use Rattle.std.proofs.lemmas.Result.{IfOk-weaker}
use Rattle.map_items.specs.declared.item.Item.{Item}
use Rattle.map_items.specs.Ops.{numbers_put, replay}
use Rattle.kd_tree.specs.Shape.{levels, nodes, numbers}
use Rattle.kd_tree.specs.Contents.{contents}
use Rattle.kd_mark.specs.Refresh.{AreAmong}
use Rattle.rebuild_parts.proofs.Replaying.{among_after}
use Rattle.rebuild_parts.proofs.built.replayed_onto.Goals as goal

pub returns-then-is_empty-clause-numbers : goal.returns-then-is_empty-clause-numbers
returns-then-is_empty-clause-numbers g c = λ n k. Contains-append_right (numbers_put c.args.ops.now) (numbers c.args.tree) n (c.in_ok-tree.ensures.numbers n k)

pub returns-clause-numbers : goal.returns-clause-numbers
returns-clause-numbers g c =
    IfOk-weaker c.replayed.result _ (λ t. AreAmong (numbers t) (numbers_put c.args.ops.now ++ numbers c.args.tree))
    (λ t k. among_after c.args.ops.now (numbers t) (numbers c.in_ok-tree.tree) (numbers c.args.tree) k c.in_ok-tree.ensures.numbers) c.replayed.ensures.numbers

pub returns-clause-contents : goal.returns-clause-contents
returns-clause-contents g c =
    IfOk-weaker c.replayed.result _ (λ t. contents t ≡ replay (contents c.args.tree) c.args.ops.now)
    (λ t e. e ∙ ap (λ (m : List Item). replay m c.args.ops.now) c.in_ok-tree.ensures.contents) c.replayed.ensures.contents

pub returns-clause-low : goal.returns-clause-low
returns-clause-low g c =
    IfOk-weaker c.replayed.result _ (λ t. levels t ≤ levels c.args.tree + length (numbers_put c.args.ops.now))
    (λ t k. omega (arith, k, c.in_ok-tree.ensures.low)) c.replayed.ensures.low

pub returns-clause-few : goal.returns-clause-few
returns-clause-few g c =
    IfOk-weaker c.replayed.result _ (λ t. nodes t ≤ nodes c.args.tree + length (numbers_put c.args.ops.now))
    (λ t k. omega (arith, k, c.in_ok-tree.ensures.few)) c.replayed.ensures.few
