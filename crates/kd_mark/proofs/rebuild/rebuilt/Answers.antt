use Rattle.std.proofs.Common.{◌≡◌, ◌∙◌, List, [], ◌++◌, ap, subst, sym, arith, IsPermutation, map, length, IfOk, append-nil}
use Rattle.std.proofs.lemmas.Result.{IfOk-weaker}
use Rattle.std.proofs.lemmas.List.Sorted.{length_permutation}
use Rattle.node_labels.specs.Labels.{keep_tag}
use Rattle.map_items.specs.declared.item.Item.{Item}
use Rattle.kd_tree.specs.Shape.{Shape, nodes, numbers}
use Rattle.kd_tree.specs.Walk.{walk}
use Rattle.kd_tree.specs.Contents.{AreDistinct, by_number, contents}
use Rattle.kd_tree.specs.Build.{IsBuilt}
use Rattle.kd_tree.proofs.Actions.{sound_once}
use Rattle.kd_tree.proofs.Contents.{once_walk}
use Rattle.kd_tree.proofs.Held.{walk_few}
use Rattle.kd_tree.proofs.Numbered.{by_number_moves}
use Rattle.kd_mark.proofs.Refresh.{built_refresh}
use Rattle.kd_mark.proofs.Results.{ok_both}
use Rattle.kd_mark.specs.Refresh.{AreAmong, IsRefresh}
use Rattle.kd_mark.proofs.rebuild.rebuilt.Goals as goal
use Rattle.kd_mark.proofs.rebuild.rebuilt.Goals.{After-rebuilt_with}

pub rebuilt_with-requires-clause-distinct : goal.rebuilt_with-requires-clause-distinct
rebuilt_with-requires-clause-distinct g c = subst AreDistinct (sym (append-nil (walk keep_tag c.args.tree))) (once_walk c.args.tree (sound_once c.args.tree c.size-size.ensures.sound))

pub rebuilt_with-requires-clause-few : goal.rebuilt_with-requires-clause-few
rebuilt_with-requires-clause-few g c = omega (arith, walk_few keep_tag c.args.tree, c.size-size.ensures.value, c.size-size.ensures.few)

refresh : (g : _) (c : After-rebuilt_with g) → IfOk c.rebuilt_with.result (IsRefresh c.args.tree)
refresh g c =
    let s = c.args.tree in
    let alone = append-nil (walk keep_tag s) in
    let same = subst (λ (xs : List Item). IfOk c.rebuilt_with.result (λ t. IsBuilt xs t)) alone c.rebuilt_with.ensures.shape in
    let all = subst (λ (xs : List Item). IfOk c.rebuilt_with.result (λ t. IsPermutation (map (λ (i : Item). i.number) xs) (numbers t))) alone c.rebuilt_with.ensures.numbers in
    ok_both c.rebuilt_with.result _ _ (IsRefresh s) (λ t b ns. built_refresh s t b ns) same all

pub returns-clause-contents : goal.returns-clause-contents
returns-clause-contents g c =
    IfOk-weaker c.rebuilt_with.result _ (λ t. contents t ≡ contents c.args.tree)
    (λ t e. e ∙ ap by_number (append-nil (walk keep_tag c.args.tree))) c.rebuilt_with.ensures.contents

pub returns-clause-levels : goal.returns-clause-levels
returns-clause-levels g c =
    c.rebuilt_with.ensures.levels 23 (omega (
      arith,
      ap length (append-nil (walk keep_tag c.args.tree)),
      walk_few keep_tag c.args.tree,
      c.size-size.ensures.value,
      c.size-size.ensures.few,
    ))

pub returns-clause-refresh : goal.returns-clause-refresh
returns-clause-refresh g c = refresh g (goal.at.returns-clause-refresh g c).After-rebuilt_with

pub returns-clause-numbers : goal.returns-clause-numbers
returns-clause-numbers g c = IfOk-weaker c.rebuilt_with.result _ (λ t. AreAmong (numbers t) (numbers c.args.tree)) (λ t r. r.from) (refresh g (goal.at.returns-clause-numbers g c).After-rebuilt_with)

-- as many items as the contents have
as_many : (s : Shape) → length (walk keep_tag s ++ []) ≡ length (contents s)
as_many s = ap length (append-nil (walk keep_tag s)) ∙ sym (length_permutation (walk keep_tag s) (contents s) (by_number_moves (walk keep_tag s)))

pub returns-clause-nodes : goal.returns-clause-nodes
returns-clause-nodes g c = IfOk-weaker c.rebuilt_with.result _ (λ t. nodes t ≡ length (contents c.args.tree)) (λ t e. e ∙ as_many c.args.tree) c.rebuilt_with.ensures.nodes

pub returns-clause-nodes_made : goal.returns-clause-nodes_made
returns-clause-nodes_made g c = omega (arith, as_many c.args.tree, c.rebuilt_with.ensures.nodes_made)
