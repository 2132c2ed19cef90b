use Rattle.std.proofs.Common.{◌≡◌, ◌+◌, ◌≤◌, ◌++◌, ◌∙◌, List, [], ap, arith, false, length, length-append, map, subst, sym}
use Rattle.std.specs.Prelude.{IfOk, IsPermutation}
use Rattle.std.proofs.lemmas.Result.{IfOk-weaker, on_ok_weaker}
use Rattle.std.proofs.lemmas.List.Elements.{All-append}
use Rattle.node_labels.specs.Labels.{is_dropped, keep_tag}
use Rattle.map_items.specs.declared.item.Item.{Item}
use Rattle.kd_tree.specs.Shape.{Shape, levels, nodes, numbers}
use Rattle.kd_tree.specs.Walk.{walk}
use Rattle.kd_tree.specs.Contents.{AreDistinct, AreKept, by_number, contents}
use Rattle.kd_tree.specs.Criteria.{AllMeetCriteria}
use Rattle.kd_tree.specs.Build.{IsBuilt}
use Rattle.kd_tree.proofs.Medians.{built_criteria, built_levels, built_nodes, built_numbers, contents-built}
use Rattle.kd_tree.proofs.Held.{walk_kept}
use Rattle.kd_tree.proofs.node.Tree.rebuilt_with.Goals as goal
use Rattle.kd_tree.proofs.node.Tree.rebuilt_with.Goals.{After-as_mut_slice, After-built_in}

kept_with : (s : Shape) (more : List Item) → AreKept more → AreKept (walk keep_tag s ++ more)
kept_with s more k = All-append (λ (i : Item). is_dropped i.label ≡ false) (walk keep_tag s) more (walk_kept keep_tag s) k

-- the list that is cleared, and then takes the tree's remaining items, and the others
listed : (cleared roomy held all built left more : List Item) → cleared ≡ [] → roomy ≡ cleared → held ≡ roomy ++ left → all ≡ held ++ more → built ≡ all → built ≡ left ++ more
listed cleared roomy held all built left more e f g h k = k ∙ h ∙ ap (λ (xs : List Item). xs ++ more) (g ∙ ap (λ (xs : List Item). xs ++ left) (f ∙ e))

-- so it is the tree's remaining items, and the others
all : (g : _) (c : After-as_mut_slice g) → c.as_mut_slice.result.now ≡ walk keep_tag c.args.self ++ c.args.more.now
all g c =
    listed c.clear.new.self.items c.reserve.new.self.items c.empty_pending.new.items.items c.extend_from_slice.new.self.items c.as_mut_slice.result.now (walk keep_tag c.args.self) c.args.more.now
    c.clear.ensures.items c.reserve.ensures.items c.in_ok-empty_pending.ensures c.in_ok-extend_from_slice.ensures.items c.as_mut_slice.ensures.value

pub built_in-requires-clause-kept : goal.built_in-requires-clause-kept
built_in-requires-clause-kept g c = subst AreKept (sym (all g (goal.at.built_in-requires-clause-kept g c).After-as_mut_slice)) (kept_with c.args.self c.args.more.now c.requires.kept)

pub built_in-requires-clause-distinct : goal.built_in-requires-clause-distinct
built_in-requires-clause-distinct g c = subst AreDistinct (sym (all g (goal.at.built_in-requires-clause-distinct g c).After-as_mut_slice)) c.requires.distinct

pub built_in-requires-clause-few : goal.built_in-requires-clause-few
built_in-requires-clause-few g c =
    omega (
      arith,
      c.requires.few,
      ap length (all g (goal.at.built_in-requires-clause-few g c).After-as_mut_slice),
      length-append (walk keep_tag c.args.self) c.args.more.now,
    )

of_items : (g : _) (c : After-built_in g) → c.as_mut_slice.result.now ≡ walk keep_tag c.args.self ++ c.args.more.now → IfOk c.built_in.result (IsBuilt (walk keep_tag c.args.self ++ c.args.more.now))
of_items g c is = subst (λ (xs : List Item). IfOk c.built_in.result (IsBuilt xs)) is c.built_in.ensures.shape

pub returns-clause-shape : goal.returns-clause-shape
returns-clause-shape g c = let k = goal.at.returns-clause-shape g c in of_items g k.After-built_in (all g k.After-as_mut_slice)

pub returns-clause-once : goal.returns-clause-once
returns-clause-once g c =
    let is = all g (goal.at.returns-clause-once g c).After-as_mut_slice in
    on_ok_weaker c.built_in.result (λ e. e ∙ ap (λ (xs : List Item). c.args.steps.now + length xs) is) c.built_in.ensures.once

pub returns-clause-nodes_made : goal.returns-clause-nodes_made
returns-clause-nodes_made g c = omega (arith, c.built_in.ensures.nodes_made, ap length (all g (goal.at.returns-clause-nodes_made g c).After-as_mut_slice))

pub returns-clause-contents : goal.returns-clause-contents
returns-clause-contents g c =
    let xs = walk keep_tag c.args.self ++ c.args.more.now in
    IfOk-weaker c.built_in.result (IsBuilt xs) (λ t. contents t ≡ by_number xs)
    (λ t k. contents-built t xs k (kept_with c.args.self c.args.more.now c.requires.kept) c.requires.distinct)
    (of_items g (goal.at.returns-clause-contents g c).After-built_in
    (all g (goal.at.returns-clause-contents g c).After-as_mut_slice))

pub returns-clause-criteria : goal.returns-clause-criteria
returns-clause-criteria g c =
    let xs = walk keep_tag c.args.self ++ c.args.more.now in
    IfOk-weaker c.built_in.result (IsBuilt xs) (λ t. AllMeetCriteria 10 t)
    (λ t k. built_criteria t xs k (kept_with c.args.self c.args.more.now c.requires.kept))
    (of_items g (goal.at.returns-clause-criteria g c).After-built_in
    (all g (goal.at.returns-clause-criteria g c).After-as_mut_slice))

pub returns-clause-numbers : goal.returns-clause-numbers
returns-clause-numbers g c =
    let xs = walk keep_tag c.args.self ++ c.args.more.now in
    IfOk-weaker c.built_in.result (IsBuilt xs) (λ t. IsPermutation (map (λ (i : Item). i.number) xs) (numbers t))
    (λ t k. built_numbers t xs k) (of_items g (goal.at.returns-clause-numbers g c).After-built_in
    (all g (goal.at.returns-clause-numbers g c).After-as_mut_slice))

pub returns-clause-nodes : goal.returns-clause-nodes
returns-clause-nodes g c =
    let xs = walk keep_tag c.args.self ++ c.args.more.now in
    IfOk-weaker c.built_in.result (IsBuilt xs) (λ t. nodes t ≡ length xs) (λ t k. built_nodes t xs k)
    (of_items g (goal.at.returns-clause-nodes g c).After-built_in
    (all g (goal.at.returns-clause-nodes g c).After-as_mut_slice))

pub returns-clause-levels : goal.returns-clause-levels
returns-clause-levels g c n short =
    let xs = walk keep_tag c.args.self ++ c.args.more.now in
    IfOk-weaker c.built_in.result (IsBuilt xs) (λ t. levels t ≤ n) (λ t k. built_levels t xs n k short)
    (of_items g (goal.at.returns-clause-levels g c).After-built_in
    (all g (goal.at.returns-clause-levels g c).After-as_mut_slice))
