use Rattle.std.proofs.Common.{◌≡◌, ◌∷◌, ◌≤◌, List, ap, sym, ◌∙◌, refl, subst, arith}
use Rattle.kd_tree.specs.Shape.{levels, nodes, numbers}
use Rattle.kd_tree.specs.Apart.{IsClear}
use Rattle.kd_tree.specs.declared.path.Side.{Side}
use Rattle.kd_mark.specs.Refresh.{AreAmong}
use Rattle.kd_mark.specs.Several.{AreLargeAt, AreSameAt, IsBalancedClear}
use Rattle.kd_mark.specs.Watches.{paths_in}
use Rattle.kd_update.proofs.StandsFor.{replaced_nodes}
use Rattle.kd_mark.proofs.Update.{criteria_balanced}
use Rattle.map_update.proofs.Working.{among_part, at_numbers, draft_without, levels_kept, no_larger, without_of}
use Rattle.map_update.proofs.draft.Draft.without.Goals as goal

pub returns-in_default-clause-draft : goal.returns-in_default-clause-draft
returns-in_default-clause-draft g c = λ next last ps d.
    let k = without_of c.args.large next last ps c.args.self c.args.place c.remove-path.result c.remove-path.new.self d c.requires.place c.remove-path.ensures.value c.remove-path.ensures.items in
    let none = c.in_default.ensures.none.0 refl in
    let some = k.there.there in
    absurd cc

pub replaced-requires-clause-there : goal.replaced-requires-clause-there
replaced-requires-clause-there g c =
    let r = c.requires.draft in
    let k =
    without_of c.args.large r.0 r.1.0 r.1.1 c.args.self c.args.place c.remove-path.result c.remove-path.new.self
    r.1.2 c.requires.place c.remove-path.ensures.value c.remove-path.ensures.items in
    let others : c.as_slice-others.result.now ≡ paths_in c.remove-path.new.self = c.as_slice-others.ensures.value ∙ c.in_ok-others.ensures ∙ ap paths_in c.as_slice.ensures.value in
    subst (λ (qs : List (List Side)). AreLargeAt c.args.large qs c.args.self.tree) (sym others) k.others

pub replaced-requires-clause-apart : goal.replaced-requires-clause-apart
replaced-requires-clause-apart g c =
    let r = c.requires.draft in
    let k =
    without_of c.args.large r.0 r.1.0 r.1.1 c.args.self c.args.place c.remove-path.result c.remove-path.new.self
    r.1.2 c.requires.place c.remove-path.ensures.value c.remove-path.ensures.items in
    let others : c.as_slice-others.result.now ≡ paths_in c.remove-path.new.self = c.as_slice-others.ensures.value ∙ c.in_ok-others.ensures ∙ ap paths_in c.as_slice.ensures.value in
    subst (IsClear c.remove-path.result.path) (sym others) k.clear

pub returns-clause-draft : goal.returns-clause-draft
returns-clause-draft g c = λ next last ps d.
    let t = c.args.self.tree in
    let u = c.in_ok-tree.field-0.tree in
    let node = c.in-Some.node.now in
    let with = c.in_ok-with.with in
    let ws = c.remove-path.new.self in
    let k = without_of c.args.large next last ps c.args.self c.args.place c.remove-path.result ws d c.requires.place c.remove-path.ensures.value c.remove-path.ensures.items in
    let others : c.as_slice-others.result.now ≡ paths_in ws = c.as_slice-others.ensures.value ∙ c.in_ok-others.ensures ∙ ap paths_in c.as_slice.ensures.value in
    let of_node : AreAmong (numbers with) (numbers node) = c.in_ok-with.ensures.numbers in
    let among = among_part (numbers u) (numbers with) (numbers node) (numbers t) c.in_ok-tree.ensures.numbers of_node (at_numbers c.remove-path.result.path t node c.in-Some.ensures.some) in
    let outside = subst (λ (qs : List (List Side)). IsBalancedClear c.args.large (c.remove-path.result.path ∷ qs) t) (sym others) k.outside in
    let balanced =
    subst (λ (qs : List (List Side)). IsBalancedClear c.args.large qs u) others
    (c.in_ok-tree.ensures.balance outside (criteria_balanced c.args.large with c.in_ok-with.ensures.criteria)) in
    let room =
    no_larger c.remove-path.result.path with t node c.in-Some.ensures.some c.in_ok-with.ensures.low
    c.in_ok-with.ensures.few (omega (arith, c.levels-levels.ensures.value, c.levels-levels.ensures.low))
    (omega (arith, c.size-size.ensures.value, c.size-size.ensures.few)) in
    let same = subst (λ (qs : List (List Side)). AreSameAt qs u t) others (c.in_ok-tree.ensures.others (c.in_ok-tree.ensures.anew.1 room)) in
    draft_without c.args.large next last ps c.args.self c.remove-path.result ws u d k same balanced among

pub returns-clause-low : goal.returns-clause-low
returns-clause-low g c =
    let t = c.args.self.tree in
    let node = c.in-Some.node.now in
    let with = c.in_ok-with.with in
    let low : levels with ≤ levels node = c.in_ok-with.ensures.low in
    omega (arith, c.in_ok-tree.ensures.size.low, levels_kept c.remove-path.result.path with t node c.in-Some.ensures.some low)

pub returns-clause-few : goal.returns-clause-few
returns-clause-few g c =
    let t = c.args.self.tree in
    let node = c.in-Some.node.now in
    let with = c.in_ok-with.with in
    let few : nodes with ≤ nodes node = c.in_ok-with.ensures.few in
    omega (arith, c.in_ok-tree.ensures.size.few, replaced_nodes c.remove-path.result.path with t node c.in-Some.ensures.some, few)
