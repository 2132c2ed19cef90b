use Rattle.std.proofs.Common.{List, subst}
use Rattle.std.proofs.lemmas.List.Elements.{Contains-append_right}
use Rattle.kd_tree.specs.Shape.{numbers}
use Rattle.kd_tree.specs.declared.path.Side.{Side}
use Rattle.kd_update.specs.Replace.{IsReplaced}
use Rattle.kd_mark.proofs.Several.{balanced_outside, large_all_same}
use Rattle.kd_update.proofs.StandsFor.{anew_no_larger, same_beside}
use Rattle.kd_mark.proofs.Update.{criteria_balanced}
use Rattle.kd_update.proofs.replacing.replace.replaced.Goals as goal

pub returns-then-not-has_room-clause-numbers : goal.returns-then-not-has_room-clause-numbers
returns-then-not-has_room-clause-numbers g c = λ n k. Contains-append_right (numbers c.args.with) (numbers c.args.tree) n (c.in_ok-tree.ensures.numbers n k)

pub returns-then-not-has_room-clause-size : goal.returns-then-not-has_room-clause-size
returns-then-not-has_room-clause-size g c =
    anew_no_larger c.args.path.now c.args.tree c.args.with c.in_ok-tree.tree c.size-size.ensures.sound c.requires.stands
    (λ k. let e = c.has_room.ensures.1 k in absurd (cc)) c.in_ok-tree.ensures.nodes c.in_ok-tree.ensures.levels

pub returns-then-not-has_room-clause-balance : goal.returns-then-not-has_room-clause-balance
returns-then-not-has_room-clause-balance g c =
    λ outside balanced. balanced_outside c.args.large c.args.others.now c.in_ok-tree.tree
    (criteria_balanced c.args.large c.in_ok-tree.tree c.in_ok-tree.ensures.criteria)

pub returns-clause-others : goal.returns-clause-others
returns-clause-others g c =
    let u = subst (λ (p : List Side). IsReplaced c.args.large p c.args.tree c.args.with c.in_ok-tree-2.tree) c.as_slice.ensures.value c.in_ok-tree-2.ensures.replaced in
    λ stays. same_beside c.args.large c.args.path.now c.args.others.now c.args.tree c.args.with c.in_ok-tree-2.tree u c.requires.apart c.requires.there

pub returns-clause-there : goal.returns-clause-there
returns-clause-there g c =
    let u = subst (λ (p : List Side). IsReplaced c.args.large p c.args.tree c.args.with c.in_ok-tree-2.tree) c.as_slice.ensures.value c.in_ok-tree-2.ensures.replaced in
    λ stays. large_all_same c.args.large c.args.others.now c.args.tree c.in_ok-tree-2.tree
    (same_beside c.args.large c.args.path.now c.args.others.now c.args.tree c.args.with c.in_ok-tree-2.tree u
    c.requires.apart c.requires.there) c.requires.there
