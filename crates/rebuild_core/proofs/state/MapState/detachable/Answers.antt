use Rattle.std.proofs.Common.{◌≡◌, List, ap, refl, subst, None, Option}
use Rattle.std.specs.Prelude.{IfSome}
use Rattle.kd_tree.specs.Contents.{contents}
use Rattle.kd_tree.specs.Parts.{at}
use Rattle.kd_tree.specs.declared.path.Side.{Side}
use Rattle.rebuild_core.specs.Detach.{IsDetachedAt}
use Rattle.rebuild_core.specs.Lawful.{IsLawful, StateAt, Stored}
use Rattle.kd_update.specs.Detached.{part_in}
use Rattle.rebuild_core.specs.StateView.{state_of}
use Rattle.map_update.proofs.Detached.{contents_more}
use Rattle.rebuild_core.proofs.Detaching.{detach_items, detach_large}
use Rattle.rebuild_core.proofs.state.MapState.detachable.Goals as goal

pub returns-in_default-subtree_at-clause-none : goal.returns-in_default-subtree_at-clause-none
returns-in_default-subtree_at-clause-none c =
    let now = c.args.self.now.state in
    let is : state_of c.self.inside ≡ now = ap (λ (x : Stored). x.state) c.self.view_is in
    let chosen = subst (λ (o : Option (List Side)). IfSome o (IsDetachedAt (part_in c.args.slot now.parts) now)) c.in-Some.is c.in_ok-path.ensures.some in
    let some = (detach_large c.args.slot now c.in-Some.path (subst IsLawful is c.self.invariant.0) chosen).there in
    let none = subst (λ (x : StateAt). at c.in-Some.path x.tree ≡ None) is (c.in_default-subtree_at.ensures.none.0 refl) in
    absurd cc

pub of-requires : goal.of-requires
of-requires c =
    let s = state_of c.self.inside in
    let node = c.in-Some-subtree_at.node.now in
    contents_more 0 s.next 4194304 (contents node) c.self.invariant.0.few (detach_items s c.in-Some.path node c.self.invariant.0 c.size-size.ensures.sound c.in-Some-subtree_at.ensures.some)
