use Rattle.std.proofs.Common.{◌≡◌, ◌<◌, List, [], ◌∷◌, ◌++◌, true, false, ap, ◌∙◌, sym, subst}
use Rattle.std.specs.Prelude.{All, ◌↔◌}
use Rattle.std.proofs.lemmas.Result.{IfOk-weaker}
use Rattle.map_items.specs.Ops.{replay}
use Rattle.kd_tree.specs.Shape.{Shape, numbers}
use Rattle.kd_tree.specs.Contents.{contents}
use Rattle.kd_tree.specs.Apart.{IsClear}
use Rattle.kd_tree.specs.declared.path.Side.{Side}
use Rattle.kd_mark.specs.Refresh.{AreAmong}
use Rattle.kd_update.specs.Replace.{HasRoomAt, StandsFor}
use Rattle.kd_mark.specs.Several.{AreLargeAt, AreSameAt, IsBalancedClear}
use Rattle.rebuild_core.specs.Known.{undone}
use Rattle.rebuild_core.specs.Swap.{IsReplayedOnto, IsSwapPlan}
use Rattle.rebuild_core.specs.Lawful.{IsLawful, Stored}
use Rattle.rebuild_parts.specs.Logs.{planned_parts}
use Rattle.kd_update.specs.Detached.{PartAt, paths, without}
use Rattle.rebuild_core.specs.Steps.{PlannedAt, plan_with}
use Rattle.rebuild_parts.proofs.OtherParts.{part_among}
use Rattle.rebuild_core.proofs.Swapping.{below_both, swap_among, swap_below, swap_caught, swap_clear, swap_fit, swap_outside, swap_stands, swap_there, swaps}
use Rattle.rebuild_core.proofs.state.MapState.swapped.Goals as goal

pub replayed_onto-requires-clause-fit : goal.replayed_onto-requires-clause-fit
replayed_onto-requires-clause-fit g c =
    let lawful = subst (λ (x : Stored). IsLawful x.state) c.self.view_is c.self.invariant.0 in
    swap_fit c.args.self.now.state c.requires.of.0 c.args.part.now c.args.tree c.args.ops.now lawful c.requires.of.1

pub replaced-requires-clause-stands : goal.replaced-requires-clause-stands
replaced-requires-clause-stands g c =
    let s = c.args.self.now.state in
    let b = c.requires.of.0 in
    let p = c.args.part.now in
    let lawful = subst (λ (x : Stored). IsLawful x.state) c.self.view_is c.self.invariant.0 in
    let tree : c.in_ok-tree.tree ≡ s.tree = c.in_ok-tree.ensures.shape ∙ ap (λ (x : Stored). x.state.tree) c.self.view_is in
    let path = ap (λ (x : PartAt). x.path) c.part.view_is in
    let r = c.requires.of.1 in
    let held = c.in_ok-with.ensures.contents ∙ ap (λ (t : Shape). replay (contents t) c.args.ops.now) (sym r.tree) ∙ ap (replay (contents b.tree)) r.undone in
    subst (λ (q : List Side). StandsFor q c.in_ok-tree.tree c.in_ok-with.with) (sym path)
    (subst (λ (t : Shape). StandsFor p.path t c.in_ok-with.with) (sym tree)
    (swap_stands s b p c.in_ok-with.with lawful r.lawful r.of held))

pub replaced-requires-clause-there : goal.replaced-requires-clause-there
replaced-requires-clause-there g c =
    let s = c.args.self.now.state in
    let b = c.requires.of.0 in
    let p = c.args.part.now in
    let lawful = subst (λ (x : Stored). IsLawful x.state) c.self.view_is c.self.invariant.0 in
    let tree : c.in_ok-tree.tree ≡ s.tree = c.in_ok-tree.ensures.shape ∙ ap (λ (x : Stored). x.state.tree) c.self.view_is in
    let path = ap (λ (x : PartAt). x.path) c.part.view_is in
    let large = c.large-large.ensures.value ∙ ap (λ (x : Stored). x.state.settings.large) c.self.view_is in
    let parts = c.as_slice-parts.ensures.value ∙ ap (λ (x : Stored). x.state.parts) c.self.view_is in
    let ticket = ap (λ (x : PartAt). x.ticket) c.part.view_is ∙ sym (part_among b.ticket s.parts p c.requires.of.1.of.found).is in
    let others : c.as_slice-others.result.now ≡ paths (without b.ticket s.parts) =
    c.as_slice-others.ensures.value ∙ c.in_ok-others.ensures ∙ ap (λ n. paths (without n c.as_slice-parts.result.now)) ticket ∙ ap (λ (ps : List PartAt). paths (without b.ticket ps)) parts in
    let at = subst (λ (t : Shape). AreLargeAt s.settings.large (paths (without b.ticket s.parts)) t) (sym tree) (swap_there s b p lawful c.requires.of.1.of) in
    subst (λ n. AreLargeAt n c.as_slice-others.result.now c.in_ok-tree.tree) (sym large) (subst (λ (qs : List (List Side)). AreLargeAt s.settings.large qs c.in_ok-tree.tree) (sym others) at)

pub replaced-requires-clause-apart : goal.replaced-requires-clause-apart
replaced-requires-clause-apart g c =
    let s = c.args.self.now.state in
    let b = c.requires.of.0 in
    let p = c.args.part.now in
    let lawful = subst (λ (x : Stored). IsLawful x.state) c.self.view_is c.self.invariant.0 in
    let tree : c.in_ok-tree.tree ≡ s.tree = c.in_ok-tree.ensures.shape ∙ ap (λ (x : Stored). x.state.tree) c.self.view_is in
    let path = ap (λ (x : PartAt). x.path) c.part.view_is in
    let large = c.large-large.ensures.value ∙ ap (λ (x : Stored). x.state.settings.large) c.self.view_is in
    let parts = c.as_slice-parts.ensures.value ∙ ap (λ (x : Stored). x.state.parts) c.self.view_is in
    let ticket = ap (λ (x : PartAt). x.ticket) c.part.view_is ∙ sym (part_among b.ticket s.parts p c.requires.of.1.of.found).is in
    let others : c.as_slice-others.result.now ≡ paths (without b.ticket s.parts) =
    c.as_slice-others.ensures.value ∙ c.in_ok-others.ensures ∙ ap (λ n. paths (without n c.as_slice-parts.result.now)) ticket ∙ ap (λ (ps : List PartAt). paths (without b.ticket ps)) parts in
    subst (λ (q : List Side). IsClear q c.as_slice-others.result.now) (sym path) (subst (IsClear p.path) (sym others) (swap_clear s b p lawful c.requires.of.1.of))

pub returns-clause-planned : goal.returns-clause-planned
returns-clause-planned g c = λ b r.
    let s = c.args.self.now.state in
    let p = c.args.part.now in
    let lawful = subst (λ (x : Stored). IsLawful x.state) c.self.view_is c.self.invariant.0 in
    let tree : c.in_ok-tree.tree ≡ s.tree = c.in_ok-tree.ensures.shape ∙ ap (λ (x : Stored). x.state.tree) c.self.view_is in
    let path = ap (λ (x : PartAt). x.path) c.part.view_is in
    let large = c.large-large.ensures.value ∙ ap (λ (x : Stored). x.state.settings.large) c.self.view_is in
    let parts = c.as_slice-parts.ensures.value ∙ ap (λ (x : Stored). x.state.parts) c.self.view_is in
    let ticket = ap (λ (x : PartAt). x.ticket) c.part.view_is ∙ sym (part_among b.ticket s.parts p r.of.found).is in
    let others : c.as_slice-others.result.now ≡ paths (without b.ticket s.parts) =
    c.as_slice-others.ensures.value ∙ c.in_ok-others.ensures ∙ ap (λ n. paths (without n c.as_slice-parts.result.now)) ticket ∙ ap (λ (ps : List PartAt). paths (without b.ticket ps)) parts in
    let with = c.in_ok-with.with in
    let t = c.in_ok-tree-2.field-0.tree in
    let anew = c.in_ok-tree-2.field-0.anew in
    let e = c.in_ok-with.ensures in
    let mine : IsReplayedOnto c.large-large.result (record b { tree = c.args.tree }) c.args.ops.now with = record { held = e.contents; low = e.low; few = e.few; same = e.same } in
    let caught : IsReplayedOnto s.settings.large b (undone b p) with =
    swap_caught s.settings.large b p s.parts c.args.tree with c.args.ops.now r
    (subst (λ n. IsReplayedOnto n (record b { tree = c.args.tree }) c.args.ops.now with) large mine) in
    let among = swap_among b p s.parts c.args.tree with c.args.ops.now r e.numbers in
    let below : All (λ n. n < s.next) (numbers with) = swap_below s b p with lawful r.lawful r.of among in
    let from : AreAmong (numbers t) (numbers with ++ numbers s.tree) = subst (λ (x : Shape). AreAmong (numbers t) (numbers with ++ numbers x)) tree c.in_ok-tree-2.ensures.numbers in
    let held : contents t ≡ contents s.tree = c.in_ok-tree-2.ensures.contents ∙ ap contents tree in
    let room : (anew ≡ false) ↔ HasRoomAt p.path with s.tree =
    subst (λ (q : List Side). (anew ≡ false) ↔ HasRoomAt q with s.tree) path (subst (λ (x : Shape). (anew ≡ false) ↔ HasRoomAt c.part.inside.path with x) tree c.in_ok-tree-2.ensures.anew) in
    let outside = swap_outside s b p lawful r.of in
    let outside_here : IsBalancedClear c.large-large.result (c.part.inside.path ∷ c.as_slice-others.result.now) c.in_ok-tree.tree =
    subst (λ n. IsBalancedClear n (c.part.inside.path ∷ c.as_slice-others.result.now) c.in_ok-tree.tree) (sym large)
    (subst (λ (q : List Side). IsBalancedClear s.settings.large (q ∷ c.as_slice-others.result.now) c.in_ok-tree.tree) (sym path)
    (subst (λ (qs : List (List Side)). IsBalancedClear s.settings.large (p.path ∷ qs) c.in_ok-tree.tree) (sym others)
    (subst (λ (x : Shape). IsBalancedClear s.settings.large (p.path ∷ paths (without b.ticket s.parts)) x)
    (sym tree) outside))) in
    let balanced : IsBalancedClear s.settings.large (paths (without b.ticket s.parts)) t =
    subst (λ n. IsBalancedClear n (paths (without b.ticket s.parts)) t) large (subst
    (λ (qs : List (List Side)). IsBalancedClear c.large-large.result qs t) others
    (c.in_ok-tree-2.ensures.balance outside_here c.in_ok-with.ensures.balance)) in
    let same : anew ≡ false → AreSameAt (paths (without b.ticket s.parts)) t s.tree =
    λ e. subst (λ (qs : List (List Side)). AreSameAt qs t s.tree) others (subst (λ (x : Shape). AreSameAt c.as_slice-others.result.now t x) tree (c.in_ok-tree-2.ensures.others e)) in
    let logs = c.in_ok-logs.logs.items in
    let none : anew ≡ true → planned_parts logs s.parts ≡ [] = λ e. ap (planned_parts logs) (sym parts) ∙ c.in_ok-logs.ensures.all e in
    let one : anew ≡ false → planned_parts logs s.parts ≡ without b.ticket s.parts =
    λ e. ap (planned_parts logs) (sym parts) ∙ c.in_ok-logs.ensures.one e ∙ ap (λ n. without n c.as_slice-parts.result.now) ticket ∙ ap (without b.ticket) parts in
    let plan : IsSwapPlan b s (plan_with t logs s) =
    swaps s b p with t anew logs lawful r.of c.size-size.ensures.sound caught held
    (below_both s.next (numbers t) (numbers with) (numbers s.tree) from below lawful.below) room
    c.in_ok-tree-2.ensures.criteria same balanced none one in
    IfOk-weaker c.plan_with.result (λ (q : PlannedAt). q ≡ plan_with t logs s) (IsSwapPlan b s) (λ q is. subst (IsSwapPlan b s) (sym is) plan) c.plan_with.ensures.planned
