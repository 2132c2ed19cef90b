use Rattle.std.proofs.Common.{◌≡◌, ℕ, ◌+◌, ◌-◌, ◌<◌, ◌≤◌, ap, ◌∙◌, arith, length, slice_index_or, subst, sym}
use Rattle.map_items.specs.Fold.{points_in}
use Rattle.rebuild_core.specs.Lawful.{StateAt, Stored}
use Rattle.rebuild_parts.specs.Seen.{VersionAt}
use Rattle.rebuild_core.specs.StateView.{state_of}
use Rattle.rebuild_core.specs.Steps.{IsPlanDraft}
use Rattle.rebuild_core.proofs.Histories.{entry_made}
use Rattle.rebuild_core.proofs.Plans.{planned}
use Rattle.rebuild_core.proofs.state.MapState.plan_of.Goals as goal

pub returns-clause-planned : goal.returns-clause-planned
returns-clause-planned g c =
    let s = state_of c.self.inside in
    let z = c.args.self.now.state in
    let u = c.args.update in
    let d = c.args.draft in
    let lawful = c.self.invariant.0 in
    let room = c.requires.room in
    let is : s ≡ z = ap (λ (x : Stored). x.state) c.self.view_is in
    let asked : c.args.next ≡ s.next + points_in u = c.requires.next ∙ ap (λ (x : StateAt). x.next + points_in u) (sym is) in
    let small : length s.history < 1048576 = subst (λ (x : StateAt). length x.history < 1048576) (sym is) room.updates in
    let few : c.args.next ≤ 4194304 = omega (arith, c.requires.next, room.points) in
    let V : ℕ → VersionAt = λ n. record { tree = d.tree; next = c.args.next; len = n + 1 } in
    let shown : c.in_ok-version.version.value ≡ V (length s.history) = c.in_ok-version.ensures.shown ∙ ap V (omega (arith, c.len-len.ensures, c.self.inside.history.ok)) in
    let by =
    entry_made c.args.caller (slice_index_or c.self.inside.made (c.args.caller - 1) 0) (c.args.caller - 1 + 1) u
    s.history
    (c.self.invariant.1.each (c.args.caller - 1) 0 (omega (arith, c.requires.caller_to, c.requires.caller_from)))
    (omega (arith, c.requires.caller_from)) in
    let made : IsPlanDraft u s d = subst (λ (x : StateAt). IsPlanDraft u x d) (sym is) c.requires.plan_draft in
    planned c.args.caller u s z d c.args.next c.in_ok-version.version.value _ lawful c.requires.caller_from c.requires.caller_to small few asked c.size-size.ensures.sound made shown by is
