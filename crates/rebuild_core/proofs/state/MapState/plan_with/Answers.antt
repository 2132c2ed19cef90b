use Rattle.std.proofs.Common.{◌≡◌, ℕ, None, ap, ◌∙◌, arith, length}
use Rattle.rebuild_core.specs.Lawful.{Stored}
use Rattle.rebuild_parts.specs.Seen.{VersionAt}
use Rattle.rebuild_core.specs.Steps.{PlannedAt}
use Rattle.rebuild_core.proofs.state.MapState.plan_with.Goals as goal

pub returns-clause-planned : goal.returns-clause-planned
returns-clause-planned g c =
    let s = c.args.self.now.state in
    let v = c.in_ok-version.version.value in
    let V : ℕ → ℕ → VersionAt = λ n m. record { tree = c.args.tree; next = n; len = m } in
    let P : ℕ → VersionAt → PlannedAt = λ n w. record { tree = c.args.tree; next = n; version = w; entry = None; logs = c.args.logs.items } in
    let next = ap (λ (x : Stored). x.state.next) c.self.view_is in
    let len : c.len.result ≡ length s.history = omega (arith, c.len.ensures, c.self.inside.history.ok, ap (λ (x : Stored). length x.state.history) c.self.view_is) in
    let shown : v ≡ V s.next (length s.history) = c.in_ok-version.ensures.shown ∙ ap (λ n. V n c.len.result) next ∙ ap (V s.next) len in
    ap (λ n. P n v) next ∙ ap (P s.next) shown
