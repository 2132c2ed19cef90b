use Rattle.std.proofs.Common.{◌≡◌, ◌∙◌}
use Rattle.published_map.proofs.Hearing.{caught}
use Rattle.published_map.proofs.locked.Locked.agree.Goals as goal

pub returns-clause-begins : goal.returns-clause-begins
returns-clause-begins g c =
    let shown : c.published.result.now ≡ c.self.inside.state.state.history = c.published.ensures ∙ c.self.invariant.2.published in
    rw (← c.pass.view_is, ← c.self.view_is) (caught _ _ _ _ c.pass.invariant.reader c.read_newest-whole.ensures.begins shown)
