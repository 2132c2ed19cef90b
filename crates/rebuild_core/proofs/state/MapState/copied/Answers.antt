use Rattle.std.proofs.Common.{ap, ◌∙◌}
use Rattle.kd_update.specs.Detached.{watches_of}
use Rattle.rebuild_core.specs.Lawful.{Stored}
use Rattle.rebuild_core.specs.StateView.{state_of}
use Rattle.rebuild_core.proofs.Plans.{parts_few}
use Rattle.rebuild_core.proofs.state.MapState.copied.Goals as goal

pub watched-requires : goal.watched-requires
watched-requires g c = rw c.as_slice.ensures.value (parts_few (state_of c.self.inside) c.self.invariant.0)

pub returns-clause-tree : goal.returns-clause-tree
returns-clause-tree g c = c.in_ok-tree.ensures.shape ∙ ap (λ (x : Stored). x.state.tree) c.self.view_is

pub returns-clause-watches : goal.returns-clause-watches
returns-clause-watches g c = let seen = rw c.as_slice.ensures.value at c.in_ok-watches.ensures in seen ∙ ap (λ (x : Stored). watches_of x.state.parts) c.self.view_is
