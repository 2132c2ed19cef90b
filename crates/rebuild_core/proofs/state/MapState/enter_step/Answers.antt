use Rattle.std.proofs.Common.{ap, sym}
use Rattle.rebuild_core.specs.Lawful.{Stored}
use Rattle.rebuild_core.proofs.Plans.{next_of}
use Rattle.rebuild_core.proofs.state.MapState.enter_step.Goals as goal

pub list-requires-clause-next : goal.list-requires-clause-next
list-requires-clause-next c = next_of _ _ _ _ (sym c.parts-tree.ensures) (ap (λ (x : Stored). x.state) c.self.view_is) c.requires.lawful
