use Rattle.std.proofs.Common.{sym, subst}
use Rattle.scan_log.specs.Scripts.{ScriptAt}
use Rattle.mapper_core.specs.Ended.{CanRun}
use Rattle.mapper_core.proofs.Slices.{plain_ready}
use Rattle.mapper_core.proofs.callers.threads.run_callers.Goals as goal

pub run_plain-requires-clause-ready : goal.run_plain-requires-clause-ready
run_plain-requires-clause-ready g c κs within =
    subst (λ (s : ScriptAt). CanRun g.L.MapName.callers g.L.Ledger.parts g.L.MapName.voxel s c.args.passes.items) (sym c.in_ok-plain.ensures)
    (plain_ready g.L.MapName.callers g.L.Ledger.parts g.L.MapName.voxel c.args.script.now c.args.passes.items c.requires.ready)
