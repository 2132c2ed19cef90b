use Rattle.std.proofs.Common.{sym, subst, List}
use Rattle.std.specs.List.{AllByRecursion}
use Rattle.scan_log.specs.declared.command.Command.{Command}
use Rattle.scan_log.specs.declared.format.Format.TheVariants.{Two}
use Rattle.mapper_core.specs.Meetings.{HasCaller}
use Rattle.mapper_tests.proofs.Eight.{all_own}
use Rattle.mapper_tests.proofs.tests.ended.ended.Goals as goal

pub ended_on-requires-clause-named : goal.ended_on-requires-clause-named
ended_on-requires-clause-named g c κs within =
    let eight = subst (λ (cs : List Command). AllByRecursion (HasCaller 8) cs) c.commands-commands.ensures.all (all_own Two _ c.commands-commands.ensures.wide) in
    subst (λ n. AllByRecursion (HasCaller n) c.args.script.now.commands) (sym c.in_ok-opened.ensures.callers) eight
