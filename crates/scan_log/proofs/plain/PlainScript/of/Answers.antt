use Rattle.scan_log.proofs.Plains.{plain_script_is}
use Rattle.scan_log.proofs.plain.PlainScript.of.Goals as goal

pub invariant_of-result : goal.invariant_of-result
invariant_of-result c =
    rw (c.format-format.ensures, c.settings-settings.ensures, c.in_ok-commands.ensures, c.into_commands.ensures.all) (plain_script_is c.args.script c.into_commands.ensures.limits)
