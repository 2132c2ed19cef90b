use Rattle.scan_log.proofs.TakesCommand.{command_takes}
use Rattle.scan_log.proofs.Wider.{command_widens}
use Rattle.scan_log.proofs.commands.line_command.Goals as goal

pub hits-requires : goal.hits-requires
hits-requires c =
    command_widens c.args.format c.in_ok-command.command (command_takes c.args.format c.args.room c.new.result c.in_ok-command.command c.in_ok-command.ensures).limits
