use Rattle.std.proofs.Common.{◌≡◌, ◌++◌, map}
use Rattle.std.specs.List.{flat_map}
use Rattle.scan_log.specs.Written.{command_text}
use Rattle.scan_log.specs.declared.command.Command.TheVariants.{Change}
use Rattle.scan_log.specs.declared.format.Format.TheVariants.{Two}
use Rattle.history_log.specs.Lines.{first_parts}
use Rattle.history_log.proofs.putting.put_lines.Given as goal

abbrev pub invariant-loop-number : goal.invariant-loop-number
invariant-loop-number l = l.bytes.items ≡ l.fn.bytes.items ++ flat_map (command_text Two) (map (λ u. Change l.entry.caller u) (first_parts l.number l.entry.update))
