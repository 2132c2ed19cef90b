use Rattle.std.proofs.Common.{◌+◌, ◌++◌, ap, sym, ◌∙◌, map, append_assoc, arith}
use Rattle.std.specs.List.{flat_map}
use Rattle.scan_log.specs.Written.{command_text}
use Rattle.scan_log.specs.declared.command.Command.TheVariants.{Change}
use Rattle.scan_log.specs.declared.format.Format.TheVariants.{Two}
use Rattle.history_log.specs.Lines.{first_parts, part_of}
use Rattle.history_log.proofs.Scripts.{text_more}
use Rattle.history_log.proofs.putting.put_lines.Goals as goal

pub loop-number-preserved : goal.loop-number-preserved
loop-number-preserved c =
    let e = c.args.entry.now in
    let number = c.loop-number.number in
    let line = command_text Two (Change e.caller (part_of e.update number)) in
    c.in_ok-put_line.ensures
    ∙ ap (λ x. x ++ line) c.loop-number.invariant
    ∙ append_assoc c.args.bytes.now.items (flat_map (command_text Two) (map (λ u. Change e.caller u) (first_parts number e.update))) line
    ∙ ap (λ x. c.args.bytes.now.items ++ x) (sym (text_more e.caller number (number + 1) e.update (omega arith)))
