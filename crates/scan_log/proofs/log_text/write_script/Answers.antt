use Rattle.std.proofs.Common.{◌≡◌, refl, ℕ, List, [], ◌++◌}
use Rattle.std.specs.List.{flat_map}
use Rattle.map_items.specs.Sizes.{Sizes}
use Rattle.scan_log.specs.declared.format.Format.{Format}
use Rattle.scan_log.specs.declared.command.Command.{Command}
use Rattle.scan_log.specs.Scripts.{ScriptAt}
use Rattle.scan_log.specs.Spelling.{header_fields}
use Rattle.scan_log.specs.Written.{script_text, written_line, command_text}
use Rattle.scan_log.proofs.WrittenScripts.{script_spelled, script_lines}
use Rattle.scan_log.proofs.log_text.write_script.Goals as goal

-- the header's line and the commands' lines are the script's text
whole : (none first all : List ℕ) (format : Format) (sizes : Sizes) (cs : List Command) (s : ScriptAt)
    → none ≡ [] → format ≡ s.format → sizes ≡ s.sizes → first ≡ none ++ written_line (header_fields format sizes) → cs ≡ s.commands → all ≡ first ++ flat_map (command_text format) cs
    → all ≡ script_text s
whole none first all format sizes cs s a f b c d e = rw (e, c, a, f, b, d) refl

written : (c : goal.In_ok-put_all) → c.put_all.new.out.items ≡ script_text c.args.script.now
written c =
    whole c.new-log.result.items c.put_header.new.out.items c.put_all.new.out.items c.format-format.result c.settings.result.now c.commands.result.now c.args.script.now
    c.new-log.ensures.items c.format-format.ensures c.settings.ensures c.in_ok-put_header.ensures c.commands.ensures.all c.in_ok-put_all.ensures

pub returns-clause-spells : goal.returns-clause-spells
returns-clause-spells c = rw (written c) (script_spelled c.args.script.now c.commands.ensures.limits)

pub returns-clause-lines : goal.returns-clause-lines
returns-clause-lines c = rw (written c) (script_lines c.args.script.now c.commands.ensures.limits)
