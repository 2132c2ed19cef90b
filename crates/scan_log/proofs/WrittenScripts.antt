-- What is written spells the script.
use Rattle.std.proofs.Common.{◌≡◌, ◌+◌, true, List, [], ◌∷◌, length, refl, inl, filter, arith}
use Rattle.std.specs.List.{flat_map, AllByRecursion}
use Rattle.scan_log.specs.declared.format.Format.{Format}
use Rattle.scan_log.specs.declared.command.Command.{Command}
use Rattle.scan_log.specs.declared.command.Command.TheVariants.{Change, Near, Nears, Inside, Ball, Lonely, Clusters, Pose, Sync}
use Rattle.scan_log.specs.Lines.{lines_of, is_kept_line, fields_of}
use Rattle.scan_log.specs.Faults.{line_feeds}
use Rattle.scan_log.specs.Scripts.{ScriptAt, IsCommand, IsScript}
use Rattle.scan_log.specs.Spelling.{header_fields, command_fields, LinesSpell, Spells}
use Rattle.scan_log.specs.Written.{joined_fields, command_text, script_text}
use Rattle.scan_log.proofs.WrittenLines.{fields_of-joined, lines_of-written_line, line_feeds-written_line}
use Rattle.scan_log.proofs.WrittenFields.{commands_fields, headers_fields}

-- a command's line is kept
command_is_kept : (format : Format) (c : Command) → is_kept_line (joined_fields (command_fields format c)) ≡ true
command_is_kept format (Change caller u) = refl
command_is_kept format (Near caller k p within) = refl
command_is_kept format (Nears caller k ps) = refl
command_is_kept format (Inside caller k b) = refl
command_is_kept format (Ball caller k r p) = refl
command_is_kept format (Lonely caller k r) = refl
command_is_kept format (Clusters caller k r) = refl
command_is_kept format (Pose caller rules p) = refl
command_is_kept format Sync = refl

-- and its fields are the command's
command_is_spelled : (format : Format) (c : Command) → IsCommand format c → fields_of (joined_fields (command_fields format c)) ≡ command_fields format c
command_is_spelled format (Change caller u) h = fields_of-joined _ _ (commands_fields format (Change caller u) h)
command_is_spelled format (Near caller k p within) h = fields_of-joined _ _ (commands_fields format (Near caller k p within) h)
command_is_spelled format (Nears caller k ps) h = fields_of-joined _ _ (commands_fields format (Nears caller k ps) h)
command_is_spelled format (Inside caller k b) h = fields_of-joined _ _ (commands_fields format (Inside caller k b) h)
command_is_spelled format (Ball caller k r p) h = fields_of-joined _ _ (commands_fields format (Ball caller k r p) h)
command_is_spelled format (Lonely caller k r) h = fields_of-joined _ _ (commands_fields format (Lonely caller k r) h)
command_is_spelled format (Clusters caller k r) h = fields_of-joined _ _ (commands_fields format (Clusters caller k r) h)
command_is_spelled format (Pose caller rules p) h = fields_of-joined _ _ (commands_fields format (Pose caller rules p) h)
command_is_spelled format Sync h = fields_of-joined _ _ (commands_fields format Sync h)

commands_spelled : (format : Format) (cs : List Command) → AllByRecursion (IsCommand format) cs → LinesSpell format (filter is_kept_line (lines_of (flat_map (command_text format) cs))) cs
commands_spelled format [] h = tt
commands_spelled format (c ∷ cs) h =
    rw (lines_of-written_line (command_fields format c) (flat_map (command_text format) cs) (commands_fields format c h.0), command_is_kept format c)
    (inl (command_is_spelled format c h.0), commands_spelled format cs h.1)

-- what is written spells the script
pub script_spelled : (s : ScriptAt) → IsScript s → Spells (script_text s) s
script_spelled s h =
    let fields = headers_fields s.format s.sizes h.sizes in (
      rw (lines_of-written_line (header_fields s.format s.sizes) (flat_map (command_text s.format) s.commands) fields)
          (fields_of-joined _ _ fields, commands_spelled s.format s.commands h.each),
      h,
    )

commands_lines : (format : Format) (cs : List Command) → AllByRecursion (IsCommand format) cs → line_feeds (flat_map (command_text format) cs) ≡ length cs
commands_lines format [] h = refl
commands_lines format (c ∷ cs) h = omega (arith, line_feeds-written_line (command_fields format c) (flat_map (command_text format) cs) (commands_fields format c h.0), commands_lines format cs h.1)

-- one line for the header, and one for each command
pub script_lines : (s : ScriptAt) → IsScript s → line_feeds (script_text s) ≡ length s.commands + 1
script_lines s h =
    omega (
      arith,
      line_feeds-written_line (header_fields s.format s.sizes) (flat_map (command_text s.format) s.commands)
          (headers_fields s.format s.sizes h.sizes),
      commands_lines s.format s.commands h.each,
    )
