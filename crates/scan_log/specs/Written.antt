-- How a script is written: in the one way that each command has.
use Rattle.std.specs.Prelude.{ℕ, List, [], ◌∷◌, ◌++◌}
use Rattle.std.specs.List.{flat_map}
use Rattle.point_geom.specs.Place.{Bounds}
use Rattle.point_geom.specs.declared.cuboid.Corner.{Corner}
use Rattle.scan_log.specs.declared.format.Format.{Format}
use Rattle.scan_log.specs.declared.command.Command.{Command}
use Rattle.scan_log.specs.Scripts.{ScriptAt}
use Rattle.scan_log.specs.Spelling.{header_fields, corner_fields, box_fields, command_fields}
use Rattle.scan_log.specs.Transcript.{all_spaced}

-- fields with one space between them
abbrev pub joined_fields : List (List ℕ) → List ℕ
joined_fields [] = []
joined_fields (field ∷ fields) = field ++ all_spaced fields

-- a line of these fields, with its line feed
abbrev pub written_line : List (List ℕ) → List ℕ
written_line fields = joined_fields fields ++ 10 ∷ []

-- the numbers of a corner, each after a space
abbrev pub corner_text : Corner → List ℕ
corner_text c = all_spaced (corner_fields c)

-- the numbers of a box, each after a space
abbrev pub cuboid_text : Bounds → List ℕ
cuboid_text c = all_spaced (box_fields c)

-- a command's line
abbrev pub command_text : Format → Command → List ℕ
command_text format c = written_line (command_fields format c)

-- the header's line, and a line for each command
abbrev pub script_text : ScriptAt → List ℕ
script_text s = written_line (header_fields s.format s.sizes) ++ flat_map (command_text s.format) s.commands
