-- How a script is spelled in a log.
use Rattle.std.specs.Prelude.{ℕ, ◌≡◌, ◌⊎◌, List, [], ◌∷◌, ◌++◌, map, codes, decimal}
use Rattle.std.specs.List.{flat_map}
use Rattle.std.specs.Fmt.{signed_decimal}
use Rattle.std.specs.declared.option.Option.{Option}
use Rattle.std.specs.declared.option.Option.TheVariants.{None, Some}
use Rattle.point_geom.specs.Place.{Place, Bounds}
use Rattle.point_geom.specs.Boxes.{unit_box}
use Rattle.point_geom.specs.declared.cuboid.Corner.{Corner}
use Rattle.map_items.specs.Sizes.{Sizes}
use Rattle.map_items.specs.declared.update.Update.{Update}
use Rattle.map_items.specs.declared.update.Update.TheVariants.{Add, Thin, Delete, Suspend, Restore, Expire}
use Rattle.scan_log.specs.declared.format.Format.{Format}
use Rattle.scan_log.specs.declared.format.Format.TheVariants.{One, Two}
use Rattle.scan_log.specs.Formats.{version_field}
use Rattle.scan_log.specs.declared.command.Command.{Command}
use Rattle.scan_log.specs.declared.command.Command.TheVariants.{Change, Near, Nears, Inside, Ball, Lonely, Clusters, Pose, Sync}
use Rattle.scan_log.specs.Lines.{kept_lines, fields_of}
use Rattle.scan_log.specs.Scripts.{ScriptAt, ArePoints, IsScript}

-- ikdmap F voxel L large N
abbrev pub header_fields : Format → Sizes → List (List ℕ)
header_fields format s =
    codes "ikdmap" ∷ version_field format ∷ codes "voxel" ∷ decimal s.voxel ∷ codes "large" ∷ decimal s.large ∷ []

-- x y z
abbrev pub point_fields : Place → List (List ℕ)
point_fields p = signed_decimal p.x ∷ signed_decimal p.y ∷ signed_decimal p.z ∷ []

-- x y z, and the intensity where the version has any
abbrev pub scanned_fields : Format → Place → List (List ℕ)
scanned_fields One p = point_fields p
scanned_fields Two p = signed_decimal p.x ∷ signed_decimal p.y ∷ signed_decimal p.z ∷ decimal p.intensity ∷ []

-- x y z
abbrev pub corner_fields : Corner → List (List ℕ)
corner_fields c = signed_decimal c.x ∷ signed_decimal c.y ∷ signed_decimal c.z ∷ []

-- lo's x y z, then hi's
abbrev pub box_fields : Bounds → List (List ℕ)
box_fields c = corner_fields c.lo ++ corner_fields c.hi

-- the word of an update, and its arguments
abbrev pub update_fields : Format → Update → List (List ℕ)
update_fields format (Add ps) = codes "add" ∷ flat_map (scanned_fields format) ps
update_fields format (Thin ps) = codes "thin" ∷ flat_map (scanned_fields format) ps
update_fields format (Delete cs) = codes "delete" ∷ flat_map box_fields cs
update_fields format (Suspend cs) = codes "suspend" ∷ flat_map box_fields cs
update_fields format (Restore cs) = codes "restore" ∷ flat_map box_fields cs
update_fields format (Expire n) = codes "expire" ∷ decimal n ∷ []

-- within r, where a greatest distance is given
abbrev pub within_fields : Option ℕ → List (List ℕ)
within_fields None = []
within_fields (Some r) = codes "within" ∷ decimal r ∷ []

-- @ and the caller's digit
abbrev pub caller_field : ℕ → List ℕ
caller_field caller = 64 ∷ decimal caller

-- the caller, the word, and the arguments
abbrev pub command_fields : Format → Command → List (List ℕ)
command_fields format (Change caller u) = caller_field caller ∷ update_fields format u
command_fields format (Near caller k p within) =
    caller_field caller ∷ codes "near" ∷ decimal k ∷ (point_fields p ++ within_fields within)
command_fields format (Nears caller k ps) = caller_field caller ∷ codes "nears" ∷ decimal k ∷ flat_map point_fields ps
command_fields format (Inside caller k c) = caller_field caller ∷ codes "box" ∷ decimal k ∷ box_fields c
command_fields format (Ball caller k r p) = caller_field caller ∷ codes "ball" ∷ decimal k ∷ decimal r ∷ point_fields p
command_fields format (Lonely caller k r) = caller_field caller ∷ codes "lonely" ∷ decimal k ∷ decimal r ∷ []
command_fields format (Clusters caller k r) = caller_field caller ∷ codes "clusters" ∷ decimal k ∷ decimal r ∷ []
command_fields format (Pose caller rules p) =
    caller_field caller ∷ codes "pose" ∷ decimal rules.side ∷ decimal rules.ball ∷ decimal rules.step ∷ point_fields p
command_fields format Sync = codes "sync" ∷ []

-- A deletion of points, each by its unit cuboid, may be spelled by the points alone.
pub record SpelledAsErase (format : Format) (fields : List (List ℕ)) (c : Command) : Type 0 where
  pub caller : ℕ
  pub points : List Place
  pub limits : ArePoints format points
  pub command : c ≡ Change caller (Delete (map unit_box points))
  pub text : fields ≡ caller_field caller ∷ codes "erase" ∷ flat_map point_fields points

-- the line spells the command: in the one way that each has, or as an erasure
abbrev pub LineSpells : Format → List ℕ → Command → Type 0
LineSpells format line c = (fields_of line ≡ command_fields format c) ⊎ SpelledAsErase format (fields_of line) c

-- each line spells the command in its place
abbrev pub LinesSpell : Format → List (List ℕ) → List Command → Type 0
LinesSpell format [] [] = Unit {0}
LinesSpell format (line ∷ lines) (c ∷ cs) = LineSpells format line c × LinesSpell format lines cs
LinesSpell format [] (c ∷ cs) = ⊥
LinesSpell format (line ∷ lines) [] = ⊥

-- a header, and a line for each command
abbrev pub SpellsLines : List (List ℕ) → ScriptAt → Type 0
SpellsLines [] s = ⊥
SpellsLines (header ∷ lines) s = (fields_of header ≡ header_fields s.format s.sizes) × LinesSpell s.format lines s.commands

-- the bytes are a log, and the script is what is in it
abbrev pub Spells : List ℕ → ScriptAt → Type 0
Spells bytes s = SpellsLines (kept_lines bytes) s × IsScript s
