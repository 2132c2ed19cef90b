-- Poses, and the updates that they submit.
use Rattle.std.specs.Prelude.{ℕ, ◌-◌, ◌==◌, Bool, ◌&&◌, List, [], ◌∷◌, get_or, set, replicate, if◌then◌else◌}
use Rattle.std.specs.declared.option.Option.{Option}
use Rattle.std.specs.declared.option.Option.TheVariants.{None, Some}
use Rattle.point_geom.specs.Place.{Place, Bounds}
use Rattle.map_items.specs.declared.update.Update.TheVariants.{Delete}
use Rattle.local_region.specs.Rules.{Rules}
use Rattle.local_region.specs.Regions.{RegionAt, begun}
use Rattle.local_region.specs.Moves.{after}
use Rattle.local_region.specs.Removed.{removed}
use Rattle.scan_log.specs.declared.command.Command.{Command}
use Rattle.scan_log.specs.declared.command.Command.TheVariants.{Change, Pose}
use Rattle.scan_log.specs.Scripts.{ScriptAt}

-- side, ball and step are the same
abbrev pub are_same : Rules → Rules → Bool
are_same a b = (a.side == b.side) && (a.ball == b.ball) && (a.step == b.step)

-- a first pose, and one with other rules, begins a region; any other moves it
abbrev pub posed : Option RegionAt → Rules → Place → RegionAt
posed None r p = begun r p
posed (Some old) r p = if are_same old.rules r then after p old else begun r p

-- what the region leaves by it: nothing where it begins
abbrev pub left_by : Option RegionAt → Rules → Place → List Bounds
left_by None r p = []
left_by (Some old) r p = if are_same old.rules r then removed old (after p old) else []

-- of the regions of callers 1, 2 and so on, this caller's
abbrev pub region_of : List (Option RegionAt) → ℕ → Option RegionAt
region_of regions caller = get_or regions (caller - 1) None

-- a pose as the deletion that it submits, where these are the regions before it; any other command as it is
abbrev pub plain_command : List (Option RegionAt) → Command → Command
plain_command regions (Pose caller r p) = Change caller (Delete (left_by (region_of regions caller) r p))
plain_command regions c = c

-- the regions after a command
abbrev pub regions_after : List (Option RegionAt) → Command → List (Option RegionAt)
regions_after regions (Pose caller r p) = set regions (caller - 1) (Some (posed (region_of regions caller) r p))
regions_after regions c = regions

-- each pose as the deletion that it submits
abbrev pub plain_from : List (Option RegionAt) → List Command → List Command
plain_from regions [] = []
plain_from regions (c ∷ cs) = plain_command regions c ∷ plain_from (regions_after regions c) cs

-- none of the eight callers has a region yet
abbrev pub no_regions : List (Option RegionAt)
no_regions = replicate 8 None

-- The commands with each pose as the deletion that it submits. Which one it is is a function of its caller's poses up to it.
abbrev pub plain : List Command → List Command
plain cs = plain_from no_regions cs

-- the script with each pose as the deletion that it submits
abbrev pub plain_script : ScriptAt → ScriptAt
plain_script s = record s { commands = plain s.commands }
