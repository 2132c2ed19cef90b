-- Scripts as they are run: without poses.
use Rattle.std.specs.Prelude.{◌≤◌, length}
use Rattle.std.specs.List.{AllByRecursion}
use Rattle.map_items.specs.Sizes.{AreSizes}
use Rattle.scan_log.specs.declared.format.Format.TheVariants.{Two}
use Rattle.scan_log.specs.declared.command.Command.{Command}
use Rattle.scan_log.specs.declared.command.Command.TheVariants.{Change, Pose}
use Rattle.scan_log.specs.Scripts.{IsCaller, IsCommand, ScriptAt, points_of}
use Rattle.map_items.specs.declared.limits.TheConstants.{MAX_POINTS}
use Rattle.scan_log.specs.declared.commands.TheConstants.{MAX_COMMANDS}

-- A command that can be run, in the limits of version 2. A deletion may have no boxes, as that of a region that stays.
abbrev pub IsPlain : Command → Type 0
IsPlain (Change caller u) = IsCaller caller
IsPlain (Pose caller rules p) = ⊥
IsPlain c = IsCommand Two c

-- each command can be run, the settings are in their limits, and there are few enough commands and points
pub record IsPlainScript (s : ScriptAt) : Type 0 where
  pub sizes : AreSizes s.sizes
  pub each : AllByRecursion IsPlain s.commands
  pub few : length s.commands ≤ MAX_COMMANDS
  pub room : points_of s.commands ≤ MAX_POINTS
