-- Scripts without poses.
use Rattle.std.proofs.Common.{◌≡◌, List, [], ◌∷◌, length, refl, arith, Option, Some}
use Rattle.std.specs.List.{AllByRecursion}
use Rattle.local_region.specs.Regions.{RegionAt}
use Rattle.scan_log.specs.declared.format.Format.{Format}
use Rattle.scan_log.specs.declared.format.Format.TheVariants.{Two}
use Rattle.scan_log.specs.declared.command.Command.{Command}
use Rattle.scan_log.specs.declared.command.Command.TheVariants.{Change, Near, Nears, Inside, Ball, Lonely, Clusters, Pose, Sync}
use Rattle.scan_log.specs.declared.reply.Reply.{Reply}
use Rattle.scan_log.specs.declared.reply.Reply.TheVariants as reply
use Rattle.scan_log.specs.Scripts.{IsCommand, IsScript, ScriptAt, points_of, submitted}
use Rattle.scan_log.specs.Plain.{IsPlain, IsPlainScript}
use Rattle.scan_log.specs.Poses.{no_regions, plain_command, plain_from, plain_script, regions_after}
use Rattle.scan_log.specs.Transcript.{lines_text, reply_text}
use Rattle.scan_log.proofs.Wider.{commands_widen}

command_plain : (regions : List (Option RegionAt)) (c : Command) → IsCommand Two c → IsPlain (plain_command regions c)
command_plain regions (Change caller u) h = h.0
command_plain regions (Near caller k p within) h = h
command_plain regions (Nears caller k ps) h = h
command_plain regions (Inside caller k c) h = h
command_plain regions (Ball caller k r p) h = h
command_plain regions (Lonely caller k r) h = h
command_plain regions (Clusters caller k r) h = h
command_plain regions (Pose caller rules p) h = h.0
command_plain regions Sync h = h

command_submits : (regions : List (Option RegionAt)) (c : Command) → submitted (plain_command regions c) ≡ submitted c
command_submits regions (Change caller u) = refl
command_submits regions (Near caller k p within) = refl
command_submits regions (Nears caller k ps) = refl
command_submits regions (Inside caller k c) = refl
command_submits regions (Ball caller k r p) = refl
command_submits regions (Lonely caller k r) = refl
command_submits regions (Clusters caller k r) = refl
command_submits regions (Pose caller rules p) = refl
command_submits regions Sync = refl

all_plain : (regions : List (Option RegionAt)) (cs : List Command) → AllByRecursion (IsCommand Two) cs → AllByRecursion IsPlain (plain_from regions cs)
all_plain regions [] h = tt
all_plain regions (c ∷ cs) h = (command_plain regions c h.0, all_plain (regions_after regions c) cs h.1)

pub length-plain_from : (regions : List (Option RegionAt)) (cs : List Command) → length (plain_from regions cs) ≡ length cs
length-plain_from regions [] = refl
length-plain_from regions (c ∷ cs) = omega (arith, length-plain_from (regions_after regions c) cs)

pub points-plain_from : (regions : List (Option RegionAt)) (cs : List Command) → points_of (plain_from regions cs) ≡ points_of cs
points-plain_from regions [] = refl
points-plain_from regions (c ∷ cs) = omega (arith, command_submits regions c, points-plain_from (regions_after regions c) cs)

-- a script can be run without its poses
pub plain_script_is : (s : ScriptAt) → IsScript s → IsPlainScript (plain_script s)
plain_script_is s h = record {
  sizes = h.sizes;
  each = all_plain no_regions s.commands (commands_widen s.format s.commands h.each);
  few = omega (arith, h.few, length-plain_from no_regions s.commands);
  room = omega (arith, h.room, points-plain_from no_regions s.commands);
}

-- the reply to a pose is that to the change that it submits
pub reply_plain : (format : Format) (regions : List (Option RegionAt)) (c : Command) (r : Reply) → reply_text format (Some (plain_command regions c)) r ≡ reply_text format (Some c) r
reply_plain format regions (Change caller u) r = refl
reply_plain format regions (Near caller k p within) r = refl
reply_plain format regions (Nears caller k ps) r = refl
reply_plain format regions (Inside caller k c) r = refl
reply_plain format regions (Ball caller k r p) found = refl
reply_plain format regions (Lonely caller k r) found = refl
reply_plain format regions (Clusters caller k r) found = refl
reply_plain format regions (Pose caller rules p) (reply.Done mark) = refl
reply_plain format regions (Pose caller rules p) (reply.Near r) = refl
reply_plain format regions (Pose caller rules p) (reply.Nears r) = refl
reply_plain format regions (Pose caller rules p) (reply.Inside r) = refl
reply_plain format regions (Pose caller rules p) (reply.Ball r) = refl
reply_plain format regions (Pose caller rules p) (reply.Lonely r) = refl
reply_plain format regions (Pose caller rules p) (reply.Clusters r) = refl
reply_plain format regions (Pose caller rules p) (reply.Totals mark live suspended) = refl
reply_plain format regions Sync r = refl

-- so the lines of a script without its poses are those of the script, whatever the replies
pub lines_plain : (format : Format) (regions : List (Option RegionAt)) (cs : List Command) (rs : List Reply)
    → lines_text format (plain_from regions cs) rs ≡ lines_text format cs rs
lines_plain format regions [] rs = refl
lines_plain format regions (c ∷ cs) [] = refl
lines_plain format regions (c ∷ cs) (r ∷ rs) = rw (reply_plain format regions c r, lines_plain format (regions_after regions c) cs rs) refl
