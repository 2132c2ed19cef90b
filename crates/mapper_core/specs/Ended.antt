-- What is asked before callers run a script, and known once all have ended.
use Rattle.std.specs.Prelude.{◌≡◌, ℕ, ◌<◌, List, [], ◌∷◌, length}
use Rattle.std.specs.List.{AllByRecursion}
use Rattle.map_items.specs.declared.entry.Entry.{Entry}
use Rattle.rebuild_parts.specs.History.{updates}
use Rattle.shown_versions.specs.Marks.{Seen, AllMet, AllOf, callers_of}
use Rattle.scan_log.specs.declared.command.Command.{Command}
use Rattle.scan_log.specs.declared.reply.Reply.{Reply}
use Rattle.scan_log.specs.Scripts.{ScriptAt}
use Rattle.scan_log.specs.Transcript.{totals_reply}
use Rattle.scan_log.specs.Legal.{numbers_from}
use Rattle.mapper_core.specs.Told.{IsReply}
use Rattle.mapper_core.specs.Meetings.{AllDone, AreNewcomers, HasCaller}

-- The passes can run the script, where the map has n callers, its ledger m parts, and its voxels the edge v.
pub record CanRun (n m v : ℕ) (s : ScriptAt) (ps : List Seen) : Type 0 where
  -- the map was started with the script's settings
  pub voxel : v ≡ s.sizes.voxel
  -- each command is a barrier, or one of the map's callers'
  pub named : AllByRecursion (HasCaller n) s.commands
  -- the passes are those of all callers, and have seen nothing
  pub newcomers : AreNewcomers n ps
  -- there is a part for each caller
  pub parts : n ≡ m
  -- there is one caller or more
  pub callers : 0 < n

-- each command's reply, and at the end the totals, in one history
abbrev pub AllReplied : ℕ → List Entry → List Command → List Reply → Type 0
AllReplied voxel h (c ∷ cs) (r ∷ rs) = IsReply voxel h c r × AllReplied voxel h cs rs
AllReplied voxel h [] (r ∷ []) = r ≡ totals_reply voxel (updates h) (length h)
AllReplied voxel h [] [] = ⊥
AllReplied voxel h [] (r ∷ s ∷ rs) = ⊥
AllReplied voxel h (c ∷ cs) [] = ⊥

-- All passes have seen one history, in which each caller's updates are those that the script has of it, and the replies are those of this history.
pub record HaveEnded (n : ℕ) (s : ScriptAt) (ps : List Seen) (rs : List Reply) : Type 0 where
  pub history : List Entry
  -- those of the callers from 1 to n
  pub callers : callers_of ps ≡ numbers_from 1 n
  pub seen : AllMet history ps
  pub only : AllOf (callers_of ps) history
  pub done : AllDone s.commands ps
  pub replied : AllReplied s.sizes.voxel history s.commands rs
