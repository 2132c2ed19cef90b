-- What one caller did and got, seen from one history. Cited by private functions alone.
use Rattle.std.specs.Prelude.{◌≡◌, ℕ, ◌+◌, ◌<◌, ◌≤◌, ◌⊎◌, Bool, true, List, [], ◌∷◌, ◌++◌, length, Option, Some, None, MatchBool}
use mathlib.Core.List.{IsPrefix}
use Rattle.map_items.specs.declared.entry.Entry.{Entry}
use Rattle.map_items.specs.declared.update.Update.{Update}
use Rattle.map_items.specs.Fold.{fold}
use Rattle.rebuild_parts.specs.History.{updates}
use Rattle.shown_versions.specs.Marks.{Seen, Grown, keep_if}
use Rattle.scan_log.specs.Commands.{command_update, is_by}
use Rattle.scan_log.specs.declared.command.Command.{Command}
use Rattle.scan_log.specs.declared.reply.Reply.{Reply}
use Rattle.scan_log.specs.Scripts.{submitted}
use Rattle.scan_log.specs.Transcript.{mark_of}
use Rattle.mapper_core.specs.Told.{Answers}
use Rattle.map_items.specs.declared.limits.TheConstants.{MAX_POINTS}
use Rattle.rebuild_core.specs.declared.plan.TheConstants.{MAX_UPDATES}

-- a caller's updates with this one, if it is one and the caller's
abbrev pub keep_made : Bool → Option Update → List Update → List Update
keep_made is_own (Some u) us = keep_if is_own u us
keep_made is_own None us = us

-- the updates of a caller among the commands, in order
abbrev pub updates_by : ℕ → List Command → List Update
updates_by x [] = []
updates_by x (c ∷ cs) = keep_made (is_by x c) (command_update c) (updates_by x cs)

-- the replies to a caller's commands among these. Before them its last mark was at least low, and after them it is at most high
abbrev pub Mine : ℕ → List Entry → ℕ → List Command → ℕ → List Reply → ℕ → Type 0
Mine voxel h x [] low rs high = (rs ≡ []) × (low ≤ high)
Mine voxel h x (c ∷ cs) low rs high =
    MatchBool (is_by x c) ((r : Reply) × (rest : List Reply) × (rs ≡ r ∷ rest) × Answers voxel h low c r × Mine voxel h x cs (mark_of r) rest high)
    (Mine voxel h x cs low rs high)

-- a caller's pass was lent for one command, and this is the reply
pub record Answered (voxel : ℕ) (c : Command) (p q : Seen) (r : Reply) : Type 0 where
  pub caller : q.caller ≡ p.caller
  pub seen : IsPrefix p.seen q.seen
  pub mine : q.mine ≡ p.mine ++ updates_by p.caller (c ∷ [])
  pub mark : mark_of r ≡ length q.seen
  pub told : (h : List Entry) → IsPrefix q.seen h → Answers voxel h (length p.seen) c r

-- with the command a map of this history would have more updates, or more points, than it may have
abbrev pub IsOver : ℕ → List Entry → Command → Type 0
IsOver voxel h c = (MAX_UPDATES ≤ length h) ⊎ (MAX_POINTS < (fold voxel (updates h)).next + submitted c)

-- the reply to the command, or none where the map has no room for it
abbrev pub Tried : ℕ → Command → Seen → Seen → Option Reply → Type 0
Tried voxel c p q (Some r) = Answered voxel c p q r
Tried voxel c p q None = Grown p q × IsOver voxel q.seen c

-- a caller has run its commands among these
pub record Ran (voxel : ℕ) (cs : List Command) (p q : Seen) (rs : List Reply) : Type 0 where
  pub caller : q.caller ≡ p.caller
  pub seen : IsPrefix p.seen q.seen
  pub mine : q.mine ≡ p.mine ++ updates_by p.caller cs
  pub told : (h : List Entry) → IsPrefix q.seen h → Mine voxel h p.caller cs (length p.seen) rs (length q.seen)

-- a caller has come so far: these of its commands remain
pub record RanTo (voxel : ℕ) (cs left : List Command) (p q : Seen) (rs : List Reply) : Type 0 where
  pub caller : q.caller ≡ p.caller
  pub seen : IsPrefix p.seen q.seen
  pub mine : q.mine ++ updates_by p.caller left ≡ p.mine ++ updates_by p.caller cs
  pub told : (h : List Entry) → IsPrefix q.seen h → (rest : List Reply) (high : ℕ) → Mine voxel h p.caller left (length q.seen) rest high
      → Mine voxel h p.caller cs (length p.seen) (rs ++ rest) high

-- a caller stopped before one of its commands, for which the map has no room
pub record Stopped (voxel : ℕ) (cs : List Command) (p q : Seen) : Type 0 where
  pub next : Command
  pub left : List Command
  pub own : is_by p.caller next ≡ true
  pub over : IsOver voxel q.seen next
  pub caller : q.caller ≡ p.caller
  pub mine : q.mine ++ updates_by p.caller (next ∷ left) ≡ p.mine ++ updates_by p.caller cs

-- how a caller's turn ended
abbrev pub Turned : ℕ → List Command → Seen → Seen → List Reply → Type 0
Turned voxel cs p q rs = Ran voxel cs p q rs ⊎ Stopped voxel cs p q
