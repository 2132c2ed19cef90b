-- The replies that callers got, seen from one history.
use Rattle.std.specs.Prelude.{◌≡◌, ℕ, ◌+◌, ◌≤◌, List, [], ◌∷◌, length, slice_get, Option, Some, if◌then◌else◌, IfSome, MatchOption}
use Rattle.map_items.specs.declared.entry.Entry.{Entry}
use Rattle.map_items.specs.declared.update.Update.{Update}
use Rattle.rebuild_parts.specs.History.{updates}
use Rattle.scan_log.specs.Commands.{Concerns, command_caller, command_update, is_for}
use Rattle.scan_log.specs.declared.command.Command.{Command}
use Rattle.scan_log.specs.declared.reply.Reply.{Reply}
use Rattle.scan_log.specs.Legal.{IsLater}
use Rattle.scan_log.specs.Transcript.{reply_to, mark_of}

-- the mark is the number, from 1 on, of the caller's entry with the update
abbrev pub HasPlace : List Entry → Option ℕ → ℕ → Update → Type 0
HasPlace h owner m u = (k : ℕ) × (m ≡ k + 1) × ((e : Entry) × (slice_get h k ≡ Some e) × IfSome owner (λ caller. e.caller ≡ caller) × (e.update ≡ u))

-- the mark has a place in the history: an update's is that of its entry
abbrev pub StandsInHistory : List Entry → Command → ℕ → Type 0
StandsInHistory h c m = MatchOption (command_update c) (m ≤ length h) (HasPlace h (command_caller c) m)

-- the reply to the command after as many entries of the history as its mark is
pub record IsReply (voxel : ℕ) (h : List Entry) (c : Command) (r : Reply) : Type 0 where
  pub placed : StandsInHistory h c (mark_of r)
  pub told : r ≡ reply_to voxel (updates h) c (mark_of r)

-- such a reply, whose mark is later than this one
pub record Answers (voxel : ℕ) (h : List Entry) (low : ℕ) (c : Command) (r : Reply) : Type 0 where
  pub reply : IsReply voxel h c r
  pub later : IsLater low c (mark_of r)

-- the last marks of all callers, once a command has the mark m
abbrev pub raised : (ℕ → ℕ) → Command → ℕ → ℕ → ℕ
raised lows c m = λ x. if is_for x c then m else lows x

-- the replies to commands in the log's order. Before them each caller's last mark was at least lows, and after them it is at most highs
abbrev pub Told : ℕ → List Entry → (ℕ → ℕ) → List Command → List Reply → (ℕ → ℕ) → Type 0
Told voxel h lows [] [] highs = (x : ℕ) → lows x ≤ highs x
Told voxel h lows [] (r ∷ rs) highs = ⊥
Told voxel h lows (c ∷ cs) [] highs = ⊥
Told voxel h lows (c ∷ cs) (r ∷ rs) highs =
    ((x : ℕ) → Concerns x c → Answers voxel h (lows x) c r) × Told voxel h (raised lows c (mark_of r)) cs rs highs
