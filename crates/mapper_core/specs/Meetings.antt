-- What all callers did and got, from one meeting to the next. Cited by private functions alone.
use Rattle.std.specs.Prelude.{◌≡◌, Bool, ℕ, ◌+◌, ◌<◌, ◌≤◌, List, [], ◌∷◌, ◌++◌, length, slice_get, set, Some, Result, Ok, IfOk, is_none, IfSome}
use Rattle.std.specs.List.{AllByRecursion}
use Rattle.map_items.specs.declared.entry.Entry.{Entry}
use Rattle.map_items.specs.declared.memory.NoMemory.{NoMemory}
use Rattle.rebuild_parts.specs.History.{updates}
use Rattle.shown_versions.specs.Marks.{Seen, AllMet, AllOf, callers_of, seen_by_new}
use Rattle.scan_log.specs.Commands.{IsBy, command_caller}
use Rattle.scan_log.specs.declared.command.Command.{Command}
use Rattle.scan_log.specs.declared.reply.Reply.{Reply}
use Rattle.scan_log.specs.Legal.{numbers_from}
use Rattle.scan_log.specs.Transcript.{totals_reply}
use Rattle.mapper_core.specs.Told.{Told}
use Rattle.mapper_core.specs.Mine.{updates_by, Mine, Turned}

-- the command has no caller: all callers meet there
abbrev pub is_barrier : Command → Bool
is_barrier c = is_none (command_caller c)

-- the command is one of these callers', who are numbered from 1
abbrev pub IsOfCallers : ℕ → Command → Type 0
IsOfCallers n c = (k : ℕ) × IsBy c (k + 1) × (k < n)

-- the command is a barrier, or one of these callers'
abbrev pub HasCaller : ℕ → Command → Type 0
HasCaller n c = IfSome (command_caller c) (λ caller. (1 ≤ caller) × (caller ≤ n))

-- the remaining replies of each caller, the first of whom is 1
abbrev pub AllMine : ℕ → List Entry → List Command → (ℕ → ℕ) → List (List Reply) → ℕ → Type 0
AllMine voxel h cs lows lists high = (k : ℕ) (rs : List Reply) → slice_get lists k ≡ Some rs → Mine voxel h (k + 1) cs (lows (k + 1)) rs high

-- no caller's last mark is above this number
abbrev pub AllBelow : (ℕ → ℕ) → ℕ → Type 0
AllBelow lows high = (x : ℕ) → lows x ≤ high

-- the lists have each command's reply
pub record AreReplies (voxel : ℕ) (cs : List Command) (lists : List (List Reply)) : Type 0 where
  pub history : List Entry
  pub lasts : ℕ → ℕ
  pub most : ℕ
  pub mine : AllMine voxel history cs lasts lists most
  pub below : AllBelow lasts most
  pub owned : AllByRecursion (IsOfCallers (length lists)) cs

-- a reply remains for the caller
pub record HasReply (lists : List (List Reply)) (caller : ℕ) : Type 0 where
  pub place : ℕ
  pub caller_is : caller ≡ place + 1
  pub first : Reply
  pub rest : List Reply
  pub there : slice_get lists place ≡ Some (first ∷ rest)

-- the first reply of this caller was taken
pub record Takes (old new : List (List Reply)) (caller : ℕ) (r : Reply) : Type 0 where
  pub place : ℕ
  pub caller_is : caller ≡ place + 1
  pub rest : List Reply
  pub first : slice_get old place ≡ Some (r ∷ rest)
  pub left : new ≡ set old place rest

-- replies have been put in the log's order up to the remaining commands
pub record MergedFrom (voxel : ℕ) (h : List Entry) (cs left : List Command) (lows : ℕ → ℕ) (lists : List (List Reply)) (old new : List Reply) (high : ℕ) : Type 0 where
  pub now : ℕ → ℕ
  pub below : AllBelow now high
  pub mine : AllMine voxel h left now lists high
  pub replies : List Reply
  pub added : new ≡ old ++ replies
  pub told : (rest : List Reply) (highs : ℕ → ℕ) → Told voxel h now left rest highs → Told voxel h lows cs (replies ++ rest) highs

-- `MergedFrom` in every history in which the lists have the callers' replies
abbrev pub MergedTo : ℕ → List Command → List Command → List (List Reply) → List (List Reply) → List Reply → List Reply → Type 0
MergedTo voxel cs left all lists old new =
    (h : List Entry) (lows : ℕ → ℕ) (high : ℕ) → AllMine voxel h cs lows all high → AllBelow lows high → MergedFrom voxel h cs left lows lists old new high

-- a thread's result for each pass
abbrev pub AllTurned : ℕ → List Command → List Seen → List (Result (Seen × List Reply) NoMemory) → Type 0
AllTurned voxel cs ps ts =
    (length ts ≡ length ps)
    × ((k : ℕ) (p : Seen) (t : Result (Seen × List Reply) NoMemory) → slice_get ps k ≡ Some p → slice_get ts k ≡ Some t → IfOk t (λ u. Turned voxel cs p u.0 u.1))

-- the passes and the replies that came back
abbrev pub AllParted : List (Result (Seen × List Reply) NoMemory) → List Seen → List (List Reply) → Type 0
AllParted [] [] [] = Unit {0}
AllParted (t ∷ ts) (q ∷ qs) (rs ∷ lists) = (t ≡ Ok (q, rs)) × AllParted ts qs lists
AllParted [] (q ∷ qs) lists = ⊥
AllParted [] [] (rs ∷ lists) = ⊥
AllParted (t ∷ ts) [] lists = ⊥
AllParted (t ∷ ts) (q ∷ qs) [] = ⊥

-- a turn's pass and replies were put after the others
pub record IsPutBehind (t : Result (Seen × List Reply) NoMemory) (ps ps_after : List Seen) (lists lists_after : List (List Reply)) : Type 0 where
  pub pass : Seen
  pub replies : List Reply
  pub is : t ≡ Ok (pass, replies)
  pub passes : ps_after ≡ ps ++ pass ∷ []
  pub queues : lists_after ≡ lists ++ replies ∷ []

-- each pass has made its caller's updates of the commands
abbrev pub AllDone : List Command → List Seen → Type 0
AllDone cs [] = Unit {0}
AllDone cs (p ∷ ps) = (p.mine ≡ updates_by p.caller cs) × AllDone cs ps

-- n passes that have seen nothing, of the callers from 1 on
abbrev pub AreNewcomers : ℕ → List Seen → Type 0
AreNewcomers n ps = (length ps ≡ n) × ((k : ℕ) → k < length ps → slice_get ps k ≡ Some (seen_by_new (k + 1)))

-- all callers have met after these commands, with these replies
pub record Standing (voxel : ℕ) (cs : List Command) (ps : List Seen) (rs : List Reply) : Type 0 where
  pub history : List Entry
  pub order : callers_of ps ≡ numbers_from 1 (length ps)
  pub met : AllMet history ps
  pub only : AllOf (callers_of ps) history
  pub done : AllDone cs ps
  pub lasts : ℕ → ℕ
  pub below : AllBelow lasts (length history)
  pub told : Told voxel history (λ x. 0) cs rs lasts

-- the totals of all that was held when the callers met
abbrev pub IsTotal : ℕ → List Seen → Reply → Type 0
IsTotal voxel ps r = (0 < length ps) × ((h : List Entry) → AllMet h ps → r ≡ totals_reply voxel (updates h) (length h))

-- all callers have met after all commands, and the last reply has the totals of what is held
pub record StandingAtEnd (voxel n : ℕ) (cs : List Command) (ps : List Seen) (rs : List Reply) : Type 0 where
  pub front : List Reply
  pub ending : Reply
  pub replies : rs ≡ front ++ ending ∷ []
  pub standing : Standing voxel cs ps front
  pub total : IsTotal voxel ps ending
  -- all have come back
  pub all : length ps ≡ n
