-- Which marks the replies to a script may carry.
use Rattle.std.specs.Prelude.{◌≡◌, ℕ, zero, suc, ◌+◌, ◌<◌, ◌≤◌, List, [], ◌∷◌, map, length, slice_get, Some, MatchOption}
use Rattle.std.specs.List.{AllByRecursion}
use Rattle.scan_log.specs.Commands.{Concerns, command_caller, command_update}
use Rattle.scan_log.specs.declared.command.Command.{Command}
use Rattle.scan_log.specs.declared.reply.Reply.{Reply}
use Rattle.scan_log.specs.Scripts.{ScriptAt}
use Rattle.scan_log.specs.Poses.{plain_script}
use Rattle.scan_log.specs.Spelling.{Spells}
use Rattle.scan_log.specs.Transcript.{updates_in, marked_updates, replies, mark_of, lines_text}

-- the first k numbers from n on
abbrev pub numbers_from : ℕ → ℕ → List ℕ
numbers_from n zero = []
numbers_from n (suc k) = n ∷ numbers_from (n + 1) k

-- a later mark isn't below, and that of an update is above
abbrev pub IsLater : ℕ → Command → ℕ → Type 0
IsLater m c n = MatchOption (command_update c) (m ≤ n) (λ u. m < n)

-- after a caller's command with the mark m may come one with the mark n; after a barrier every command is asked
abbrev pub MayFollow : Command → ℕ → Command → ℕ → Type 0
MayFollow c m d n = MatchOption (command_caller c) (IsLater m d n) (λ caller. Concerns caller d → IsLater m d n)

-- all these commands may come after it
abbrev pub AllFollow : Command → ℕ → List Command → List ℕ → Type 0
AllFollow c m (d ∷ ds) (n ∷ marks) = MayFollow c m d n × AllFollow c m ds marks
AllFollow c m [] marks = Unit {0}
AllFollow c m (d ∷ ds) [] = Unit {0}

-- each command may come after those before it
abbrev pub AreInOrder : List Command → List ℕ → Type 0
AreInOrder (c ∷ cs) (m ∷ marks) = AllFollow c m cs marks × AreInOrder cs marks
AreInOrder [] marks = Unit {0}
AreInOrder (c ∷ cs) [] = Unit {0}

-- the marks may be those of the replies to the commands, in the log's order, and of the line at the end
pub record IsLegal (cs : List Command) (marks : List ℕ) : Type 0 where
  -- one for each command and one for the end
  pub many : length marks ≡ length cs + 1
  -- those of the updates are the numbers from 1 on, each once
  pub each_once : map (λ h. h.0) (marked_updates cs marks) ≡ numbers_from 1 (updates_in cs)
  -- a caller's never fall, and none passes a barrier
  pub in_order : AreInOrder cs marks
  -- none is above the number of all updates, which is the end's
  pub none_above : AllByRecursion (λ m. m ≤ updates_in cs) marks
  pub at_end : slice_get marks (length cs) ≡ Some (updates_in cs)

-- the replies are those under the marks that they carry, which are legal
pub record AreLegalReplies (s : ScriptAt) (rs : List Reply) : Type 0 where
  pub legal : IsLegal s.commands (map mark_of rs)
  pub replies : rs ≡ replies s (map mark_of rs)

-- the lines are those of legal replies to the script, with each pose as the deletion that it submits
pub record AreLegalLines (s : ScriptAt) (lines : List ℕ) : Type 0 where
  pub told : List Reply
  pub legal : AreLegalReplies (plain_script s) told
  pub text : lines ≡ lines_text s.format s.commands told

-- the text is a legal transcript of the log, with each pose as the deletion that it submits
pub record IsLegalTranscript (log out : List ℕ) : Type 0 where
  pub script : ScriptAt
  pub spelled : Spells log script
  pub told : List Reply
  pub legal : AreLegalReplies (plain_script script) told
  pub lines : out ≡ lines_text script.format script.commands told
