-- Lines with their marks, as they are read, ordered and replayed. Cited by private functions alone.
use Rattle.std.specs.Prelude.{◌≡◌, ℕ, ◌+◌, Bool, true, nat_lt, nat_le, List, [], ◌∷◌, map, slice_get, if◌then◌else◌, is_some}
use Rattle.std.specs.declared.option.Option.{Option}
use Rattle.std.specs.declared.option.Option.TheVariants.{None, Some}
use Rattle.map_items.specs.declared.item.Item.{Item}
use Rattle.map_items.specs.declared.update.Update.{Update}
use Rattle.map_items.specs.Fold.{points_in}
use Rattle.scan_log.specs.Commands.{command_update, is_for}
use Rattle.scan_log.specs.declared.command.Command.{Command}
use Rattle.scan_log.specs.declared.reply.Reply.{Reply}
use Rattle.scan_log.specs.Scripts.{ScriptAt}
use Rattle.scan_log.specs.Transcript.{replies, reply_on, totals_on}
use Rattle.transcript_check.specs.declared.lines.MarkedLine.{MarkedLine}
use Rattle.transcript_check.specs.declared.lines.LineFault.{LineFault}
use Rattle.transcript_check.specs.declared.lines.LineFault.TheVariants.{Unspelled, NoMemory}
use Rattle.transcript_check.specs.declared.order.Marked.{Marked}
use Rattle.transcript_check.specs.declared.order.Placed.{Placed}
use Rattle.transcript_check.specs.Heads.{heads}
use Rattle.transcript_check.specs.Verdicts.{IsUnspelled, reply_lines}

-- the marks of the lines, in the lines' order
abbrev pub marks_of : List MarkedLine → List ℕ
marks_of marked_lines = map (λ t. t.mark) marked_lines

-- the lines' own bytes, each with its line feed
abbrev pub line_texts : List MarkedLine → List (List ℕ)
line_texts marked_lines = map (λ t. t.line.now) marked_lines

-- the updates with their marks, in their order
abbrev pub updates_of : List Marked → List (ℕ × Update)
updates_of updates = map (λ u. (u.mark, u.update.now)) updates

-- the updates alone, in their order
abbrev pub changes_of : List Marked → List Update
changes_of updates = map (λ u. u.update.now) updates

-- the place is that of a line with this mark
abbrev pub IsPlaced : List ℕ → Placed → Type 0
IsPlaced marks p = slice_get marks p.place ≡ Some p.mark

-- why not all lines were read
abbrev pub WasUnspelled : List Command → List ℕ → LineFault → Type 0
WasUnspelled cs out (Unspelled before) = IsUnspelled (heads cs) out (before + 1)
WasUnspelled cs out NoMemory = Unit {0}

-- the mark may come behind the last one, if there is one
abbrev pub is_late : Option ℕ → Command → ℕ → Bool
is_late None c m = true
is_late (Some low) c m = if is_some (command_update c) then nat_lt low m else nat_le low m

-- the marks of this caller's commands and of the barriers are in order, behind a last one
abbrev pub InOrderBehind : ℕ → Option ℕ → List Command → List ℕ → Type 0
InOrderBehind x low [] marks = Unit {0}
InOrderBehind x low (c ∷ cs) [] = Unit {0}
InOrderBehind x low (c ∷ cs) (m ∷ marks) =
    (is_for x c ≡ true → is_late low c m ≡ true) × InOrderBehind x (if is_for x c then Some m else low) cs marks

-- the marks of this caller's commands and of the barriers are in order, from the first on
abbrev pub AreCallersInOrder : ℕ → List Command → List ℕ → Type 0
AreCallersInOrder x cs marks = InOrderBehind x None cs marks

-- how many points they submit
abbrev pub points_in_all : List Update → ℕ
points_in_all [] = 0
points_in_all (u ∷ us) = points_in u + points_in_all us

-- the lines of the replies to a script without poses, under these marks
abbrev pub lines_under : ScriptAt → List ℕ → List (List ℕ)
lines_under s marks = reply_lines s.format s.commands (replies s marks)

-- the reply to a command, or to the end, where these items are held
abbrev pub reply_at : List Item → Option Command → ℕ → Reply
reply_at items (Some c) m = reply_on items c m
reply_at items None m = totals_on items m
