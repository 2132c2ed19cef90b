-- The marks of a run in the log's order are legal, and replies carry the marks that they are made under.
use Rattle.std.proofs.Common.{◌≡◌, ℕ, ◌+◌, ◌<◌, ◌≤◌, false, List, [], ◌∷◌, length, map, Option, Some, None, slice_get, refl, sym, ap, ◌∙◌, arith, nat_lt}
use Rattle.std.specs.Prelude.{◌++◌, MatchOption}
use Rattle.std.specs.Option.{option_to_list}
use Rattle.std.proofs.lemmas.Bool.Decides.{nat_tests}
use Rattle.std.specs.List.{AllByRecursion}
use Rattle.map_items.specs.declared.item.Item.{Item}
use Rattle.map_items.specs.declared.update.Update.{Update}
use Rattle.scan_log.specs.declared.command.Command.{Command}
use Rattle.scan_log.specs.declared.command.Command.TheVariants.{Change, Near, Nears, Inside, Ball, Lonely, Clusters, Pose, Sync}
use Rattle.scan_log.specs.Commands.{command_update, updates_made}
use Rattle.scan_log.specs.Scripts.{ScriptAt}
use Rattle.scan_log.specs.Poses.{plain_script}
use Rattle.scan_log.specs.Spelling.{Spells}
use Rattle.scan_log.specs.Transcript.{updates_in, mark_from, put_if, put_update, marked_updates, serial_marks_from, serial_marks, held_at, history, reply_on, replies_from, replies, mark_of, text}
use Rattle.scan_log.specs.Legal.{numbers_from, AllFollow, AreInOrder, IsLegal, AreLegalReplies, IsLegalTranscript}
use Rattle.scan_log.proofs.Whose.{may_follow}

abbrev Above : ℕ → List (ℕ × Update) → Type 0
Above n hs = AllByRecursion (λ h. n < h.0) hs

-- the least mark comes first
put_first : (m : ℕ) (u : Update) (hs : List (ℕ × Update)) → Above m hs → put_update m u hs ≡ (m, u) ∷ hs
put_first m u [] h = refl
put_first m u (g ∷ hs) h = let e : nat_lt g.0 m ≡ false = (let k : m < g.0 = h.0 in grind (arith, nat_tests)) in rw e refl

lower : (m n : ℕ) (hs : List (ℕ × Update)) → n ≤ m → Above m hs → Above n hs
lower m n [] le h = tt
lower m n (g ∷ hs) le h = ((let k : m < g.0 = h.0 in omega arith), lower m n hs le h.1)

-- the marks of updates are above the number of those before
above_put : (n : ℕ) (made : Option Update) (hs : List (ℕ × Update)) → Above (mark_from n made) hs → Above n (put_if (mark_from n made) made hs)
above_put n (Some u) hs h = rw (put_first (n + 1) u hs h) (omega arith, lower (n + 1) n hs (omega arith) h)
above_put n None hs h = h

serial_above : (n : ℕ) (cs : List Command) → Above n (marked_updates cs (serial_marks_from n cs))
serial_above n [] = tt
serial_above n (c ∷ cs) = above_put n (command_update c) _ (serial_above (mark_from n (command_update c)) cs)

each_put : (n : ℕ) (made : Option Update) (hs : List (ℕ × Update)) (us : List Update) → Above (mark_from n made) hs → map (λ h. h.0) hs ≡ numbers_from (mark_from n made + 1) (length us)
    → map (λ h. h.0) (put_if (mark_from n made) made hs) ≡ numbers_from (n + 1) (length (option_to_list made ++ us))
each_put n (Some u) hs us above e = rw (put_first (n + 1) u hs above) (ap (λ ms. (n + 1) ∷ ms) e)
each_put n None hs us above e = e

each_once : (n : ℕ) (cs : List Command) → map (λ h. h.0) (marked_updates cs (serial_marks_from n cs)) ≡ numbers_from (n + 1) (updates_in cs)
each_once n [] = refl
each_once n (c ∷ cs) = let m = mark_from n (command_update c) in each_put n (command_update c) _ (updates_made cs) (serial_above m cs) (each_once m cs)

history_put : (n : ℕ) (made : Option Update) (hs : List (ℕ × Update)) (us : List Update) → Above (mark_from n made) hs → map (λ h. h.1) hs ≡ us
    → map (λ h. h.1) (put_if (mark_from n made) made hs) ≡ option_to_list made ++ us
history_put n (Some u) hs us above e = rw (put_first (n + 1) u hs above) (ap (λ us. u ∷ us) e)
history_put n None hs us above e = e

-- the history of a run in the log's order is its updates in order
pub serial_history : (n : ℕ) (cs : List Command) → history cs (serial_marks_from n cs) ≡ updates_made cs
serial_history n [] = refl
serial_history n (c ∷ cs) = let m = mark_from n (command_update c) in history_put n (command_update c) _ (updates_made cs) (serial_above m cs) (serial_history m cs)

-- a mark isn't below those before it, and that of an update is above
mark_after : (m n : ℕ) (made : Option Update) → m ≤ n → m ≤ mark_from n made
mark_after m n (Some u) le = omega arith
mark_after m n None le = le

mark_later : (m n : ℕ) (made : Option Update) → m ≤ n → MatchOption made (m ≤ mark_from n made) (λ u. m < mark_from n made)
mark_later m n (Some u) le = omega arith
mark_later m n None le = le

all_follow : (c : Command) (m n : ℕ) (cs : List Command) → m ≤ n → AllFollow c m cs (serial_marks_from n cs)
all_follow c m n [] le = tt
all_follow c m n (d ∷ cs) le = let made = command_update d in (may_follow c m d (mark_from n made) (λ x asks of. mark_later m n made le), all_follow c m (mark_from n made) cs (mark_after m n made le))

in_order : (n : ℕ) (cs : List Command) → AreInOrder cs (serial_marks_from n cs)
in_order n [] = tt
in_order n (c ∷ cs) = let m = mark_from n (command_update c) in (all_follow c m m cs (omega arith), in_order m cs)

-- one mark for each command, and one for the end
pub length-serial_marks_from : (n : ℕ) (cs : List Command) → length (serial_marks_from n cs) ≡ length cs + 1
length-serial_marks_from n [] = refl
length-serial_marks_from n (c ∷ cs) = omega (arith, length-serial_marks_from (mark_from n (command_update c)) cs)

-- with its update, or none, there are as many as before
marks_before : (n : ℕ) (made : Option Update) (us : List Update) → mark_from n made + length us ≡ n + length (option_to_list made ++ us)
marks_before n (Some u) us = omega arith
marks_before n None us = refl

none_above : (n top : ℕ) (cs : List Command) → n + updates_in cs ≤ top → AllByRecursion (λ m. m ≤ top) (serial_marks_from n cs)
none_above n top [] le = (omega arith, tt)
none_above n top (c ∷ cs) le =
    let e = marks_before n (command_update c) (updates_made cs) in
    (omega (arith, e, le), none_above (mark_from n (command_update c)) top cs (omega (arith, e, le)))

at_end : (n : ℕ) (cs : List Command) → slice_get (serial_marks_from n cs) (length cs) ≡ Some (n + updates_in cs)
at_end n [] = ap (λ k. Some k) (omega arith)
at_end n (c ∷ cs) = at_end (mark_from n (command_update c)) cs ∙ ap (λ k. Some k) (marks_before n (command_update c) (updates_made cs))

-- the marks of a run in the log's order are legal, whatever the script
pub serial_is_legal : (s : ScriptAt) → IsLegal s.commands (serial_marks s)
serial_is_legal s = record {
  many = length-serial_marks_from 0 s.commands;
  each_once = each_once 0 s.commands;
  in_order = in_order 0 s.commands;
  none_above = none_above 0 (updates_in s.commands) s.commands (omega arith);
  at_end = at_end 0 s.commands ∙ ap (λ k. Some k) (omega arith);
}

pub mark_of-reply_on : (items : List Item) (c : Command) (m : ℕ) → mark_of (reply_on items c m) ≡ m
mark_of-reply_on items (Change caller u) m = refl
mark_of-reply_on items (Near caller k p within) m = refl
mark_of-reply_on items (Nears caller k ps) m = refl
mark_of-reply_on items (Inside caller k c) m = refl
mark_of-reply_on items (Ball caller k r p) m = refl
mark_of-reply_on items (Lonely caller k r) m = refl
mark_of-reply_on items (Clusters caller k r) m = refl
mark_of-reply_on items (Pose caller rules p) m = refl
mark_of-reply_on items Sync m = refl

marks-replies_from : (voxel : ℕ) (h : List Update) (cs : List Command) (marks : List ℕ) → length marks ≡ length cs + 1
    → map mark_of (replies_from voxel h cs marks) ≡ marks
marks-replies_from voxel h [] [] many = absurd (omega arith)
marks-replies_from voxel h [] (m ∷ []) many = refl
marks-replies_from voxel h [] (m ∷ n ∷ marks) many = absurd (omega arith)
marks-replies_from voxel h (c ∷ cs) [] many = absurd (omega arith)
marks-replies_from voxel h (c ∷ cs) (m ∷ marks) many =
    let e : map mark_of (replies_from voxel h cs marks) ≡ marks = marks-replies_from voxel h cs marks (omega arith) in
    let f : mark_of (reply_on (held_at voxel h m) c m) ≡ m = mark_of-reply_on (held_at voxel h m) c m in
    rw (e, f) refl

-- the replies to a script carry the marks that they are made under
pub marks-replies : (s : ScriptAt) (marks : List ℕ) → length marks ≡ length s.commands + 1 → map mark_of (replies s marks) ≡ marks
marks-replies s marks many = marks-replies_from s.sizes.voxel (history s.commands marks) s.commands marks many

-- the replies under legal marks are legal
pub replies_legal : (s : ScriptAt) (marks : List ℕ) → IsLegal s.commands marks → AreLegalReplies s (replies s marks)
replies_legal s marks legal =
    let e : map mark_of (replies s marks) ≡ marks = marks-replies s marks legal.many in
    record { legal = rw e legal; replies = ap (replies s) (sym e) }

-- the replies of a run in the log's order are legal
pub serial_replies_legal : (s : ScriptAt) → AreLegalReplies s (replies s (serial_marks s))
serial_replies_legal s = replies_legal s (serial_marks s) (serial_is_legal s)

-- the text of a run in the log's order is a legal transcript
pub serial_text_legal : (log : List ℕ) (s : ScriptAt) → Spells log s → IsLegalTranscript log (text s (serial_marks (plain_script s)))
serial_text_legal log s spelled =
    let run = plain_script s in
    record { script = s; spelled = spelled; told = replies run (serial_marks run); legal = serial_replies_legal run; lines = refl }
