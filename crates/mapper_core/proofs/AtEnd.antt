-- What is known where all callers have met: that none of them was stopped, and at the end that the replies are legal.
use Rattle.std.proofs.Common.{◌≡◌, ℕ, zero, suc, ◌+◌, ◌<◌, ◌≤◌, ⊎_elim, true, List, [], ◌∷◌, ◌++◌, length, Option, Some, None, slice_get, refl, ap, sym, ◌∙◌, subst, arith}
use Rattle.std.specs.Option.{option_to_list}
use Rattle.std.proofs.lemmas.List.{length-map, map-append}
use mathlib.Core.List.{IsPrefix}
use Rattle.map_items.specs.declared.entry.Entry.{Entry}
use Rattle.map_items.specs.declared.update.Update.{Update}
use Rattle.map_items.specs.Fold.{fold, points_in}
use Rattle.rebuild_parts.specs.History.{updates}
use Rattle.shown_versions.specs.Marks.{Seen, times_listed, AllOf, callers_of, AllMet, AllGrown, AllMetNow}
use Rattle.scan_log.specs.Commands.{Concerns, command_update, is_by, updates_made}
use Rattle.scan_log.specs.declared.command.Command.{Command}
use Rattle.scan_log.specs.declared.command.Command.TheVariants.{Change}
use Rattle.scan_log.specs.declared.reply.Reply.{Reply}
use Rattle.scan_log.specs.Scripts.{ScriptAt, submitted, points_of}
use Rattle.scan_log.specs.Legal.{numbers_from, AreLegalReplies}
use Rattle.scan_log.specs.Transcript.{totals_reply, mark_of}
use Rattle.mapper_core.specs.Told.{Answers, raised, Told}
use Rattle.mapper_core.specs.Mine.{keep_made, updates_by, Ran, Stopped, Turned}
use Rattle.mapper_core.specs.Meetings.{AllDone, Standing, StandingAtEnd}
use Rattle.mapper_core.specs.Ended.{AllReplied, HaveEnded}
use Rattle.scan_log.proofs.Whose.{anyone, anyone_concerned, updates_few}
use Rattle.mapper_core.proofs.LegalMarks.{told_is_legal}
use Rattle.mapper_core.proofs.OneCaller.{updates_own}
use Rattle.mapper_core.proofs.CameBack.{AllBack, back_rest}
use Rattle.mapper_core.proofs.Meeting.{updates_append, standing_distinct}
use Rattle.mapper_core.proofs.Weights.{weigh, weigh_append, weigh_one, weigh_points, entries_whole, commands_of, commands_most, commands_whole, AllChangesOf, all_points, made, made_met, made_done}

-- there are no more commands and points than a script may have
pub record AreFew (cs : List Command) : Type 0 where
  pub few : length cs ≤ 65536
  pub room : points_of cs ≤ 4194304

-- a caller has made no more than its commands among these
turn_weight : (w : Update → ℕ) (voxel : ℕ) (cs ds : List Command) (p q : Seen) (rs : List Reply) → p.mine ≡ updates_by p.caller cs → Turned voxel ds p q rs
    → weigh w q.mine ≤ weigh w (updates_by p.caller (cs ++ ds))
turn_weight w voxel cs ds p q rs done t =
    let whole : p.mine ++ updates_by p.caller ds ≡ updates_by p.caller (cs ++ ds) = ap (λ z. z ++ updates_by p.caller ds) done ∙ sym (updates_append p.caller cs ds) in
    ⊎_elim
    (λ (r : Ran voxel ds p q rs). let e : weigh w q.mine ≡ weigh w (updates_by p.caller (cs ++ ds)) = ap (weigh w) (r.mine ∙ whole) in omega arith)
    (λ (s : Stopped voxel ds p q).
    let rest = updates_by p.caller (s.next ∷ s.left) in
    let e : weigh w (q.mine ++ rest) ≡ weigh w (updates_by p.caller (cs ++ ds)) = ap (weigh w) (s.mine ∙ whole) in
    let a = weigh_append w q.mine rest in omega arith) t

own_made : (made : Option Update) → keep_made true made [] ≡ option_to_list made ++ []
own_made (Some u) = refl
own_made None = refl

own_weight : (w : Update → ℕ) (x : ℕ) (c : Command) → is_by x c ≡ true → weigh w (updates_by x (c ∷ [])) ≡ weigh w (updates_made (c ∷ []))
own_weight w x c is = let e : updates_by x (c ∷ []) ≡ updates_made (c ∷ []) = rw is (own_made (command_update c)) in ap (weigh w) e

-- and where it was stopped, the next command is one of them too
stop_weight : (w : Update → ℕ) (voxel : ℕ) (cs ds : List Command) (p q : Seen) → p.mine ≡ updates_by p.caller cs → (s : Stopped voxel ds p q)
    → weigh w q.mine + weigh w (updates_made (s.next ∷ [])) ≤ weigh w (updates_by p.caller (cs ++ ds))
stop_weight w voxel cs ds p q done s =
    let x : ℕ = p.caller in
    let own = updates_by x (s.next ∷ []) in
    let rest = updates_by x s.left in
    let whole : q.mine ++ (own ++ rest) ≡ updates_by x (cs ++ ds) =
    ap (λ z. q.mine ++ z) (sym (updates_own x s.next s.left)) ∙ s.mine ∙ ap (λ z. z ++ updates_by x ds) done ∙ sym (updates_append x cs ds) in
    let e : weigh w (q.mine ++ (own ++ rest)) ≡ weigh w (updates_by x (cs ++ ds)) = ap (weigh w) whole in
    let a = weigh_append w q.mine (own ++ rest) in
    let b = weigh_append w own rest in
    let c = own_weight w x s.next s.own in omega arith

turns_weight : (w : Update → ℕ) (voxel : ℕ) (cs ds : List Command) (ps qs ss : List Seen) (lists : List (List Reply)) → AllDone cs ps → AllBack (Turned voxel ds) ps qs lists → AllGrown qs ss
    → made w ss ≤ commands_of w (callers_of ps) (cs ++ ds)
unfolding made commands_of
turns_weight w voxel cs ds [] [] [] lists done back grown = omega arith
turns_weight w voxel cs ds [] [] (s ∷ ss) lists done back grown = absurd grown
turns_weight w voxel cs ds [] (q ∷ qs) ss lists done back grown = absurd (let e = back.passes in omega arith)
turns_weight w voxel cs ds (p ∷ ps) [] ss lists done back grown = absurd (let e = back.passes in omega arith)
turns_weight w voxel cs ds (p ∷ ps) (q ∷ qs) ss [] done back grown = absurd (let e = back.queues in omega arith)
turns_weight w voxel cs ds (p ∷ ps) (q ∷ qs) [] (l ∷ ls) done back grown = absurd grown
turns_weight w voxel cs ds (p ∷ ps) (q ∷ qs) (s ∷ ss) (l ∷ ls) done back grown =
    let one = turn_weight w voxel cs ds p q l done.0 (back.each 0 p q l refl refl refl) in
    let same : weigh w s.mine ≡ weigh w q.mine = ap (weigh w) grown.0.2 in
    let rest = turns_weight w voxel cs ds ps qs ss ls done.1 (back_rest (Turned voxel ds) p q l ps qs ls back) grown.1 in omega arith

stops_weight : (w : Update → ℕ) (voxel : ℕ) (cs ds : List Command) (ps qs ss : List Seen) (lists : List (List Reply)) (k : ℕ) (a b : Seen)
    → AllDone cs ps → AllBack (Turned voxel ds) ps qs lists → AllGrown qs ss → slice_get ps k ≡ Some a → slice_get qs k ≡ Some b → (s : Stopped voxel ds a b)
    → made w ss + weigh w (updates_made (s.next ∷ [])) ≤ commands_of w (callers_of ps) (cs ++ ds)
unfolding made commands_of
stops_weight w voxel cs ds [] qs ss lists k a b done back grown at there stop = absurd (cc at)
stops_weight w voxel cs ds (p ∷ ps) [] ss lists k a b done back grown at there stop = absurd (cc there)
stops_weight w voxel cs ds (p ∷ ps) (q ∷ qs) ss [] k a b done back grown at there stop = absurd (let e = back.queues in omega arith)
stops_weight w voxel cs ds (p ∷ ps) (q ∷ qs) [] (l ∷ ls) k a b done back grown at there stop = absurd grown
stops_weight w voxel cs ds (p ∷ ps) (q ∷ qs) (s ∷ ss) (l ∷ ls) zero a b done back grown at there stop =
    let first : a ≡ p = cc (at) in
    let second : b ≡ q = cc (there) in
    let x : a.caller ≡ p.caller = ap (λ z. z.caller) first in
    let mine : a.mine ≡ updates_by a.caller cs = ap (λ z. z.mine) first ∙ done.0 ∙ ap (λ z. updates_by z cs) (sym x) in
    let one = stop_weight w voxel cs ds a b mine stop in
    let own : weigh w (updates_by a.caller (cs ++ ds)) ≡ weigh w (updates_by p.caller (cs ++ ds)) = ap (λ z. weigh w (updates_by z (cs ++ ds))) x in
    let same : weigh w s.mine ≡ weigh w b.mine = ap (weigh w) (grown.0.2 ∙ ap (λ z. z.mine) (sym second)) in
    let rest = turns_weight w voxel cs ds ps qs ss ls done.1 (back_rest (Turned voxel ds) p q l ps qs ls back) grown.1 in omega arith
stops_weight w voxel cs ds (p ∷ ps) (q ∷ qs) (s ∷ ss) (l ∷ ls) (suc k) a b done back grown at there stop =
    let one = turn_weight w voxel cs ds p q l done.0 (back.each 0 p q l refl refl refl) in
    let same : weigh w s.mine ≡ weigh w q.mine = ap (weigh w) grown.0.2 in
    let rest = stops_weight w voxel cs ds ps qs ss ls k a b done.1 (back_rest (Turned voxel ds) p q l ps qs ls back) grown.1 at there stop in omega arith

seen_begins : (g : List Entry) (qs ss : List Seen) (k : ℕ) (q : Seen) → AllGrown qs ss → AllMet g ss → slice_get qs k ≡ Some q → IsPrefix q.seen g
seen_begins g [] ss k q grown met at = absurd (cc at)
seen_begins g (p ∷ qs) [] k q grown met at = absurd grown
seen_begins g (p ∷ qs) (s ∷ ss) zero q grown met at =
    let e : p ≡ q = cc (at) in subst (λ (z : Seen × List Entry). IsPrefix z.0.seen z.1) (λ i. (e i, met.0 i)) grown.0.1
seen_begins g (p ∷ qs) (s ∷ ss) (suc k) q grown met at = seen_begins g qs ss k q grown.1 met.2 at

prefix_weight : (w : Update → ℕ) (s h : List Entry) → IsPrefix s h → weigh w (updates s) ≤ weigh w (updates h)
prefix_weight w s h p =
    let e : weigh w (updates (s ++ p.0)) ≡ weigh w (updates h) = ap (λ z. weigh w (updates z)) p.1 in
    let a : weigh w (updates (s ++ p.0)) ≡ weigh w (updates s ++ updates p.0) = ap (weigh w) (map-append (λ (e : Entry). e.update) s p.0) in
    let b = weigh_append w (updates s) (updates p.0) in omega arith

-- what a stopped caller had seen, and its next command, weigh no more than all commands
stop_room : (w : Update → ℕ) (voxel : ℕ) (cs ds : List Command) (ps qs ss : List Seen) (lists : List (List Reply)) (old : List Reply) (k : ℕ) (p q : Seen)
    → Standing voxel cs ps old → AllBack (Turned voxel ds) ps qs lists → (met : AllMetNow qs ss) → slice_get ps k ≡ Some p → slice_get qs k ≡ Some q → (s : Stopped voxel ds p q)
    → weigh w (updates q.seen) + weigh w (updates_made (s.next ∷ [])) ≤ weigh w (updates_made (cs ++ ds))
stop_room w voxel cs ds ps qs ss lists old k p q standing back met at there s =
    let g : List Entry = met.1.0 in
    let a = prefix_weight w q.seen g (seen_begins g qs ss k q met.0 met.1.1 there) in
    let b = entries_whole w (callers_of ss) g met.1.2 in
    let c = made_met w g ss met.1.1 in
    let d = stops_weight w voxel cs ds ps qs ss lists k p q standing.done back met.0 at there s in
    let e = commands_most w (callers_of ps) (cs ++ ds) (standing_distinct voxel cs ps old standing) in omega arith

-- within a script's limits no caller is stopped
no_stop : (voxel : ℕ) (cs ds : List Command) (ps qs ss : List Seen) (lists : List (List Reply)) (old : List Reply) (k : ℕ) (p q : Seen)
    → AreFew (cs ++ ds) → Standing voxel cs ps old → AllBack (Turned voxel ds) ps qs lists → AllMetNow qs ss → slice_get ps k ≡ Some p → slice_get qs k ≡ Some q → Stopped voxel ds p q → ⊥
no_stop voxel cs ds ps qs ss lists old k p q few standing back met at there s =
    ⊎_elim
    (λ (long : 1048576 ≤ length q.seen).
    let a = stop_room (λ u. 1) voxel cs ds ps qs ss lists old k p q standing back met at there s in
    let b = weigh_one (updates q.seen) in
    let c = length-map q.seen (λ (e : Entry). e.update) in
    let d = weigh_one (updates_made (cs ++ ds)) in
    let e = updates_few (cs ++ ds) in
    let f = few.few in absurd (omega arith))
    (λ (many : 4194304 < (fold voxel (updates q.seen)).next + submitted s.next).
    let a = stop_room points_in voxel cs ds ps qs ss lists old k p q standing back met at there s in
    let b = weigh_points voxel (updates q.seen) in
    let c = all_points (cs ++ ds) in
    let d = all_points (s.next ∷ []) in
    let e = few.room in absurd (omega arith)) s.over

-- so all callers have run their commands
pub all_ran : (voxel : ℕ) (cs ds : List Command) (ps qs ss : List Seen) (lists : List (List Reply)) (old : List Reply)
    → AreFew (cs ++ ds) → Standing voxel cs ps old → AllBack (Turned voxel ds) ps qs lists → AllMetNow qs ss → AllBack (Ran voxel ds) ps qs lists
all_ran voxel cs ds ps qs ss lists old few standing back met = record {
  passes = back.passes;
  queues = back.queues;
  each = λ k p q rs at there here.
      ⊎_elim (λ (r : Ran voxel ds p q rs). r) (λ (s : Stopped voxel ds p q). absurd (no_stop voxel cs ds ps qs ss lists old k p q few standing back met at there s))
      (back.each k p q rs at there here);
}

only_at : (cs : List ℕ) (h : List Entry) (k : ℕ) (e : Entry) → AllOf cs h → slice_get h k ≡ Some e → times_listed e.caller cs ≡ 1
only_at cs [] k e o at = absurd cc
only_at cs (g ∷ h) zero e o at = let same : g ≡ e = cc (at) in subst (λ z. times_listed z.caller cs ≡ 1) same o.0
only_at cs (g ∷ h) (suc k) e o at = only_at cs h k e o.1 at

told_own : (voxel : ℕ) (cs : List ℕ) (h : List Entry) (low x : ℕ) (u : Update) (r : Reply) → AllOf cs h → Answers voxel h low (Change x u) r → times_listed x cs ≡ 1
told_own voxel cs h low x u r o a = let at = a.reply.placed in subst (λ z. times_listed z cs ≡ 1) at.2.2 (only_at cs h at.0 at.2.0 o at.2.1)

-- each update that has a reply is of one of the callers
changes_told : (voxel : ℕ) (cs : List ℕ) (h : List Entry) (lows : ℕ → ℕ) (ds : List Command) (rs : List Reply) (highs : ℕ → ℕ) → AllOf cs h → Told voxel h lows ds rs highs → AllChangesOf cs ds
unfolding AllChangesOf
changes_told voxel cs h lows [] rs highs o t = tt
changes_told voxel cs h lows (d ∷ ds) [] highs o t = absurd t
changes_told voxel cs h lows (d ∷ ds) (r ∷ rs) highs o t = (
  λ x u is. told_own voxel cs h (lows x) x u r o (subst (λ c. (y : ℕ) → Concerns y c → Answers voxel h (lows y) c r) is t.0 x refl),
  changes_told voxel cs h (raised lows d (mark_of r)) ds rs highs o t.1,
)

-- Callers who have met after all commands got the transcript
standing_end : (s : ScriptAt) (ps : List Seen) (rs : List Reply) (ending : Reply) (standing : Standing s.sizes.voxel s.commands ps rs)
    → ending ≡ totals_reply s.sizes.voxel (updates standing.history) (length standing.history) → AreLegalReplies s (rs ++ ending ∷ [])
standing_end s ps rs ending standing total =
    let h : List Entry = standing.history in
    let cs = s.commands in
    let w : Update → ℕ = λ u. 1 in
    let a = entries_whole w (callers_of ps) h standing.only in
    let b = made_met w h ps standing.met in
    let c = made_done w cs ps standing.done in
    let d = commands_whole w (callers_of ps) cs (changes_told s.sizes.voxel (callers_of ps) h (λ x. 0) cs rs standing.lasts standing.only standing.told) in
    let e = weigh_one (updates h) in
    let f = length-map h (λ (e : Entry). e.update) in
    let g = weigh_one (updates_made cs) in
    told_is_legal s h (λ x. 0) rs standing.lasts ending standing.told (omega arith) total

pub ended_is_legal : (n : ℕ) (s : ScriptAt) (ps : List Seen) (rs : List Reply) → StandingAtEnd s.sizes.voxel n s.commands ps rs → AreLegalReplies s rs
ended_is_legal n s ps rs e =
    subst (λ z. AreLegalReplies s z) (sym e.replies) (standing_end s ps e.front e.ending e.standing (e.total.1 e.standing.history e.standing.met))

all_replied : (voxel : ℕ) (h : List Entry) (lows : ℕ → ℕ) (cs : List Command) (rs : List Reply) (highs : ℕ → ℕ) (ending : Reply)
    → Told voxel h lows cs rs highs → ending ≡ totals_reply voxel (updates h) (length h) → AllReplied voxel h cs (rs ++ ending ∷ [])
all_replied voxel h lows [] [] highs ending t total = total
all_replied voxel h lows [] (r ∷ rs) highs ending t total = absurd t
all_replied voxel h lows (c ∷ cs) [] highs ending t total = absurd t
all_replied voxel h lows (c ∷ cs) (r ∷ rs) highs ending t total =
    ((t.0 (anyone c) (anyone_concerned c)).reply, all_replied voxel h (raised lows c (mark_of r)) cs rs highs ending t.1 total)

pub have_ended : (n : ℕ) (s : ScriptAt) (ps : List Seen) (rs : List Reply) → StandingAtEnd s.sizes.voxel n s.commands ps rs → HaveEnded n s ps rs
have_ended n s ps rs e =
    let t : Standing s.sizes.voxel s.commands ps e.front = e.standing in
    record {
      history = t.history;
      callers = t.order ∙ ap (numbers_from 1) e.all;
      seen = t.met;
      only = t.only;
      done = t.done;
      replied = subst (λ z. AllReplied s.sizes.voxel t.history s.commands z) (sym e.replies)
          (all_replied s.sizes.voxel t.history (λ x. 0) s.commands e.front t.lasts e.ending t.told (e.total.1 t.history t.met));
    }
