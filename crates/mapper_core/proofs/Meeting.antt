-- All callers meet, and their replies are in one history.
use Rattle.std.proofs.Common.{◌≡◌, ℕ, zero, suc, ◌+◌, ◌<◌, ◌≤◌, ◌==◌, Bool, true, false, List, [], ◌∷◌, ◌++◌, length, take, drop, drop_of_length-le, Option, Some, None, slice_get, refl, ap, sym, ◌∙◌, subst, arith, append-nil}
use Rattle.std.proofs.Math.Seq.{take-length}
use Rattle.std.proofs.lemmas.Bool.Decides.{nat_tests}
use Rattle.std.proofs.lemmas.List.{take-map}
use Rattle.std.specs.Prelude.{MatchOption}
use mathlib.Core.List.{IsPrefix}
use Rattle.map_items.specs.declared.entry.Entry.{Entry}
use Rattle.map_items.specs.declared.update.Update.{Update}
use Rattle.rebuild_parts.specs.History.{updates}
use Rattle.shown_versions.specs.Marks.{Seen, times_listed, IsDistinct, AllOf, callers_of, AllMet, AllGrown, AllMetNow, seen_by_new}
use Rattle.shown_versions.proofs.Counting.{grown_callers}
use Rattle.published_map.proofs.Marking.{get_prefix}
use Rattle.scan_log.specs.Commands.{command_caller, command_update, is_by, is_for}
use Rattle.scan_log.specs.declared.command.Command.{Command}
use Rattle.scan_log.specs.declared.command.Command.TheVariants.{Sync}
use Rattle.scan_log.specs.declared.reply.Reply.{Reply}
use Rattle.scan_log.specs.Legal.{numbers_from}
use Rattle.scan_log.specs.Transcript.{mark_of, totals_reply}
use Rattle.mapper_core.specs.Told.{HasPlace, StandsInHistory, IsReply, raised, Told}
use Rattle.mapper_core.specs.Mine.{keep_made, updates_by, Mine, Ran}
use Rattle.mapper_core.specs.Meetings.{AllMine, MergedFrom, MergedTo, AllDone, Standing, IsTotal}
use Rattle.mapper_core.proofs.Beginnings.{prefix_trans, prefix_length, take_early}
use Rattle.scan_log.proofs.Whose.{later_less}
use Rattle.mapper_base.proofs.Passed.{reply_take}
use Rattle.mapper_core.proofs.Whose.{keep_append}
use Rattle.mapper_core.proofs.LegalMarks.{placed_below}
use Rattle.mapper_core.proofs.OneCaller.{mine_other, mine_next, mine_skip}
use Rattle.mapper_core.proofs.CameBack.{AllBack, back_rest, back_callers}

none_below : (x n k : ℕ) → x < n → times_listed x (numbers_from n k) ≡ 0
none_below x n zero lt = refl
none_below x n (suc k) lt =
    let test : (x == n) ≡ false = grind (arith, nat_tests) in
    let rest = none_below x (n + 1) k (omega arith) in rw test (omega (arith, rest))

pub distinct_counted : (n k : ℕ) → IsDistinct (numbers_from n k)
distinct_counted n zero = tt
distinct_counted n (suc k) = (none_below n (n + 1) k (omega arith), distinct_counted (n + 1) k)

-- the callers who have met are distinct
pub standing_distinct : (voxel : ℕ) (cs : List Command) (ps : List Seen) (rs : List Reply) → Standing voxel cs ps rs → IsDistinct (callers_of ps)
standing_distinct voxel cs ps rs s = subst IsDistinct (sym s.order) (distinct_counted 1 (length ps))

longer_by : (h g : List Entry) (made : Option Update) (owner : Option ℕ) (m : ℕ) → IsPrefix h g → MatchOption made (m ≤ length h) (HasPlace h owner m)
    → MatchOption made (m ≤ length g) (HasPlace g owner m)
longer_by h g (Some u) owner m p a = (a.0, a.1, (a.2.0, get_prefix h g a.0 a.2.0 p a.2.1, a.2.2, a.2.3))
longer_by h g None owner m p a = let l = prefix_length h g p in let le : m ≤ length h = a in omega arith

placed_longer : (h g : List Entry) (c : Command) (m : ℕ) → IsPrefix h g → StandsInHistory h c m → StandsInHistory g c m
placed_longer h g c m p a = longer_by h g (command_update c) (command_caller c) m p a

-- a reply is in a longer history too
reply_longer : (voxel : ℕ) (h g : List Entry) (c : Command) (r : Reply) → IsPrefix h g → IsReply voxel h c r → IsReply voxel g c r
reply_longer voxel h g c r p a =
    let m : ℕ = mark_of r in
    let early : take m g ≡ take m h = take_early h g m p (placed_below h c m a.placed) in
    let same : take m (updates h) ≡ take m (updates g) = take-map (λ (e : Entry). e.update) m h ∙ ap updates (sym early) ∙ sym (take-map (λ (e : Entry). e.update) m g) in
    record { placed = placed_longer h g c m p a.placed; told = a.told ∙ reply_take voxel m (updates h) (updates g) c same }

told_longer : (voxel : ℕ) (h g : List Entry) (lows : ℕ → ℕ) (cs : List Command) (rs : List Reply) (highs : ℕ → ℕ) → IsPrefix h g
    → Told voxel h lows cs rs highs → Told voxel g lows cs rs highs
told_longer voxel h g lows [] [] highs p t = t
told_longer voxel h g lows [] (r ∷ rs) highs p t = absurd t
told_longer voxel h g lows (c ∷ cs) [] highs p t = absurd t
told_longer voxel h g lows (c ∷ cs) (r ∷ rs) highs p t = (
  (λ x is. record { reply = reply_longer voxel h g c r p (t.0 x is).reply; later = (t.0 x is).later }),
  told_longer voxel h g (raised lows c (mark_of r)) cs rs highs p t.1,
)

raised_lower : (lows tops : ℕ → ℕ) (c : Command) (m : ℕ) → ((x : ℕ) → lows x ≤ tops x) → (x : ℕ) → raised lows c m x ≤ raised tops c m x
raised_lower lows tops c m le x = by_case (is_for x c) refl
  where
    by_case : (b : Bool) → is_for x c ≡ b → raised lows c m x ≤ raised tops c m x
    by_case true e = rw e (omega arith)
    by_case false e = rw e (le x)

-- less may be asked of the marks before
told_lower : (voxel : ℕ) (h : List Entry) (lows tops : ℕ → ℕ) (cs : List Command) (rs : List Reply) (highs : ℕ → ℕ) → ((x : ℕ) → lows x ≤ tops x)
    → Told voxel h tops cs rs highs → Told voxel h lows cs rs highs
told_lower voxel h lows tops [] [] highs le t = λ x. let a = le x in let b = t x in omega arith
told_lower voxel h lows tops [] (r ∷ rs) highs le t = absurd t
told_lower voxel h lows tops (c ∷ cs) [] highs le t = absurd t
told_lower voxel h lows tops (c ∷ cs) (r ∷ rs) highs le t = (
  (λ x is. record { reply = (t.0 x is).reply; later = later_less (lows x) (tops x) c (mark_of r) (le x) (t.0 x is).later }),
  told_lower voxel h (raised lows c (mark_of r)) (raised tops c (mark_of r)) cs rs highs (raised_lower lows tops c (mark_of r) le) t.1,
)

-- one run of commands after another
told_append : (voxel : ℕ) (h : List Entry) (lows : ℕ → ℕ) (cs : List Command) (rs : List Reply) (mids : ℕ → ℕ) (ds : List Command) (ss : List Reply) (highs : ℕ → ℕ)
    → Told voxel h lows cs rs mids → Told voxel h mids ds ss highs → Told voxel h lows (cs ++ ds) (rs ++ ss) highs
told_append voxel h lows [] [] mids ds ss highs t v = told_lower voxel h lows mids ds ss highs t v
told_append voxel h lows [] (r ∷ rs) mids ds ss highs t v = absurd t
told_append voxel h lows (c ∷ cs) [] mids ds ss highs t v = absurd t
told_append voxel h lows (c ∷ cs) (r ∷ rs) mids ds ss highs t v = (t.0, told_append voxel h (raised lows c (mark_of r)) cs rs mids ds ss highs t.1 v)

mine_higher_by : (voxel : ℕ) (h : List Entry) (x : ℕ) (c : Command) (cs : List Command) (low : ℕ) (rs : List Reply) (high top : ℕ)
    → ((l : ℕ) (ss : List Reply) → Mine voxel h x cs l ss high → Mine voxel h x cs l ss top) → (b : Bool) → is_by x c ≡ b
    → Mine voxel h x (c ∷ cs) low rs high → Mine voxel h x (c ∷ cs) low rs top
mine_higher_by voxel h x c cs low rs high top more true is m = let n = mine_next voxel h x c cs low rs high is m in rw is (n.0, n.1, n.2, n.3, more (mark_of n.0) n.1 n.4)
mine_higher_by voxel h x c cs low rs high top more false is m = mine_other voxel h x c cs low rs top is (more low rs (mine_skip voxel h x c cs low rs high is m))

mine_higher : (voxel : ℕ) (h : List Entry) (x : ℕ) (cs : List Command) (low : ℕ) (rs : List Reply) (high top : ℕ) → high ≤ top
    → Mine voxel h x cs low rs high → Mine voxel h x cs low rs top
mine_higher voxel h x [] low rs high top le m = (m.0, (let k = m.1 in omega arith))
mine_higher voxel h x (c ∷ cs) low rs high top le m =
    mine_higher_by voxel h x c cs low rs high top (λ l ss n. mine_higher voxel h x cs l ss high top le n) (is_by x c) refl m

-- where all have met, each caller's replies are in the history
all_mine : (voxel : ℕ) (h g : List Entry) (cs : List Command) (n : ℕ) (ps qs ss : List Seen) (lists : List (List Reply)) → callers_of ps ≡ numbers_from n (length ps)
    → AllMet h ps → AllBack (Ran voxel cs) ps qs lists → AllGrown qs ss → AllMet g ss
    → (k x : ℕ) (rs : List Reply) → x ≡ n + k → slice_get lists k ≡ Some rs → Mine voxel g x cs (length h) rs (length g)
all_mine voxel h g cs n [] qs ss [] order met ran grown all k x rs is at = absurd cc
all_mine voxel h g cs n [] qs ss (l ∷ ls) order met ran grown all k x rs is at = absurd (let e = ran.queues in omega arith)
all_mine voxel h g cs n (p ∷ ps) qs ss [] order met ran grown all k x rs is at = absurd cc
all_mine voxel h g cs n (p ∷ ps) [] ss (l ∷ ls) order met ran grown all k x rs is at = absurd (let e = ran.passes in omega arith)
all_mine voxel h g cs n (p ∷ ps) (q ∷ qs) [] (l ∷ ls) order met ran grown all k x rs is at = absurd grown
all_mine voxel h g cs n (p ∷ ps) (q ∷ qs) (s ∷ ss) (l ∷ ls) order met ran grown all zero x rs is at =
    let r : Ran voxel cs p q l = ran.each 0 p q l refl refl refl in
    let pre : IsPrefix q.seen g = subst (λ z. IsPrefix q.seen z) all.0 grown.0.1 in
    let caller : p.caller ≡ n = cc order in
    let who : p.caller ≡ x = (let e : p.caller ≡ n = caller in omega arith) in
    let what : l ≡ rs = cc (at) in
    let m : Mine voxel g p.caller cs (length p.seen) l (length g) =
    mine_higher voxel g p.caller cs (length p.seen) l (length q.seen) (length g) (prefix_length q.seen g pre) (r.told g pre) in
    subst (λ (z : ℕ × (List Entry × List Reply)). Mine voxel g z.0 cs (length z.1.0) z.1.1 (length g)) (λ i. (who i, (met.0 i, what i))) m
all_mine voxel h g cs n (p ∷ ps) (q ∷ qs) (s ∷ ss) (l ∷ ls) order met ran grown all (suc k) x rs is at =
    let more : callers_of ps ≡ numbers_from (n + 1) (length ps) = cc order in
    all_mine voxel h g cs (n + 1) ps qs ss ls more met.2 (back_rest (Ran voxel cs) p q l ps qs ls ran) grown.1 all.2 k x rs (omega arith) at

all_longer : (voxel : ℕ) (h g : List Entry) (cs : List Command) (ps qs ss : List Seen) (lists : List (List Reply)) → AllOf (callers_of ps) h
    → AllMet h ps → AllBack (Ran voxel cs) ps qs lists → AllGrown qs ss → AllMet g ss → IsPrefix h g
all_longer voxel [] g cs [] qs ss lists only met ran grown all = (g, refl)
all_longer voxel (e ∷ h) g cs [] qs ss lists only met ran grown all = absurd (let k = only.0 in omega arith)
all_longer voxel h g cs (p ∷ ps) [] ss lists only met ran grown all = absurd (let e = ran.passes in omega arith)
all_longer voxel h g cs (p ∷ ps) (q ∷ qs) ss [] only met ran grown all = absurd (let e = ran.queues in omega arith)
all_longer voxel h g cs (p ∷ ps) (q ∷ qs) [] (l ∷ ls) only met ran grown all = absurd grown
all_longer voxel h g cs (p ∷ ps) (q ∷ qs) (s ∷ ss) (l ∷ ls) only met ran grown all =
    let r : Ran voxel cs p q l = ran.each 0 p q l refl refl refl in
    let pre : IsPrefix p.seen s.seen = prefix_trans p.seen q.seen s.seen r.seen grown.0.1 in
    subst (λ (z : List Entry × List Entry). IsPrefix z.0 z.1) (λ i. (met.0 i, all.0 i)) pre

pub updates_append : (x : ℕ) (cs ds : List Command) → updates_by x (cs ++ ds) ≡ updates_by x cs ++ updates_by x ds
updates_append x [] ds = refl
updates_append x (c ∷ cs) ds =
    ap (λ us. keep_made (is_by x c) (command_update c) us) (updates_append x cs ds) ∙ keep_append (is_by x c) (command_update c) (updates_by x cs) (updates_by x ds)

all_done : (voxel : ℕ) (cs ds : List Command) (ps qs ss : List Seen) (lists : List (List Reply)) → AllDone cs ps → AllBack (Ran voxel ds) ps qs lists → AllGrown qs ss → AllDone (cs ++ ds) ss
all_done voxel cs ds [] [] [] lists done ran grown = tt
all_done voxel cs ds [] [] (s ∷ ss) lists done ran grown = absurd grown
all_done voxel cs ds [] (q ∷ qs) ss lists done ran grown = absurd (let e = ran.passes in omega arith)
all_done voxel cs ds (p ∷ ps) [] ss lists done ran grown = absurd (let e = ran.passes in omega arith)
all_done voxel cs ds (p ∷ ps) (q ∷ qs) ss [] done ran grown = absurd (let e = ran.queues in omega arith)
all_done voxel cs ds (p ∷ ps) (q ∷ qs) [] (l ∷ ls) done ran grown = absurd grown
all_done voxel cs ds (p ∷ ps) (q ∷ qs) (s ∷ ss) (l ∷ ls) done ran grown =
    let r : Ran voxel ds p q l = ran.each 0 p q l refl refl refl in
    let same : p.caller ≡ s.caller = sym (grown.0.0 ∙ r.caller) in
    let mine : s.mine ≡ updates_by p.caller (cs ++ ds) = grown.0.2 ∙ r.mine ∙ ap (λ z. z ++ updates_by p.caller ds) done.0 ∙ sym (updates_append p.caller cs ds) in (
      mine ∙ ap (λ z. updates_by z (cs ++ ds)) same,
      all_done voxel cs ds ps qs ss ls done.1 (back_rest (Ran voxel ds) p q l ps qs ls ran) grown.1,
    )

pub grown_length : (ps qs : List Seen) → AllGrown ps qs → length qs ≡ length ps
grown_length [] [] g = refl
grown_length [] (q ∷ qs) g = absurd g
grown_length (p ∷ ps) [] g = absurd g
grown_length (p ∷ ps) (q ∷ qs) g = let r = grown_length ps qs g.1 in omega arith

-- the replies are there for each caller, in the history of the meeting
pub told_mine : (voxel : ℕ) (cs ds : List Command) (ps qs ss : List Seen) (lists : List (List Reply)) (old : List Reply) (s : Standing voxel cs ps old) → AllBack (Ran voxel ds) ps qs lists
    → (met : AllMetNow qs ss) → AllMine voxel met.1.0 ds (λ x. length s.history) lists (length met.1.0) × (length s.history ≤ length met.1.0)
told_mine voxel cs ds ps qs ss lists old s ran met = (
  (λ k rs at. all_mine voxel s.history met.1.0 ds 1 ps qs ss lists s.order s.met ran met.0 met.1.1 k (k + 1) rs (omega arith) at),
  prefix_length s.history met.1.0 (all_longer voxel s.history met.1.0 ds ps qs ss lists s.only s.met ran met.0 met.1.1),
)

-- Callers who had met ran more commands and met again
pub standing_phase : (voxel : ℕ) (cs ds : List Command) (ps qs ss : List Seen) (all lists : List (List Reply)) (old new : List Reply)
    → Standing voxel cs ps old → AllBack (Ran voxel ds) ps qs all → AllMetNow qs ss → MergedTo voxel ds [] all lists old new → Standing voxel (cs ++ ds) ss new
standing_phase voxel cs ds ps qs ss all lists old new s ran met to =
    let h : List Entry = s.history in
    let g : List Entry = met.1.0 in
    let pre : IsPrefix h g = all_longer voxel h g ds ps qs ss all s.only s.met ran met.0 met.1.1 in
    let longer = prefix_length h g pre in
    let mine = told_mine voxel cs ds ps qs ss all old s ran met in
    let m : MergedFrom voxel g ds [] (λ x. length h) lists old new (length g) = to g (λ x. length h) (length g) mine.0 (λ x. longer) in
    let here : Told voxel g (λ x. length h) ds (m.replies ++ []) m.now = m.told [] m.now (λ x. omega arith) in
    let part : Told voxel g s.lasts ds m.replies m.now =
    told_lower voxel g s.lasts (λ x. length h) ds m.replies m.now s.below (subst (λ z. Told voxel g (λ x. length h) ds z m.now) (append-nil m.replies) here) in
    let callers : callers_of ss ≡ callers_of ps = grown_callers qs ss met.0 ∙ back_callers (Ran voxel ds) ps qs all (λ p q rs r. r.caller) ran in
    let len : length ss ≡ length ps = grown_length qs ss met.0 ∙ ran.passes in
    record {
      history = g;
      order = callers ∙ s.order ∙ ap (numbers_from 1) (sym len);
      met = met.1.1;
      only = met.1.2;
      done = all_done voxel cs ds ps qs ss all s.done ran met.0;
      lasts = m.now;
      below = m.below;
      told = subst (λ z. Told voxel g (λ x. 0) (cs ++ ds) z m.now) (sym m.added)
          (told_append voxel g (λ x. 0) cs old s.lasts ds m.replies m.now (told_longer voxel h g (λ x. 0) cs old s.lasts pre s.told) part);
    }

met_longer : (h g : List Entry) (ps ss : List Seen) → AllOf (callers_of ps) h → AllMet h ps → AllGrown ps ss → AllMet g ss → IsPrefix h g
met_longer [] g [] ss only met grown all = (g, refl)
met_longer (e ∷ h) g [] ss only met grown all = absurd (let k = only.0 in omega arith)
met_longer h g (p ∷ ps) [] only met grown all = absurd grown
met_longer h g (p ∷ ps) (s ∷ ss) only met grown all = subst (λ (z : List Entry × List Entry). IsPrefix z.0 z.1) (λ i. (met.0 i, all.0 i)) grown.0.1

met_done : (cs : List Command) (ps ss : List Seen) → AllDone cs ps → AllGrown ps ss → AllDone cs ss
met_done cs [] [] done grown = tt
met_done cs [] (s ∷ ss) done grown = absurd grown
met_done cs (p ∷ ps) [] done grown = absurd grown
met_done cs (p ∷ ps) (s ∷ ss) done grown =
    (grown.0.2 ∙ done.0 ∙ ap (λ z. updates_by z cs) (sym grown.0.0), met_done cs ps ss done.1 grown.1)

-- Callers who had met meet again
pub standing_again : (voxel : ℕ) (cs : List Command) (ps ss : List Seen) (rs : List Reply) → Standing voxel cs ps rs → AllMetNow ps ss → Standing voxel cs ss rs
standing_again voxel cs ps ss rs s met =
    let h : List Entry = s.history in
    let g : List Entry = met.1.0 in
    let pre : IsPrefix h g = met_longer h g ps ss s.only s.met met.0 met.1.1 in
    let longer = prefix_length h g pre in
    record {
      history = g;
      order = grown_callers ps ss met.0 ∙ s.order ∙ ap (numbers_from 1) (sym (grown_length ps ss met.0));
      met = met.1.1;
      only = met.1.2;
      done = met_done cs ps ss s.done met.0;
      lasts = s.lasts;
      below = λ x. let b = s.below x in omega arith;
      told = told_longer voxel h g (λ x. 0) cs rs s.lasts pre s.told;
    }

done_sync : (cs : List Command) (ps : List Seen) → AllDone cs ps → AllDone (cs ++ Sync ∷ []) ps
done_sync cs [] done = tt
done_sync cs (p ∷ ps) done = (done.0 ∙ sym (updates_append p.caller cs (Sync ∷ []) ∙ append-nil (updates_by p.caller cs)), done_sync cs ps done.1)

-- Callers who have met pass a barrier
pub standing_sync : (voxel : ℕ) (cs : List Command) (ps : List Seen) (rs : List Reply) (r : Reply) → Standing voxel cs ps rs → IsTotal voxel ps r → Standing voxel (cs ++ Sync ∷ []) ps (rs ++ r ∷ [])
standing_sync voxel cs ps rs r s t =
    let h : List Entry = s.history in
    let n : ℕ = length h in
    let all : Reply = totals_reply voxel (updates h) n in
    let here : Told voxel h s.lasts (Sync ∷ []) (all ∷ []) (λ x. n) =
    ((λ x is. record { reply = record { placed = omega arith; told = refl }; later = s.below x }), λ x. omega arith) in
    let same : Told voxel h s.lasts (Sync ∷ []) (r ∷ []) (λ x. n) = subst (λ z. Told voxel h s.lasts (Sync ∷ []) (z ∷ []) (λ x. n)) (sym (t.1 h s.met)) here in
    record {
      history = h;
      order = s.order;
      met = s.met;
      only = s.only;
      done = done_sync cs ps s.done;
      lasts = λ x. n;
      below = λ x. omega arith;
      told = told_append voxel h (λ x. 0) cs rs s.lasts (Sync ∷ []) (r ∷ []) (λ x. n) s.told same;
    }

start_order : (n : ℕ) (ps : List Seen) → ((k : ℕ) → k < length ps → slice_get ps k ≡ Some (seen_by_new (k + n))) → callers_of ps ≡ numbers_from n (length ps)
start_order n [] all = refl
start_order n (p ∷ ps) all =
    let first : p ≡ seen_by_new (0 + n) = (let e = all 0 (omega arith) in cc (e)) in
    let caller : p.caller ≡ n = ap (λ z. z.caller) first ∙ omega arith in
    let rest = start_order (n + 1) ps (λ k lt. all (suc k) (omega arith) ∙ ap (λ z. Some (seen_by_new z)) (omega arith)) in
    cc (caller, rest)

start_met : (n : ℕ) (ps : List Seen) → ((k : ℕ) → k < length ps → slice_get ps k ≡ Some (seen_by_new (k + n))) → AllMet [] ps
start_met n [] all = tt
start_met n (p ∷ ps) all =
    let first : p ≡ seen_by_new (0 + n) = (let e = all 0 (omega arith) in cc (e)) in
    (ap (λ z. z.seen) first, ap (λ z. z.mine) first, start_met (n + 1) ps (λ k lt. all (suc k) (omega arith) ∙ ap (λ z. Some (seen_by_new z)) (omega arith)))

start_done : (n : ℕ) (ps : List Seen) → ((k : ℕ) → k < length ps → slice_get ps k ≡ Some (seen_by_new (k + n))) → AllDone [] ps
start_done n [] all = tt
start_done n (p ∷ ps) all =
    let first : p ≡ seen_by_new (0 + n) = (let e = all 0 (omega arith) in cc (e)) in
    (ap (λ z. z.mine) first, start_done (n + 1) ps (λ k lt. all (suc k) (omega arith) ∙ ap (λ z. Some (seen_by_new z)) (omega arith)))

-- newcomers have met
pub standing_start : (voxel : ℕ) (ps : List Seen) → ((k : ℕ) → k < length ps → slice_get ps k ≡ Some (seen_by_new (k + 1))) → Standing voxel [] ps []
standing_start voxel ps all =
    record {
      history = [];
      order = start_order 1 ps all;
      met = start_met 1 ps all;
      only = tt;
      done = start_done 1 ps all;
      lasts = λ x. 0;
      below = λ x. omega arith;
      told = λ x. omega arith;
    }

-- what was lent as a slice and comes back with its length
pub lent_back : {A : Type 0} (old new : List A) (n : ℕ) → length new ≡ length old → n ≡ length old → take n (new ++ drop (length new) old) ≡ new
lent_back old new n same is =
    ap (λ z. take n (new ++ z)) (drop_of_length-le old (omega arith)) ∙ ap (take n) (append-nil new) ∙ ap (λ k. take k new) (is ∙ sym same) ∙ take-length new
