-- The reply of each line, and how far lines were compared with theirs.
use Rattle.std.proofs.Common.{◌≡◌, ℕ, zero, suc, ◌+◌, ◌-◌, ◌<◌, ◌≤◌, Bool, List, [], ◌∷◌, length, get_or, take, drop, map, slice_get, refl, sym, ap, ◌∙◌, subst, arith, Some, None, inl, inr}
use Rattle.std.specs.List.{All, AllByRecursion, Contains}
use Rattle.std.specs.List.Sorted.{IsNonDecreasingBy}
use Rattle.std.specs.Option.{ForSome}
use Rattle.std.specs.Option.{option_map}
use Rattle.std.specs.Bool.{Decides}
use Rattle.std.proofs.lemmas.Bool.{cases_order}
use Rattle.std.proofs.lemmas.List.{length-map, drop-map, take-map, get_or-map, get_or_default}
use Rattle.std.proofs.lemmas.List.Elements.{All-from_recursion, All-get_or}
use Rattle.std.proofs.lemmas.Option.{slice_get_within, slice_get-get_or, slice_get-map, get_or_from_slice_get}
use Rattle.map_items.specs.declared.item.Item.{Item}
use Rattle.map_items.specs.declared.update.Update.{Update}
use Rattle.map_items.specs.Fold.{MapAt, fold, fold_from, no_points}
use Rattle.map_items.specs.Sizes.{Sizes}
use Rattle.scan_log.proofs.Whose.{updates_few}
use Rattle.scan_log.specs.declared.command.Command.{Command}
use Rattle.scan_log.specs.Legal.{IsLegal}
use Rattle.scan_log.specs.declared.format.Format.{Format}
use Rattle.scan_log.specs.Plain.{IsPlain, IsPlainScript}
use Rattle.scan_log.specs.Scripts.{ScriptAt}
use Rattle.scan_log.specs.Transcript.{held_at, history, replies_from, reply_text, marked_updates, updates_in}
use Rattle.transcript_check.specs.MarkedLines.{changes_of, line_texts, lines_under, marks_of, points_in_all, reply_at, updates_of, IsPlaced}
use Rattle.transcript_check.specs.Verdicts.{reply_lines, IsFirstOther}
use Rattle.transcript_check.specs.declared.lines.MarkedLine.{MarkedLine}
use Rattle.transcript_check.specs.declared.order.Marked.{Marked}
use Rattle.transcript_check.specs.declared.order.Placed.{Placed}
use Rattle.transcript_check.proofs.Folding.{changes_history, fold_next, points_of_front, points_of_history, fold_on, room_on}
use Rattle.transcript_check.proofs.LegalMarks.{updates_long}

-- the line of the reply at a place
pub line_at : (format : Format) (voxel : ℕ) (h : List Update) (cs : List Command) (marks : List ℕ) (i m : ℕ) → length marks ≡ length cs + 1 → slice_get marks i ≡ Some m
    → slice_get (reply_lines format cs (replies_from voxel h cs marks)) i ≡ Some (reply_text format (slice_get cs i) (reply_at (held_at voxel h m) (slice_get cs i) m))
line_at format voxel h [] [] i m many e = absurd (omega arith)
line_at format voxel h [] (k ∷ []) zero m many e =
    let same : k ≡ m = cc in
    ap (λ (n : ℕ). Some (reply_text format None (reply_at (held_at voxel h n) None n))) same
line_at format voxel h [] (k ∷ []) (suc i) m many e = absurd (cc)
line_at format voxel h [] (k ∷ j ∷ marks) i m many e = absurd (omega arith)
line_at format voxel h (c ∷ cs) [] i m many e = absurd (omega arith)
line_at format voxel h (c ∷ cs) (k ∷ marks) zero m many e =
    let same : k ≡ m = cc in
    ap (λ (n : ℕ). Some (reply_text format (Some c) (reply_at (held_at voxel h n) (Some c) n))) same
line_at format voxel h (c ∷ cs) (k ∷ marks) (suc i) m many e = line_at format voxel h cs marks i m (omega arith) e

pub length-reply_lines : (format : Format) (voxel : ℕ) (h : List Update) (cs : List Command) (marks : List ℕ) → length marks ≡ length cs + 1
    → length (reply_lines format cs (replies_from voxel h cs marks)) ≡ length cs + 1
length-reply_lines format voxel h [] [] many = absurd (omega arith)
length-reply_lines format voxel h [] (k ∷ []) many = refl
length-reply_lines format voxel h [] (k ∷ j ∷ marks) many = absurd (omega arith)
length-reply_lines format voxel h (c ∷ cs) [] many = absurd (omega arith)
length-reply_lines format voxel h (c ∷ cs) (k ∷ marks) many = let r = length-reply_lines format voxel h cs marks (omega arith) in omega arith

-- a line is that of its reply
abbrev pub SameAt : ScriptAt → List MarkedLine → ℕ → Type 0
SameAt s marked_lines i = slice_get (line_texts marked_lines) i ≡ slice_get (lines_under s (marks_of marked_lines)) i

-- What is given: legal marks, and the updates by them.
pub record IsGiven (s : ScriptAt) (marked_lines : List MarkedLine) (us : List Marked) (places : List Placed) : Type 0 where
  pub script : IsPlainScript s
  pub legal : IsLegal s.commands (marks_of marked_lines)
  pub many : length marked_lines ≡ length s.commands + 1
  pub updates : updates_of us ≡ marked_updates s.commands (marks_of marked_lines)
  pub order : IsNonDecreasingBy (λ (p : Placed). p.mark) places
  pub placed : All (IsPlaced (marks_of marked_lines)) places
  pub all : (i m : ℕ) → slice_get (marks_of marked_lines) i ≡ Some m → Contains places (record { mark = m; place = i })

-- How far lines were compared: those at the first k places, of which none before the line named is another than its reply's.
pub record SoFar (s : ScriptAt) (marked_lines : List MarkedLine) (us : List Marked) (places : List Placed) (k : ℕ) (held : MapAt) (level first : ℕ) : Type 0 where
  pub low : level ≤ length us
  pub map : held ≡ fold s.sizes.voxel (take level (changes_of us))
  pub later : (j : ℕ) (d : Placed) → k ≤ j → j < length places → level ≤ (get_or places j d).mark
  pub few : first ≤ length marked_lines
  pub same : (j : ℕ) (d : Placed) → j < k → (get_or places j d).place < first → SameAt s marked_lines (get_or places j d).place
  pub other : first < length marked_lines → SameAt s marked_lines first → ⊥

pub so_far_start : (s : ScriptAt) (marked_lines : List MarkedLine) (us : List Marked) (places : List Placed)
    (held : MapAt) (level first : ℕ) → held ≡ no_points → level ≡ 0 → first ≡ length marked_lines
    → SoFar s marked_lines us places 0 held level first
so_far_start s marked_lines us places held level first is zero_is all = rw (zero_is, all) (record {
  low = omega arith;
  map = is;
  later = λ j d from below. omega arith;
  few = omega arith;
  same = λ j d below _. absurd (omega arith);
  other = λ below _. absurd (omega arith);
})

-- the mark at a place is no more than there are updates
mark_within : (s : ScriptAt) (marked_lines : List MarkedLine) (us : List Marked) (places : List Placed) (k : ℕ)
    (p : Placed) → IsGiven s marked_lines us places → k < length places → p ≡ get_or places k p
    → (p.mark ≤ length us) × (p.place < length marked_lines) × (slice_get (marks_of marked_lines) p.place ≡ Some p.mark)
mark_within s marked_lines us places k p given below is =
    let marks = marks_of marked_lines in
    let placed : slice_get marks p.place ≡ Some p.mark = subst (λ (q : Placed). slice_get marks q.place ≡ Some q.mark) (sym is) (given.placed k p below) in
    let within = slice_get_within marks p.place p.mark placed in
    let read : get_or marks p.place 0 ≡ p.mark = get_or_from_slice_get marks p.place p.mark 0 placed in
    let all = All-get_or (λ m. m ≤ updates_in s.commands) marks p.place 0 within (All-from_recursion (λ m. m ≤ updates_in s.commands) marks given.legal.none_above) in
    let long = updates_long s.commands marks us given.updates given.legal.many in
    (omega (arith, all, read, long), omega (arith, within, length-map marked_lines (λ (t : MarkedLine). t.mark)), placed)

-- the level is no more than the mark at the place
level_low : (s : ScriptAt) (marked_lines : List MarkedLine) (us : List Marked) (places : List Placed) (k : ℕ)
    (held : MapAt) (level first : ℕ) (p : Placed) → SoFar s marked_lines us places k held level first
    → k < length places → p ≡ get_or places k p → level ≤ p.mark
level_low s marked_lines us places k held level first p so below is = subst (λ (q : Placed). level ≤ q.mark) (sym is) (so.later k p (omega arith) below)

part_changes : (i n : ℕ) (us : List Marked) → changes_of (take n (drop i us)) ≡ take n (drop i (changes_of us))
part_changes i n us = sym (ap (take n) (drop-map (λ (u : Marked). u.update.now) i us) ∙ take-map (λ (u : Marked). u.update.now) n (drop i us))

-- there is room for the updates up to the mark
room_to : (s : ScriptAt) (marked_lines : List MarkedLine) (us : List Marked) (places : List Placed) (k : ℕ) (held : MapAt) (level first mark : ℕ) → IsGiven s marked_lines us places
    → SoFar s marked_lines us places k held level first → level ≤ mark → held.next + points_in_all (changes_of (take (mark - level) (drop level us))) ≤ 4194304
room_to s marked_lines us places k held level first mark given so up =
    rw (part_changes level (mark - level) us) (room_on s.sizes.voxel level mark (changes_of us) held 4194304 up so.map
    (omega (arith, ap points_in_all (changes_history s.commands (marks_of marked_lines) us given.updates), points_of_history s.commands (marks_of marked_lines), given.script.room)))

-- the map at the mark
pub held_to : (s : ScriptAt) (marked_lines : List MarkedLine) (us : List Marked) (places : List Placed) (k : ℕ)
    (held new : MapAt) (level first mark : ℕ) → SoFar s marked_lines us places k held level first
    → level ≤ mark → (z : Sizes) → z ≡ s.sizes → new ≡ fold_from z.voxel (changes_of (take (mark - level) (drop level us))) held
    → new ≡ fold s.sizes.voxel (take mark (changes_of us))
held_to s marked_lines us places k held new level first mark so up z sizes is =
    is ∙ ap (λ (y : Sizes). fold_from y.voxel (changes_of (take (mark - level) (drop level us))) held) sizes
    ∙ ap (λ (vs : List Update). fold_from s.sizes.voxel vs held) (part_changes level (mark - level) us) ∙ fold_on s.sizes.voxel level mark (changes_of us) held up so.map

-- few points were submitted up to a mark
pub few_points : (s : ScriptAt) (marked_lines : List MarkedLine) (us : List Marked) (places : List Placed) (mark : ℕ) (new : MapAt) → IsGiven s marked_lines us places
    → new ≡ fold s.sizes.voxel (take mark (changes_of us)) → new.next ≤ 4194304
few_points s marked_lines us places mark new given is =
    omega (
      arith,
      ap (λ (m : MapAt). m.next) is,
      fold_next s.sizes.voxel (take mark (changes_of us)) no_points,
      points_of_front mark (changes_of us),
      ap points_in_all (changes_history s.commands (marks_of marked_lines) us given.updates),
      points_of_history s.commands (marks_of marked_lines),
      given.script.room,
    )

-- the command of a line is in its limits
pub good_at : (cs : List Command) (i : ℕ) → AllByRecursion IsPlain cs → ForSome (slice_get cs i) IsPlain
good_at [] i good x e = absurd (cc)
good_at (c ∷ cs) zero good x e = let same : c ≡ x = cc in subst IsPlain same good.0
good_at (c ∷ cs) (suc i) good x e = good_at cs i good.1 x e

-- a line is its reply's where it is the text on the map at its mark
pub same_as : (s : ScriptAt) (marked_lines : List MarkedLine) (us : List Marked) (places : List Placed) (new : MapAt) (i m : ℕ) (d : MarkedLine) → IsGiven s marked_lines us places
    → new ≡ fold s.sizes.voxel (take m (changes_of us)) → i < length marked_lines → slice_get (marks_of marked_lines) i ≡ Some m
    → (right : List ℕ) × (slice_get (line_texts marked_lines) i ≡ Some (get_or marked_lines i d).line.now) × (slice_get (lines_under s (marks_of marked_lines)) i ≡ Some right)
    × (right ≡ reply_text s.format (slice_get s.commands i) (reply_at new.items (slice_get s.commands i) m))
same_as s marked_lines us places new i m d given is below placed =
    let marks = marks_of marked_lines in
    let h = history s.commands marks in
    let changes = changes_history s.commands marks us given.updates in
    let items : held_at s.sizes.voxel h m ≡ new.items = ap (λ (vs : List Update). (fold s.sizes.voxel (take m vs)).items) (sym changes) ∙ ap (λ (n : MapAt). n.items) (sym is) in (
      reply_text s.format (slice_get s.commands i) (reply_at (held_at s.sizes.voxel h m) (slice_get s.commands i) m),
      slice_get-map (λ (t : MarkedLine). t.line.now) marked_lines i ∙ ap (option_map (λ (t : MarkedLine). t.line.now)) (slice_get-get_or marked_lines i d below),
      line_at s.format s.sizes.voxel h s.commands marks i m given.legal.many placed,
      ap (λ (xs : List Item). reply_text s.format (slice_get s.commands i) (reply_at xs (slice_get s.commands i) m)) items,
    )

abbrev pub blank_place : Placed
blank_place = record { mark = 0; place = 0 }

-- what is given, of an equal list
pub given_of : (s : ScriptAt) (marked_lines : List MarkedLine) (us : List Marked) (places ats : List Placed)
    → IsPlainScript s → IsLegal s.commands (marks_of marked_lines) → length marked_lines ≡ length s.commands + 1
    → updates_of us ≡ marked_updates s.commands (marks_of marked_lines) → ats ≡ places → IsNonDecreasingBy (λ (p : Placed). p.mark) places → All (IsPlaced (marks_of marked_lines)) places
    → ((i m : ℕ) → slice_get (marks_of marked_lines) i ≡ Some m → Contains places (record { mark = m; place = i })) → IsGiven s marked_lines us ats
given_of s marked_lines us places ats script legal many updates same order placed all =
    rw same (record { script = script; legal = legal; many = many; updates = updates; order = order; placed = placed; all = all })

-- there are few enough lines and updates
few_given : (s : ScriptAt) (marked_lines : List MarkedLine) (us : List Marked) (places : List Placed) → IsGiven s marked_lines us places → (length us ≤ 65536) × (length marked_lines ≤ 65537)
few_given s marked_lines us places given =
    (omega (arith, updates_long s.commands (marks_of marked_lines) us given.updates given.legal.many, updates_few s.commands, given.script.few), omega (arith, given.many, given.script.few))

-- What is so at the place that comes next.
pub record IsHere (s : ScriptAt) (marked_lines : List MarkedLine) (us : List Marked) (held : MapAt) (level : ℕ) (p : Placed) : Type 0 where
  pub up : level ≤ p.mark
  pub mark : p.mark ≤ length us
  pub place : p.place < length marked_lines
  pub placed : slice_get (marks_of marked_lines) p.place ≡ Some p.mark
  pub updates : length us ≤ 65536
  pub lines : length marked_lines ≤ 65537
  pub room : held.next + points_in_all (changes_of (take (p.mark - level) (drop level us))) ≤ 4194304

pub here_at : (s : ScriptAt) (marked_lines : List MarkedLine) (us : List Marked) (places : List Placed) (k : ℕ) (held : MapAt) (level first : ℕ) → IsGiven s marked_lines us places
    → SoFar s marked_lines us places k held level first → k < length places → IsHere s marked_lines us held level (get_or places k blank_place)
here_at s marked_lines us places k held level first given so below =
    let p = get_or places k blank_place in
    let here : p ≡ get_or places k p = get_or_default places k blank_place p below in
    let w = mark_within s marked_lines us places k p given below here in
    let up = level_low s marked_lines us places k held level first p so below here in
    let few = few_given s marked_lines us places given in
    record { up = up; mark = w.0; place = w.1; placed = w.2; updates = few.0; lines = few.1; room = room_to s marked_lines us places k held level first p.mark given so up }

up_to : (k j : ℕ) (P : ℕ → Type 0) → j < k + 1 → (j < k → P j) → (j ≡ k → P j) → P j
up_to k j P h below here = elim (cases_order j k) [
  | inl same ↦ here same
  | inr other ↦ elim other [ inl before ↦ below before | inr after ↦ absurd (omega arith) ]
]

-- one place more, whose line is that of its reply if it is before the line named
pub so_far_same : (s : ScriptAt) (marked_lines : List MarkedLine) (us : List Marked) (places : List Placed) (k : ℕ) (held new : MapAt) (level first : ℕ) (p : Placed) → IsGiven s marked_lines us places
    → SoFar s marked_lines us places k held level first → k < length places → p ≡ get_or places k p → new ≡ fold s.sizes.voxel (take p.mark (changes_of us))
    → (p.place < first → SameAt s marked_lines p.place) → SoFar s marked_lines us places (k + 1) new p.mark first
so_far_same s marked_lines us places k held new level first p given so below is map here =
    let w = mark_within s marked_lines us places k p given below is in
    let at : (d : Placed) → get_or places k d ≡ p = λ d. get_or_default places k d p below ∙ sym is in
    record {
      low = w.0;
      map = map;
      later = λ j d from in_it. let up = given.order k j d (omega arith) in_it in let e = ap (λ (q : Placed). q.mark) (at d) in omega arith;
      few = so.few;
      same = λ j d low. up_to k j (λ i. (get_or places i d).place < first → SameAt s marked_lines (get_or places i d).place) low (λ less. so.same j d less)
          (λ e. subst (λ (i : ℕ). (get_or places i d).place < first → SameAt s marked_lines (get_or places i d).place) (sym e)
          (subst (λ (q : Placed). q.place < first → SameAt s marked_lines q.place) (sym (at d)) here));
      other = so.other;
    }

-- one place more, before the line named and not that of its reply
pub so_far_other : (s : ScriptAt) (marked_lines : List MarkedLine) (us : List Marked) (places : List Placed) (k : ℕ)
    (held new : MapAt) (level first : ℕ) (p : Placed) → IsGiven s marked_lines us places
    → SoFar s marked_lines us places k held level first → k < length places → p ≡ get_or places k p → new ≡ fold s.sizes.voxel (take p.mark (changes_of us))
    → p.place < first → (SameAt s marked_lines p.place → ⊥) → SoFar s marked_lines us places (k + 1) new p.mark p.place
so_far_other s marked_lines us places k held new level first p given so below is map lower never =
    let w = mark_within s marked_lines us places k p given below is in
    let at : (d : Placed) → get_or places k d ≡ p = λ d. get_or_default places k d p below ∙ sym is in
    record {
      low = w.0;
      map = map;
      later = λ j d from in_it. let up = given.order k j d (omega arith) in_it in let e = ap (λ (q : Placed). q.mark) (at d) in omega arith;
      few = omega (arith, w.1);
      same = λ j d low. up_to k j (λ i. (get_or places i d).place < p.place → SameAt s marked_lines (get_or places i d).place) low (λ less less_place. so.same j d less (omega arith))
          (λ e less_place. absurd (let f = ap (λ (q : Placed). q.place) (at d) in let g = ap (λ (i : ℕ). (get_or places i d).place) e in omega arith));
      other = λ _. never;
    }

-- all before the line named are those of their replies
pub same_before : (s : ScriptAt) (marked_lines : List MarkedLine) (us : List Marked) (places : List Placed) (k : ℕ) (held : MapAt) (level first : ℕ) → IsGiven s marked_lines us places
    → SoFar s marked_lines us places k held level first → length places ≤ k → (i : ℕ) → i < first → SameAt s marked_lines i
same_before s marked_lines us places k held level first given so all i low =
    let marks = marks_of marked_lines in
    let few = so.few in
    let long = length-map marked_lines (λ (t : MarkedLine). t.mark) in
    let m = get_or marks i 0 in
    let there : slice_get marks i ≡ Some m = slice_get-get_or marks i 0 (omega arith) in
    let found = given.all i m there in
    let p : Placed = record { mark = m; place = i } in
    let within = found.1 in
    let e : (get_or places found.0 p).place ≡ i = ap (λ (q : Placed). q.place) found.2 in
    subst (SameAt s marked_lines) e (so.same found.0 p (omega arith) (omega arith))

same_lists_by_get : (xs ys : List (List ℕ)) → length xs ≡ length ys → ((i : ℕ) → i < length xs → slice_get xs i ≡ slice_get ys i) → xs ≡ ys
same_lists_by_get [] [] long h = refl
same_lists_by_get [] (y ∷ ys) long h = absurd (omega arith)
same_lists_by_get (x ∷ xs) [] long h = absurd (omega arith)
same_lists_by_get (x ∷ xs) (y ∷ ys) long h =
    let first : Some x ≡ Some y = h 0 (omega arith) in
    let head : x ≡ y = cc in
    ap (λ (z : List ℕ). z ∷ xs) head ∙ ap (λ (zs : List (List ℕ)). y ∷ zs) (same_lists_by_get xs ys (omega arith) (λ i low. h (suc i) (omega arith)))

-- all lines are those of their replies
pub all_same : (s : ScriptAt) (marked_lines : List MarkedLine) (us : List Marked) (places : List Placed) (k : ℕ) (held : MapAt) (level first : ℕ) → IsGiven s marked_lines us places
    → SoFar s marked_lines us places k held level first → length places ≤ k → length marked_lines ≤ first → line_texts marked_lines ≡ lines_under s (marks_of marked_lines)
all_same s marked_lines us places k held level first given so all past =
    let long = length-map marked_lines (λ (t : MarkedLine). t.line.now) in
    let right = length-reply_lines s.format s.sizes.voxel (history s.commands (marks_of marked_lines)) s.commands (marks_of marked_lines) given.legal.many in
    same_lists_by_get (line_texts marked_lines) (lines_under s (marks_of marked_lines)) (long ∙ given.many ∙ sym right)
    (λ i low. same_before s marked_lines us places k held level first given so all i (omega arith))

-- the line named is the first that is another
pub first_is : (s : ScriptAt) (marked_lines : List MarkedLine) (us : List Marked) (places : List Placed) (k : ℕ) (held : MapAt) (level first : ℕ) → IsGiven s marked_lines us places
    → SoFar s marked_lines us places k held level first → length places ≤ k → first < length marked_lines → IsFirstOther (lines_under s (marks_of marked_lines)) (line_texts marked_lines) (first + 1)
first_is s marked_lines us places k held level first given so all below = record {
  before = first;
  place = refl;
  same = same_before s marked_lines us places k held level first given so all;
  other = so.other below;
}

-- from the comparison of the line with the text of its reply
pub same_by : (s : ScriptAt) (marked_lines : List MarkedLine) (us : List Marked) (places : List Placed) (new : MapAt)
    (p : Placed) (t : MarkedLine) (same : Bool) (format : Format) → IsGiven s marked_lines us places
    → new ≡ fold s.sizes.voxel (take p.mark (changes_of us)) → p.place < length marked_lines → slice_get (marks_of marked_lines) p.place ≡ Some p.mark → t ≡ get_or marked_lines p.place t
    → format ≡ s.format
    → Decides same (t.line.now
    ≡ reply_text format (slice_get s.commands p.place) (reply_at new.items (slice_get s.commands p.place) t.mark))
    → Decides same (SameAt s marked_lines p.place)
same_by s marked_lines us places new p t same format given is below placed here version given_d =
    let d : Decides same (t.line.now ≡ reply_text s.format (slice_get s.commands p.place) (reply_at new.items (slice_get s.commands p.place) t.mark)) = rw version at given_d in
    let at = same_as s marked_lines us places new p.place p.mark t given is below placed in
    let mark : t.mark ≡ p.mark =
    ap (λ (u : MarkedLine). u.mark) here ∙ sym (get_or-map (λ (u : MarkedLine). u.mark) marked_lines p.place t 0 below) ∙ get_or_from_slice_get (marks_of marked_lines) p.place p.mark 0 placed in
    let line : t.line.now ≡ (get_or marked_lines p.place t).line.now = ap (λ (u : MarkedLine). u.line.now) here in
    let text : reply_text s.format (slice_get s.commands p.place) (reply_at new.items (slice_get s.commands p.place) t.mark) ≡ at.0 =
    ap (λ (m : ℕ). reply_text s.format (slice_get s.commands p.place) (reply_at new.items (slice_get s.commands p.place) m)) mark ∙ sym at.3 in (
      (λ yes. at.1 ∙ ap (λ (l : List ℕ). Some l) (sym line ∙ d.0 yes ∙ text) ∙ sym at.2),
      (λ e. d.1 (
          let both : Some (get_or marked_lines p.place t).line.now ≡ Some at.0 = sym at.1 ∙ e ∙ at.2 in
          let inner : (get_or marked_lines p.place t).line.now ≡ at.0 = cc in
          line ∙ inner ∙ sym text)),
    )
