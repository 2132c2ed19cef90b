-- A part of a log that grows by the lines of one entry after the other.
use Rattle.std.proofs.Common.{◌≡◌, ℕ, zero, suc, ◌+◌, ◌<◌, ◌≤◌, List, [], ◌∷◌, ◌++◌, length, take, drop, get_or, min, Option, None, Some, refl, ap, sym, ◌∙◌, subst, inl, inr, ◌⊎◌, arith, append_assoc, append-nil, length-append, nat_eq, true, false, is_some, IfNone, IfSome}
use Rattle.std.specs.List.{AllByRecursion, flat_map}
use Rattle.std.proofs.Math.Seq.{take-suc}
use Rattle.std.proofs.lemmas.Bool.{eqb-true}
use Rattle.std.proofs.lemmas.Grind.{flat_map-append}
use Rattle.std.proofs.lemmas.List.{drop-append-le, drop_all, length-take-le, nil_from_length, take-append-drop, take-append-le, take-take, take_all}
use Rattle.map_items.specs.Sizes.{Sizes}
use Rattle.map_items.specs.declared.entry.Entry.{Entry}
use Rattle.rebuild_core.specs.Lawful.{IsLawful, StateAt}
use Rattle.scan_log.specs.Scripts.{IsCommand}
use Rattle.scan_log.specs.Spelling.{Spells}
use Rattle.scan_log.specs.Written.{command_text, script_text}
use Rattle.scan_log.specs.declared.command.Command.{Command}
use Rattle.scan_log.specs.declared.format.Format.TheVariants.{Two}
use Rattle.history_log.specs.declared.part.Stop.{Stop}
use Rattle.history_log.specs.declared.part.Stop.TheVariants as stop
use Rattle.std.proofs.lemmas.List.Elements.{All-from_recursion}
use Rattle.history_log.specs.Lines.{HasLines, IsByCaller, line_count, line_of, lines_of}
use Rattle.history_log.specs.Log.{AreLines, AreWhole, EndsThere, HasTooManyLines, IsEntryStop, IsLogFault, IsStop, JoinInTurn, StayWritten, entries_between, fault_of, header_text, lines_text, log_part, opening, opening_of, script_of}
use Rattle.history_log.proofs.Entries.{by_callers}
use Rattle.history_log.proofs.Scripts.{are_lines, each_append, length-line_of, log_spelled}
use Rattle.std.proofs.lemmas.Bool.Decides.{nat_tests}

-- one more entry
between_more : (from at : ℕ) (h : List Entry) (e : Entry) → from ≤ at → at < length h → e ≡ get_or h at e → entries_between from (suc at) h ≡ entries_between from at h ++ e ∷ []
between_more from at h e above below is =
    let long : from ≤ length (take at h) = omega (arith, length-take-le at h (omega arith)) in
    ap (λ xs. drop from xs) (take-suc h at e below ∙ ap (λ x. take at h ++ x ∷ []) (sym is)) ∙ drop-append-le from (take at h) (e ∷ []) long

lines_push : (h : List Entry) (e : Entry) → lines_of (h ++ e ∷ []) ≡ lines_of h ++ line_of e
lines_push h e = flat_map-append line_of h (e ∷ []) ∙ ap (λ x. lines_of h ++ x) (append-nil (line_of e))

text_push : (h : List Entry) (e : Entry) → lines_text (h ++ e ∷ []) ≡ lines_text h ++ flat_map (command_text Two) (line_of e)
text_push h e = ap (flat_map (command_text Two)) (lines_push h e) ∙ flat_map-append (command_text Two) (lines_of h) (line_of e)

-- what a part begins with
opening_none : (sizes : Sizes) (from at : ℕ) (rest line : List ℕ) → from ≤ at → 0 < at
    → opening_of sizes from (suc at) ++ (rest ++ line)
    ≡ (opening_of sizes from at ++ rest) ++ (opening sizes at ++ line)
opening_none sizes from zero rest line above some = absurd (omega arith)
opening_none sizes zero (suc at) rest line above some = sym (append_assoc (header_text sizes) rest line)
opening_none sizes (suc from) (suc at) rest line above some = refl

-- the part with one more entry
pub part_more : (s : StateAt) (from at : ℕ) (e : Entry) → from ≤ at → at < length s.history → e ≡ get_or s.history at e
    → log_part s from (suc at) ≡ log_part s from at ++ (opening s.settings at ++ flat_map (command_text Two) (line_of e))
part_more s zero zero e above below is = ap (λ x. header_text s.settings ++ x) (ap lines_text (between_more 0 0 s.history e above below is) ∙ text_push (entries_between 0 0 s.history) e)
part_more s (suc from) zero e above below is = absurd (omega arith)
part_more s from (suc at) e above below is =
    ap (λ x. opening_of s.settings from (suc (suc at)) ++ x) (ap lines_text (between_more from (suc at) s.history e above below is) ∙ text_push (entries_between from (suc at) s.history) e)
    ∙ opening_none s.settings from (suc at) (lines_text (entries_between from (suc at) s.history)) (flat_map (command_text Two) (line_of e)) above (omega arith)

-- The part has the lines of the entries from the first on and below this one, and `lines` lines were counted.
pub record IsSoFar (s : StateAt) (from at room : ℕ) (bytes : List ℕ) (lines : ℕ) : Type 0 where
  pub text : bytes ≡ log_part s from at
  pub fits : length bytes ≤ room
  pub counted : lines ≡ min 65537 (length (lines_of (take at s.history)))
  pub said : from < at → AreLines s from at

empty_between : (from : ℕ) (h : List Entry) → from ≤ length h → entries_between from from h ≡ []
empty_between from h there = drop_all from (take from h) (omega (arith, length-take-le from h there))

opening_same : (sizes : Sizes) (from : ℕ) → opening_of sizes from from ≡ []
opening_same sizes zero = refl
opening_same sizes (suc from) = refl

empty_part : (s : StateAt) (from : ℕ) → from ≤ length s.history → log_part s from from ≡ []
empty_part s from there = rw (opening_same s.settings from, empty_between from s.history there) refl

-- nothing is written yet
pub none_so_far : (s : StateAt) (from room lines : ℕ) (bytes : List ℕ) → from ≤ length s.history → bytes ≡ []
    → lines ≡ min 65537 (length (lines_of (take from s.history))) → IsSoFar s from from room bytes lines
none_so_far s from room lines bytes there none count = record {
  text = none ∙ sym (empty_part s from there);
  fits = omega (arith, ap (λ (xs : List ℕ). length xs) none);
  counted = count;
  said = λ (h : from < from). absurd (omega arith);
}

pub count_more : (at n : ℕ) (h : List Entry) (e : Entry) → n ≡ suc at → at < length h → e ≡ get_or h at e → length (lines_of (take n h)) ≡ length (lines_of (take at h)) + line_count e.update
count_more at n h e next below is =
    let one : lines_of (take (suc at) h) ≡ lines_of (take at h) ++ line_of e = ap lines_of (take-suc h at e below ∙ ap (λ x. take at h ++ x ∷ []) (sym is)) ∙ lines_push (take at h) e in
    ap (λ m. length (lines_of (take m h))) next
    ∙ ap (λ (xs : List Command). length xs) one ∙ length-append (lines_of (take at h)) (line_of e) ∙ ap (λ n. length (lines_of (take at h)) + n) (length-line_of e)

le_cases : (m n : ℕ) → m ≤ n → (m < n) ⊎ (m ≡ n)
le_cases m n h = grind arith

suc_add : (n : ℕ) → suc n ≡ n + 1
suc_add n = omega arith

said_before : (s : StateAt) (from at : ℕ) → from ≤ at → at ≤ length s.history → (from < at → AreLines s from at) → AllByRecursion (IsCommand Two) (lines_of (entries_between from at s.history))
said_before s from at above there said =
    elim (le_cases from at above) [
      | inl less ↦ (said less).each
      | inr same ↦ subst (λ n. AllByRecursion (IsCommand Two) (lines_of (entries_between from n s.history))) same (rw (empty_between from s.history (omega arith)) tt)
    ]

-- one entry more
pub one_more : (s : StateAt) (from at room lines count n : ℕ) (bytes next : List ℕ) (e : Entry) → IsLawful s
    → IsSoFar s from at room bytes lines → from ≤ at → at < length s.history → e ≡ get_or s.history at e
    → next ≡ bytes ++ (opening s.settings at ++ flat_map (command_text Two) (line_of e)) → HasLines e.update
    → lines + line_count e.update ≤ 65536 → length next ≤ room → count ≡ lines + line_count e.update → n ≡ suc at
    → IsSoFar s from n room next count
one_more s from at room lines count n bytes next e k so above below is put has few fits sum at_next =
    let total = count_more at (suc at) s.history e refl below is in
    let by : IsByCaller e = subst IsByCaller (sym is) (All-from_recursion IsByCaller s.history (by_callers [] s.history k.entries) at e below) in
    let commands : AllByRecursion (IsCommand Two) (lines_of (entries_between from (suc at) s.history)) =
    subst (AllByRecursion (IsCommand Two)) (sym (ap lines_of (between_more from at s.history e above below is) ∙ lines_push (entries_between from at s.history) e))
    (each_append (IsCommand Two) (lines_of (entries_between from at s.history)) (line_of e) (said_before s from at above (omega arith) so.said) (are_lines e by has)) in
    rw at_next
    (record {
      text = put ∙ ap (λ x. x ++ (opening s.settings at ++ flat_map (command_text Two) (line_of e))) so.text ∙ sym (part_more s from at e above below is);
      fits = fits;
      counted = omega (arith, sum, so.counted, few, total);
      said = λ (h : from < suc at). record { each = commands; few = omega (arith, so.counted, few, total) };
    })

-- what stops an entry stops the part
pub stops : (s : StateAt) (from at room lines : ℕ) (bytes : List ℕ) (e : Entry) (why : Stop) → IsSoFar s from at room bytes lines → from ≤ at → at < length s.history → e ≡ get_or s.history at e
    → IsEntryStop bytes s.settings e at lines room why → IsStop s from at room why
stops s from at room lines bytes e stop.NoLine so above below is why = (e, below, is, why)
stops s from at room lines bytes e stop.TooManyUpdates so above below is why =
    let more : 65536 < length (lines_of (take (suc at) s.history)) = omega (arith, so.counted, why, count_more at (suc at) s.history e refl below is) in
    (below, subst (λ n. 65536 < length (lines_of (take n s.history))) (suc_add at) more)
stops s from at room lines bytes e stop.NoRoom so above below is why =
    let whole : bytes ++ (opening s.settings at ++ flat_map (command_text Two) (line_of e)) ≡ log_part s from (suc at)
    = ap (λ x. x ++ (opening s.settings at ++ flat_map (command_text Two) (line_of e))) so.text ∙ sym (part_more s from at e above below is) in
    let more : room < length (log_part s from (suc at)) = omega (arith, why, ap (λ (xs : List ℕ). length xs) whole) in
    (below, subst (λ n. room < length (log_part s from n)) (suc_add at) more)

lines_text-append : (g h : List Entry) → lines_text (g ++ h) ≡ lines_text g ++ lines_text h
lines_text-append g h = ap (flat_map (command_text Two)) (flat_map-append line_of g h) ∙ flat_map-append (command_text Two) (lines_of g) (lines_of h)

between_join : (a b c : ℕ) (h : List Entry) → a ≤ b → b ≤ c → c ≤ length h → entries_between a b h ++ entries_between b c h ≡ entries_between a c h
between_join a b c h ab bc there =
    let long : a ≤ length (take b h) = omega (arith, length-take-le b h (omega arith)) in
    sym (drop-append-le a (take b h) (drop b (take c h)) long)
    ∙ ap (λ xs. drop a (xs ++ drop b (take c h))) (sym (take-take b c h bc))
    ∙ ap (λ xs. drop a xs) (take-append-drop b (take c h))

-- where something is before the seam, the second part has no header, and the whole begins as the first part does
openings_join : (sizes : Sizes) (a b c : ℕ) (x y : List ℕ) → a ≤ suc b → suc b ≤ c → (opening_of sizes a (suc b) ++ x) ++ (opening_of sizes (suc b) c ++ y) ≡ opening_of sizes a c ++ (x ++ y)
openings_join sizes a b zero x y ab bc = absurd (omega arith)
openings_join sizes zero b (suc c) x y ab bc = append_assoc (header_text sizes) x y
openings_join sizes (suc a) b (suc c) x y ab bc = refl

pub joined : JoinInTurn
joined s zero zero c ab bc there = refl
joined s (suc a) zero c ab bc there = absurd (omega arith)
joined s a (suc b) c ab bc there =
    openings_join s.settings a b c (lines_text (entries_between a (suc b) s.history)) (lines_text (entries_between (suc b) c s.history)) ab bc
    ∙ ap (λ x. opening_of s.settings a c ++ x) (sym (lines_text-append (entries_between a (suc b) s.history) (entries_between (suc b) c s.history))
    ∙ ap lines_text (between_join a (suc b) c s.history ab bc there))

opening_first : (sizes : Sizes) (n : ℕ) → 0 < n → opening_of sizes 0 n ≡ header_text sizes
opening_first sizes zero some = absurd (omega arith)
opening_first sizes (suc n) some = refl

all_between : (n : ℕ) (h : List Entry) → n ≡ length h → entries_between 0 n h ≡ h
all_between n h is = take_all n h (omega arith)

pub whole : AreWhole
whole s some = rw (opening_first s.settings (length s.history) some, all_between (length s.history) s.history refl) refl

pub stay : StayWritten
stay s t more a b sizes longer there = rw (sizes, longer, take-append-le b s.history more there) refl

-- no header is before other updates than the first
pub opening_later : (sizes : Sizes) (at : ℕ) → 0 < at → opening sizes at ≡ []
opening_later sizes zero some = absurd (omega arith)
opening_later sizes (suc at) some = refl

-- the entries from the first one on
all_up_to : (s : StateAt) (next : ℕ) → next ≡ length s.history → take next s.history ≡ s.history
all_up_to s next is = take_all next s.history (omega arith)

-- The part of all updates is the log, and it spells the script.
pub record IsAll (s : StateAt) (bytes : List ℕ) : Type 0 where
  pub text : bytes ≡ script_text (script_of s)
  pub spells : Spells bytes (script_of s)

pub all_of : (s : StateAt) (bytes : List ℕ) (next room : ℕ) (stop : Option Stop) → IsLawful s
    → nat_eq (length s.history) 0 ≡ false → bytes ≡ log_part s 0 next → stop ≡ None → EndsThere s 0 next room stop
    → (0 < next → AreLines s 0 next) → IsAll s bytes
all_of s bytes next room stop k some text none ends lines =
    let end : next ≡ length s.history = subst (EndsThere s 0 next room) none ends in
    let any : 0 < length s.history = grind (arith, nat_tests) in
    let found : AreLines s 0 next = lines (omega arith) in
    let same : take next s.history ≡ s.history = all_up_to s next end in
    let each : AllByRecursion (IsCommand Two) (lines_of s.history) = subst (λ h. AllByRecursion (IsCommand Two) (lines_of h)) same found.each in
    let few : length (lines_of s.history) ≤ 65536 = subst (λ h. length (lines_of h) ≤ 65536) same found.few in
    let is : bytes ≡ script_text (script_of s) = text ∙ ap (λ n. log_part s 0 n) end ∙ whole s any in
    record { text = is; spells = subst (λ b. Spells b (script_of s)) (sym is) (log_spelled s k each few) }

-- and so is the header, where there are no updates
pub none_of : (s : StateAt) (bytes : List ℕ) → IsLawful s → nat_eq (length s.history) 0 ≡ true → bytes ≡ header_text s.settings → IsAll s bytes
none_of s bytes k none text =
    let nothing : s.history ≡ [] = nil_from_length s.history (eqb-true (length s.history) 0 none) in
    let each : AllByRecursion (IsCommand Two) (lines_of s.history) = subst (λ h. AllByRecursion (IsCommand Two) (lines_of h)) (sym nothing) tt in
    let few : length (lines_of s.history) ≤ 65536 = subst (λ h. length (lines_of h) ≤ 65536) (sym nothing) (omega arith) in
    let is : bytes ≡ script_text (script_of s) = text ∙ sym (append-nil (header_text s.settings)) ∙ ap (λ h. header_text s.settings ++ lines_text h) (sym nothing) in
    record { text = is; spells = subst (λ b. Spells b (script_of s)) (sym is) (log_spelled s k each few) }

more_lines : (h : List Entry) (n : ℕ) → length (lines_of (take n h)) ≤ length (lines_of h)
more_lines h n =
    let parts : lines_of (take n h) ++ lines_of (drop n h) ≡ lines_of h = sym (flat_map-append line_of (take n h) (drop n h)) ∙ ap lines_of (take-append-drop n h) in
    omega (arith, length-append (lines_of (take n h)) (lines_of (drop n h)), ap (λ (xs : List Command). length xs) parts)

-- what stops the part of all updates is why there is no log
pub no_log : (s : StateAt) (next room : ℕ) (found : Option Stop) (why : Stop) → found ≡ Some why → EndsThere s 0 next room found → IsLogFault s.history (fault_of why next)
no_log s next room found stop.NoLine is ends = subst (EndsThere s 0 next room) is ends
no_log s next room found stop.TooManyUpdates is ends =
    let many : HasTooManyLines s.history next = subst (EndsThere s 0 next room) is ends in
    omega (arith, many.1, more_lines s.history (next + 1))
no_log s next room found stop.NoRoom is ends = tt

-- what is so where nothing stops an entry
pub unstopped : (P : Type 0) (found : Option Stop) → is_some found ≡ false → IfNone found P → P
unstopped P None is h = h
unstopped P (Some why) is h = cc

pub stopped : (s : StateAt) (from at room lines : ℕ) (bytes : List ℕ) (sizes : Sizes) (e : Entry) (found : Option Stop)
    → is_some found ≡ true → IfSome found (IsEntryStop bytes sizes e at lines room) → sizes ≡ s.settings
    → IsSoFar s from at room bytes lines → from ≤ at → at < length s.history → e ≡ get_or s.history at e → EndsThere s from at room found
stopped s from at room lines bytes sizes e None is h same so above below here = cc
stopped s from at room lines bytes sizes e (Some why) is h same so above below here =
    stops s from at room lines bytes e why so above below here (subst (λ z. IsEntryStop bytes z e at lines room why) same h)
