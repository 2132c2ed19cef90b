-- What is found of a transcript, and of no other kind.
use Rattle.std.proofs.Common.{◌≡◌, ℕ, suc, ◌+◌, ◌≤◌, List, [], ◌∷◌, ◌++◌, length, take, drop, map, slice_get, refl, sym, ap, ◌∙◌, subst, arith, append_assoc, inl, inr}
use Rattle.std.specs.Prelude.{decimal, ◌↔◌}
use Rattle.std.specs.List.{AllByRecursion}
use Rattle.std.proofs.lemmas.Fmt.{decimal_injective}
use Rattle.std.proofs.lemmas.List.{append_cancel_left, length-map, length-take}
use Rattle.log_numbers.specs.Numerals.{first_field}
use Rattle.scan_log.specs.declared.command.Command.{Command}
use Rattle.scan_log.specs.declared.reply.Reply.{Reply}
use Rattle.scan_log.specs.Legal.{AreLegalLines, IsLegal}
use Rattle.scan_log.specs.Plain.{IsPlainScript}
use Rattle.scan_log.specs.Poses.{no_regions, plain, plain_script}
use Rattle.scan_log.specs.Scripts.{ScriptAt, IsScript}
use Rattle.scan_log.specs.Transcript.{history, replies, updates_in, mark_of, text}
use Rattle.scan_log.proofs.Plains.{length-plain_from}
use Rattle.scan_log.proofs.Serial.{replies_legal}
use Rattle.transcript_check.specs.Heads.{heads, IsNoFeed, IsMarked, SpellMarks}
use Rattle.transcript_check.specs.Verdicts.{joined_lines, reply_lines, script_lines, Stops, IsUnspelled, IsSpelled, IsFirstOther, IsVerdict}
use Rattle.transcript_check.specs.declared.verdict.Verdict.{Verdict}
use Rattle.transcript_check.specs.declared.verdict.Verdict.TheVariants.{Legal, Unspelled, Marks, Differs}
use Rattle.transcript_check.proofs.ReadLines.{length-heads, spell_long}
use Rattle.transcript_check.specs.MarkedLines.{line_texts, lines_under, marks_of}
use Rattle.transcript_check.specs.declared.lines.MarkedLine.{MarkedLine}
use Rattle.scan_log.proofs.Whose.{updates_few}
use Rattle.transcript_check.proofs.Replays.{length-reply_lines}
use Rattle.std.proofs.lemmas.Bool.{cases_order}
use Rattle.std.proofs.lemmas.Option.{slice_get_past}
use Rattle.transcript_check.proofs.ReplyLines.{spell_replies, joined_replies, heads-plain_from, reply_lines-plain_from}

-- where two lists begin with a line, it is the same line
pub record IsSameCut (a b r t : List ℕ) : Type 0 where
  pub lines : a ≡ b
  pub rests : r ≡ t

same_cut : (a b r t : List ℕ) → AllByRecursion IsNoFeed a → AllByRecursion IsNoFeed b → (a ++ 10 ∷ []) ++ r ≡ (b ++ 10 ∷ []) ++ t → IsSameCut a b r t
same_cut [] [] r t p q e = record { lines = refl; rests = cc }
same_cut [] (y ∷ b) r t p q e = absurd (q.0 (let same : 10 ≡ y = cc in sym same))
same_cut (x ∷ a) [] r t p q e = absurd (p.0 (let same : x ≡ 10 = cc in same))
same_cut (x ∷ a) (y ∷ b) r t p q e =
    let first : x ≡ y = cc in
    let tail : (a ++ 10 ∷ []) ++ r ≡ (b ++ 10 ∷ []) ++ t = cc in
    let s = same_cut a b r t p.1 q.1 tail in
    record { lines = ap (λ z. z ∷ a) first ∙ ap (λ (zs : List ℕ). y ∷ zs) s.lines; rests = s.rests }

-- two marked first lines are the same, and their marks
pub record IsSameLine (x y r t : List ℕ) (m n : ℕ) : Type 0 where
  pub lines : x ≡ y
  pub rests : r ≡ t
  pub marks : m ≡ n

same_line : (head : List ℕ) (x y r t : List ℕ) (m n : ℕ) → IsMarked head x m → IsMarked head y n → x ++ r ≡ y ++ t → IsSameLine x y r t m n
same_line head x y r t m n p q e =
    let whole : (p.line ++ 10 ∷ []) ++ r ≡ (q.line ++ 10 ∷ []) ++ t = ap (λ (z : List ℕ). z ++ r) (sym p.ended) ∙ e ∙ ap (λ (z : List ℕ). z ++ t) q.ended in
    let s = same_cut p.line q.line r t p.one q.one whole in
    let behind : p.spelled.behind ≡ q.spelled.behind = append_cancel_left head p.spelled.behind q.spelled.behind (sym p.spelled.begun ∙ s.lines ∙ q.spelled.begun) in
    let numbers : decimal m ≡ decimal n = sym p.spelled.number ∙ ap first_field behind ∙ q.spelled.number in
    let few = p.spelled.few in
    let less = q.spelled.few in
    record {
      lines = p.ended ∙ ap (λ (z : List ℕ). z ++ 10 ∷ []) s.lines ∙ sym q.ended;
      rests = s.rests;
      marks = decimal_injective m n (omega arith) (omega arith) numbers;
    }

-- the lines and their marks are determined
pub record AreSame (xs ys : List (List ℕ)) (ms ns : List ℕ) : Type 0 where
  pub lines : xs ≡ ys
  pub marks : ms ≡ ns

same_spelled : (cs : List (List ℕ)) (xs ys : List (List ℕ)) (ms ns : List ℕ) → SpellMarks cs xs ms → SpellMarks cs ys ns → joined_lines xs ≡ joined_lines ys → AreSame xs ys ms ns
same_spelled [] [] [] [] [] p q e = record { lines = refl; marks = refl }
same_spelled [] [] [] [] (n ∷ ns) p q e = absurd q
same_spelled [] [] (y ∷ ys) [] ns p q e = absurd q
same_spelled [] [] ys (m ∷ ms) ns p q e = absurd p
same_spelled [] (x ∷ xs) ys ms ns p q e = absurd p
same_spelled (c ∷ cs) [] ys ms ns p q e = absurd p
same_spelled (c ∷ cs) (x ∷ xs) ys [] ns p q e = absurd p
same_spelled (c ∷ cs) (x ∷ xs) [] (m ∷ ms) ns p q e = absurd q
same_spelled (c ∷ cs) (x ∷ xs) (y ∷ ys) (m ∷ ms) [] p q e = absurd q
same_spelled (c ∷ cs) (x ∷ xs) (y ∷ ys) (m ∷ ms) (n ∷ ns) p q e =
    let s = same_line c x y (joined_lines xs) (joined_lines ys) m n p.0 q.0 e in
    let r = same_spelled cs xs ys ms ns p.1 q.1 s.rests in
    record {
      lines = ap (λ (z : List ℕ). z ∷ xs) s.lines ∙ ap (λ (zs : List (List ℕ)). y ∷ zs) r.lines;
      marks = ap (λ z. z ∷ ms) s.marks ∙ ap (λ (zs : List ℕ). n ∷ zs) r.marks;
    }

-- what is spelled to the end stops nowhere before
stops_never : (cs : List (List ℕ)) (lines whole : List (List ℕ)) (marks all rest : List ℕ) → SpellMarks (take (length lines) cs) lines marks → SpellMarks cs whole all
    → joined_lines lines ++ rest ≡ joined_lines whole → Stops (drop (length lines) cs) rest → ⊥
stops_never [] [] [] marks [] rest p q e s = omega (arith, ap length e, s)
stops_never [] [] [] marks (n ∷ all) rest p q e s = q
stops_never [] [] (y ∷ whole) marks all rest p q e s = q
stops_never (c ∷ cs) [] [] marks all rest p q e s = q
stops_never (c ∷ cs) [] (y ∷ whole) marks [] rest p q e s = q
stops_never (c ∷ cs) [] (y ∷ whole) marks (n ∷ all) rest p q e s = s y (joined_lines whole) n e q.0
stops_never [] (x ∷ lines) whole marks all rest p q e s = p
stops_never (c ∷ cs) (x ∷ lines) whole [] all rest p q e s = p
stops_never (c ∷ cs) (x ∷ lines) [] (m ∷ marks) all rest p q e s = q
stops_never (c ∷ cs) (x ∷ lines) (y ∷ whole) (m ∷ marks) [] rest p q e s = q
stops_never (c ∷ cs) (x ∷ lines) (y ∷ whole) (m ∷ marks) (n ∷ all) rest p q e s =
    let same = same_line c x y (joined_lines lines ++ rest) (joined_lines whole) m n p.0 q.0 (sym (append_assoc x (joined_lines lines) rest) ∙ e) in
    stops_never cs lines whole marks all rest p.1 q.1 same.rests s

-- What a legal transcript is made of.
pub record IsMade (s : ScriptAt) (out marks : List ℕ) : Type 0 where
  pub legal : IsLegal (plain s.commands) marks
  pub cut : out ≡ joined_lines (script_lines s marks)
  pub spelled : SpellMarks (heads s.commands) (script_lines s marks) marks

few_marks : (n : ℕ) (marks : List ℕ) → n ≤ 65536 → AllByRecursion (λ m. m ≤ n) marks → AllByRecursion (λ m. m ≤ 65536) marks
few_marks n [] few h = tt
few_marks n (m ∷ marks) few h = (omega (arith, h.0), few_marks n marks few h.1)

-- there is a mark for each command and one for the end
plain_long : (s : ScriptAt) → length (plain s.commands) ≡ length s.commands
plain_long s = length-plain_from no_regions s.commands

-- the lines of a script are those without its poses
pub plain_lines : (s : ScriptAt) (marks : List ℕ) → lines_under (plain_script s) marks ≡ script_lines s marks
plain_lines s marks = reply_lines-plain_from s.format no_regions s.commands (replies (plain_script s) marks)

made_of : (s : ScriptAt) (out marks : List ℕ) → IsScript s → IsLegal (plain s.commands) marks → out ≡ joined_lines (script_lines s marks) → IsMade s out marks
made_of s out marks script legal cut =
    let spelled = spell_replies s.format s.sizes.voxel (history (plain s.commands) marks) (plain s.commands) marks legal.many
    (few_marks (updates_in (plain s.commands)) marks (omega (arith, updates_few (plain s.commands), plain_long s, script.few)) legal.none_above) in
    record { legal = legal; cut = cut; spelled = rw (heads-plain_from no_regions s.commands, plain_lines s marks) at spelled }

legal_made : (s : ScriptAt) (out : List ℕ) → IsScript s → (l : AreLegalLines s out) → IsMade s out (map mark_of l.told)
legal_made s out script l =
    let marks = map mark_of l.told in
    made_of s out marks script l.legal.legal (l.text ∙ sym (joined_replies s.format s.commands l.told) ∙ ap (λ (rs : List Reply). joined_lines (reply_lines s.format s.commands rs)) l.legal.replies)

-- its lines and marks are those of its replies
legal_same : (s : ScriptAt) (out : List ℕ) (lines : List (List ℕ)) (marks : List ℕ) → IsScript s → (l : AreLegalLines s out) → out ≡ joined_lines lines → SpellMarks (heads s.commands) lines marks
    → IsLegal (plain s.commands) marks × (lines ≡ script_lines s marks)
legal_same s out lines marks script l cut spelled =
    let made = legal_made s out script l in
    let own = map mark_of l.told in
    let same = same_spelled (heads s.commands) lines (script_lines s own) marks own spelled made.spelled (sym cut ∙ made.cut) in
    (subst (IsLegal (plain s.commands)) (sym same.marks) made.legal, same.lines ∙ ap (λ (ms : List ℕ). script_lines s ms) (sym same.marks))

-- lines of replies under legal marks are a legal transcript
same_text : (s : ScriptAt) (out : List ℕ) (lines : List (List ℕ)) (marks : List ℕ) → out ≡ joined_lines lines → lines ≡ script_lines s marks → out ≡ text s marks
same_text s out lines marks cut same = cut ∙ ap joined_lines same ∙ joined_replies s.format s.commands (replies (plain_script s) marks)

same_legal : (s : ScriptAt) (out : List ℕ) (marks : List ℕ) → IsLegal (plain s.commands) marks → out ≡ text s marks → AreLegalLines s out
same_legal s out marks legal is = record { told = replies (plain_script s) marks; legal = replies_legal (plain_script s) marks legal; text = is }

-- there are no more lines than are asked for
pub unspelled_place : (cs : List Command) (out : List ℕ) (j : ℕ) → IsUnspelled (heads cs) out j → j ≤ length cs + 2
unspelled_place cs out j u =
    let long = spell_long (take (length u.lines) (heads cs)) u.lines u.marks u.before in
    omega (arith, long.0, u.place, length-take (length u.lines) (heads cs), length-heads cs)

pub marked_long : (cs : List Command) (marked_lines : List MarkedLine) → SpellMarks (heads cs) (line_texts marked_lines) (marks_of marked_lines) → length marked_lines ≡ length cs + 1
marked_long cs marked_lines spelled =
    sym (length-map marked_lines (λ (t : MarkedLine). t.line.now)) ∙ (spell_long (heads cs) (line_texts marked_lines) (marks_of marked_lines) spelled).0 ∙ length-heads cs

-- the line that is another isn't past the end
other_within : (right lines : List (List ℕ)) (j : ℕ) → length right ≡ length lines → IsFirstOther right lines j → j ≤ length lines
other_within right lines j long o = elim (cases_order o.before (length lines)) [
  | inl same ↦ absurd (past (omega arith))
  | inr other ↦ elim other [ inl before ↦ omega (arith, o.place) | inr after ↦ absurd (past (omega arith)) ]
]
  where
    past : length lines ≤ o.before → ⊥
    past h = o.other (slice_get_past lines o.before h ∙ sym (slice_get_past right o.before (omega arith)))

pub other_few : (s : ScriptAt) (marked_lines : List MarkedLine) (j : ℕ) → IsPlainScript s → length marked_lines ≡ length s.commands + 1
    → IsFirstOther (lines_under s (marks_of marked_lines)) (line_texts marked_lines) j → j ≤ 65537
other_few s marked_lines j script many o =
    let lines = length-map marked_lines (λ (t : MarkedLine). t.line.now) in
    let marks = length-map marked_lines (λ (t : MarkedLine). t.mark) in
    let right = length-reply_lines s.format s.sizes.voxel (history s.commands (marks_of marked_lines)) s.commands (marks_of marked_lines) (marks ∙ many) in
    omega (arith, other_within (lines_under s (marks_of marked_lines)) (line_texts marked_lines) j (right ∙ sym (lines ∙ many)) o, lines, many, script.few)

-- a transcript with a line that isn't its reply's isn't legal
legal_no_other : (s : ScriptAt) (out : List ℕ) (lines : List (List ℕ)) (marks : List ℕ) (j : ℕ) → IsScript s
    → AreLegalLines s out → out ≡ joined_lines lines → SpellMarks (heads s.commands) lines marks
    → IsFirstOther (script_lines s marks) lines j → ⊥
legal_no_other s out lines marks j script l cut spelled o =
    let same = legal_same s out lines marks script l cut spelled in
    o.other (ap (λ (ls : List (List ℕ)). slice_get ls o.before) same.1)

-- two readings stop at the same line
stops_once : (cs : List (List ℕ)) (lines whole : List (List ℕ)) (marks all rest left : List ℕ) → SpellMarks (take (length lines) cs) lines marks
    → SpellMarks (take (length whole) cs) whole all → joined_lines lines ++ rest ≡ joined_lines whole ++ left → Stops (drop (length lines) cs) rest → Stops (drop (length whole) cs) left
    → length lines ≡ length whole
stops_once cs [] [] marks all rest left p q e s t = refl
stops_once [] [] (y ∷ whole) marks all rest left p q e s t = absurd q
stops_once (c ∷ cs) [] (y ∷ whole) marks [] rest left p q e s t = absurd q
stops_once (c ∷ cs) [] (y ∷ whole) marks (n ∷ all) rest left p q e s t = absurd (s y (joined_lines whole ++ left) n (e ∙ append_assoc y (joined_lines whole) left) q.0)
stops_once [] (x ∷ lines) whole marks all rest left p q e s t = absurd p
stops_once (c ∷ cs) (x ∷ lines) whole [] all rest left p q e s t = absurd p
stops_once (c ∷ cs) (x ∷ lines) [] (m ∷ marks) all rest left p q e s t = absurd (t x (joined_lines lines ++ rest) m (sym e ∙ append_assoc x (joined_lines lines) rest) p.0)
stops_once (c ∷ cs) (x ∷ lines) (y ∷ whole) (m ∷ marks) [] rest left p q e s t = absurd q
stops_once (c ∷ cs) (x ∷ lines) (y ∷ whole) (m ∷ marks) (n ∷ all) rest left p q e s t =
    let same = same_line c x y (joined_lines lines ++ rest) (joined_lines whole ++ left) m n p.0 q.0 (sym (append_assoc x (joined_lines lines) rest) ∙ e ∙ append_assoc y (joined_lines whole) left) in
    ap suc (stops_once cs lines whole marks all rest left p.1 q.1 same.rests s t)

-- only one line is the first that is another
other_once : (right lines : List (List ℕ)) (j k : ℕ) → IsFirstOther right lines j → IsFirstOther right lines k → k ≡ j
other_once right lines j k o p = elim (cases_order o.before p.before) [
  | inl same ↦ p.place ∙ ap (λ n. n + 1) (sym same) ∙ sym o.place
  | inr other ↦ elim other [ inl before ↦ absurd (o.other (p.same o.before before)) | inr after ↦ absurd (p.other (o.same p.before after)) ]
]

-- the lines and marks of two readings to the end are the same
same_reading : (s : ScriptAt) (out : List ℕ) (P Q : List (List ℕ) → List ℕ → Type 0)
    (p : IsSpelled (heads s.commands) out P) (q : IsSpelled (heads s.commands) out Q)
    → AreSame p.lines q.lines p.marks q.marks
same_reading s out P Q p q = same_spelled (heads s.commands) p.lines q.lines p.marks q.marks p.spelled q.spelled (sym p.cut ∙ q.cut)

not_both : (s : ScriptAt) (out : List ℕ) (j : ℕ) (P : List (List ℕ) → List ℕ → Type 0) → IsUnspelled (heads s.commands) out j → IsSpelled (heads s.commands) out P → ⊥
not_both s out j P u p = stops_never (heads s.commands) u.lines p.lines u.marks p.marks u.rest u.before p.spelled (sym u.cut ∙ p.cut) u.stops

abbrev IsIllegal : ScriptAt → List (List ℕ) → List ℕ → Type 0
IsIllegal s lines marks = IsLegal (plain s.commands) marks → ⊥

abbrev IsOther : ScriptAt → ℕ → List (List ℕ) → List ℕ → Type 0
IsOther s j lines marks = IsLegal (plain s.commands) marks × IsFirstOther (script_lines s marks) lines j

abbrev IsWhole : ScriptAt → List ℕ → List (List ℕ) → List ℕ → Type 0
IsWhole s out lines marks = IsLegal (plain s.commands) marks × (out ≡ text s marks)

other_same : (s : ScriptAt) (out : List ℕ) (j k : ℕ) → IsSpelled (heads s.commands) out (IsOther s j) → IsSpelled (heads s.commands) out (IsOther s k) → k ≡ j
other_same s out j k p q =
    let same = same_reading s out (IsOther s j) (IsOther s k) p q in
    let there : IsFirstOther (script_lines s p.marks) p.lines k =
    subst (λ (ms : List ℕ). IsFirstOther (script_lines s ms) p.lines k) (sym same.marks)
    (subst (λ (ls : List (List ℕ)). IsFirstOther (script_lines s q.marks) ls k) (sym same.lines) q.holds.1) in
    other_once (script_lines s p.marks) p.lines j k p.holds.1 there

illegal_never : (s : ScriptAt) (out : List ℕ) (Q : List (List ℕ) → List ℕ → Type 0)
    (p : IsSpelled (heads s.commands) out (IsIllegal s)) (q : IsSpelled (heads s.commands) out Q)
    → IsLegal (plain s.commands) q.marks → ⊥
illegal_never s out Q p q legal = p.holds (subst (IsLegal (plain s.commands)) (sym (same_reading s out (IsIllegal s) Q p q).marks) legal)

other_never : (s : ScriptAt) (out : List ℕ) (j : ℕ) → IsScript s → IsSpelled (heads s.commands) out (IsOther s j) → IsSpelled (heads s.commands) out (IsWhole s out) → ⊥
other_never s out j script p q = legal_no_other s out p.lines p.marks j script (same_legal s out q.marks q.holds.0 q.holds.1) p.cut p.spelled p.holds.1

-- a transcript has one verdict
pub one_verdict : (s : ScriptAt) (out : List ℕ) (v w : Verdict) → IsScript s → IsVerdict s out v → IsVerdict s out w → w ≡ v
one_verdict s out (Unspelled j) (Unspelled k) script p q =
    ap (λ (n : ℕ). Unspelled n) (q.place
    ∙ ap (λ n. n + 1) (stops_once (heads s.commands) q.lines p.lines q.marks p.marks q.rest p.rest q.before
    p.before (sym q.cut ∙ p.cut) q.stops p.stops) ∙ sym p.place)
one_verdict s out (Unspelled j) Marks script p q = absurd (not_both s out j (IsIllegal s) p q)
one_verdict s out (Unspelled j) (Differs k) script p q = absurd (not_both s out j (IsOther s k) p q)
one_verdict s out (Unspelled j) Legal script p q = absurd (not_both s out j (IsWhole s out) p q)
one_verdict s out Marks (Unspelled k) script p q = absurd (not_both s out k (IsIllegal s) q p)
one_verdict s out Marks Marks script p q = refl
one_verdict s out Marks (Differs k) script p q = absurd (illegal_never s out (IsOther s k) p q q.holds.0)
one_verdict s out Marks Legal script p q = absurd (illegal_never s out (IsWhole s out) p q q.holds.0)
one_verdict s out (Differs j) (Unspelled k) script p q = absurd (not_both s out k (IsOther s j) q p)
one_verdict s out (Differs j) Marks script p q = absurd (illegal_never s out (IsOther s j) q p p.holds.0)
one_verdict s out (Differs j) (Differs k) script p q = ap (λ (n : ℕ). Differs n) (other_same s out j k p q)
one_verdict s out (Differs j) Legal script p q = absurd (other_never s out j script p q)
one_verdict s out Legal (Unspelled k) script p q = absurd (not_both s out k (IsWhole s out) q p)
one_verdict s out Legal Marks script p q = absurd (illegal_never s out (IsWhole s out) q p p.holds.0)
one_verdict s out Legal (Differs k) script p q = absurd (other_never s out k script q p)
one_verdict s out Legal Legal script p q = refl

whole_of : (s : ScriptAt) (out : List ℕ) → IsScript s → AreLegalLines s out → IsVerdict s out Legal
whole_of s out script l =
    let made = legal_made s out script l in
    let marks = map mark_of l.told in
    record { lines = script_lines s marks; marks = marks; cut = made.cut; spelled = made.spelled; holds = (made.legal, same_text s out (script_lines s marks) marks made.cut refl) }

-- the verdict is legal exactly where the lines are those of legal replies
pub legal_verdict : (s : ScriptAt) (out : List ℕ) (v : Verdict) → IsScript s → IsVerdict s out v → (v ≡ Legal) ↔ AreLegalLines s out
legal_verdict s out v script is = (
  λ e. let h : IsVerdict s out Legal = subst (IsVerdict s out) e is in same_legal s out h.marks h.holds.0 h.holds.1,
  λ l. sym (one_verdict s out v Legal script is (whole_of s out script l)),
)

-- the verdicts on all lines, by what was found of the script without its poses
pub illegal_verdict : (s : ScriptAt) (marked_lines : List MarkedLine)
    → SpellMarks (heads s.commands) (line_texts marked_lines) (marks_of marked_lines)
    → (IsLegal (plain s.commands) (marks_of marked_lines) → ⊥)
    → IsVerdict s (joined_lines (line_texts marked_lines)) Marks
illegal_verdict s marked_lines spelled never = record { lines = line_texts marked_lines; marks = marks_of marked_lines; cut = refl; spelled = spelled; holds = never }

pub other_verdict : (s : ScriptAt) (marked_lines : List MarkedLine) (j : ℕ)
    → SpellMarks (heads s.commands) (line_texts marked_lines) (marks_of marked_lines)
    → IsLegal (plain s.commands) (marks_of marked_lines)
    → IsFirstOther (lines_under (plain_script s) (marks_of marked_lines)) (line_texts marked_lines) j → IsVerdict s (joined_lines (line_texts marked_lines)) (Differs j)
other_verdict s marked_lines j spelled legal other =
    record { lines = line_texts marked_lines; marks = marks_of marked_lines; cut = refl; spelled = spelled; holds = (legal, rw (plain_lines s (marks_of marked_lines)) at other) }

pub whole_verdict : (s : ScriptAt) (marked_lines : List MarkedLine)
    → SpellMarks (heads s.commands) (line_texts marked_lines) (marks_of marked_lines)
    → IsLegal (plain s.commands) (marks_of marked_lines)
    → line_texts marked_lines ≡ lines_under (plain_script s) (marks_of marked_lines) → IsVerdict s (joined_lines (line_texts marked_lines)) Legal
whole_verdict s marked_lines spelled legal same = record {
  lines = line_texts marked_lines;
  marks = marks_of marked_lines;
  cut = refl;
  spelled = spelled;
  holds = (legal, same_text s (joined_lines (line_texts marked_lines)) (line_texts marked_lines) (marks_of marked_lines) refl (same ∙ plain_lines s (marks_of marked_lines)));
}

-- there is a line for each command without poses, and one for the end
pub marked_plain : (s : ScriptAt) (marked_lines : List MarkedLine)
    → SpellMarks (heads s.commands) (line_texts marked_lines) (marks_of marked_lines)
    → length marked_lines ≡ length (plain s.commands) + 1
marked_plain s marked_lines spelled = marked_long s.commands marked_lines spelled ∙ omega (arith, plain_long s)
