-- Lines as they are read, place by place.
use Rattle.std.proofs.Common.{◌≡◌, ℕ, zero, suc, ◌+◌, ◌<◌, ◌≤◌, List, [], ◌∷◌, ◌++◌, length, take, drop, slice_get, length-append, refl, sym, ap, ◌∙◌, arith, Some}
use Rattle.std.proofs.lemmas.List.{append-nil, append_assoc, length-map, map_push, take_all, drop_all}
use Rattle.std.proofs.lemmas.List.Concat.{flat_map-append}
use Rattle.scan_log.specs.declared.command.Command.{Command}
use Rattle.transcript_check.specs.Heads.{head, heads, IsMarked, SpellMarks}
use Rattle.transcript_check.specs.Verdicts.{joined_lines, IsUnspelled}
use Rattle.transcript_check.specs.MarkedLines.{line_texts, marks_of}
use Rattle.transcript_check.specs.declared.lines.MarkedLine.{MarkedLine}

pub length-heads : (cs : List Command) → length (heads cs) ≡ length cs + 1
length-heads [] = refl
length-heads (c ∷ cs) = let r = length-heads cs in omega arith

drop_suc : (cs : List Command) (i : ℕ) → i ≤ length cs → drop i (heads cs) ≡ head (slice_get cs i) ∷ drop (suc i) (heads cs)
drop_suc [] zero h = refl
drop_suc [] (suc i) h = absurd (omega arith)
drop_suc (c ∷ cs) zero h = refl
drop_suc (c ∷ cs) (suc i) h = drop_suc cs i (omega arith)

take_suc : (cs : List Command) (i : ℕ) → i ≤ length cs → take (suc i) (heads cs) ≡ take i (heads cs) ++ head (slice_get cs i) ∷ []
take_suc [] zero h = refl
take_suc [] (suc i) h = absurd (omega arith)
take_suc (c ∷ cs) zero h = refl
take_suc (c ∷ cs) (suc i) h = ap (λ xs. head (Some c) ∷ xs) (take_suc cs i (omega arith))

-- the line at i is the reply to the command at i, or to the end
pub heads_drop : (cs : List Command) (i : ℕ) → i ≤ length cs → drop i (heads cs) ≡ head (slice_get cs i) ∷ drop (i + 1) (heads cs)
heads_drop cs i h = let e : i + 1 ≡ suc i = omega arith in rw e (drop_suc cs i h)

pub heads_take : (cs : List Command) (i : ℕ) → i ≤ length cs → take (i + 1) (heads cs) ≡ take i (heads cs) ++ head (slice_get cs i) ∷ []
heads_take cs i h = let e : i + 1 ≡ suc i = omega arith in rw e (take_suc cs i h)

-- one more line
pub spell_more : (cs : List (List ℕ)) (lines : List (List ℕ)) (marks : List ℕ) (c : List ℕ) (line : List ℕ) (m : ℕ)
    → SpellMarks cs lines marks → IsMarked c line m → SpellMarks (cs ++ c ∷ []) (lines ++ line ∷ []) (marks ++ m ∷ [])
spell_more [] [] [] c line m s is = (is, tt)
spell_more [] [] (n ∷ marks) c line m s is = absurd s
spell_more [] (l ∷ lines) marks c line m s is = absurd s
spell_more (d ∷ cs) [] marks c line m s is = absurd s
spell_more (d ∷ cs) (l ∷ lines) [] c line m s is = absurd s
spell_more (d ∷ cs) (l ∷ lines) (n ∷ marks) c line m s is = (s.0, spell_more cs lines marks c line m s.1 is)

-- as many lines and marks as are asked for
pub spell_long : (cs : List (List ℕ)) (lines : List (List ℕ)) (marks : List ℕ) → SpellMarks cs lines marks
    → (length lines ≡ length cs) × (length marks ≡ length cs)
spell_long [] [] [] s = (refl, refl)
spell_long [] [] (n ∷ marks) s = absurd s
spell_long [] (l ∷ lines) marks s = absurd s
spell_long (d ∷ cs) [] marks s = absurd s
spell_long (d ∷ cs) (l ∷ lines) [] s = absurd s
spell_long (d ∷ cs) (l ∷ lines) (n ∷ marks) s = let r = spell_long cs lines marks s.1 in (ap suc r.0, ap suc r.1)

-- how far the lines were read
pub record AreRead (cs : List Command) (out : List ℕ) (k : ℕ) (marked_lines : List MarkedLine) (rest : List ℕ) : Type 0 where
  pub within : k ≤ length cs + 1
  pub long : length marked_lines ≡ k
  pub cut : out ≡ joined_lines (line_texts marked_lines) ++ rest
  pub before : SpellMarks (take k (heads cs)) (line_texts marked_lines) (marks_of marked_lines)

-- the next line isn't there or spells no mark
pub unspelled_at : (cs : List Command) (out : List ℕ) (k : ℕ) (marked_lines : List MarkedLine) (rest : List ℕ) → AreRead cs out k marked_lines rest → k ≤ length cs
    → ((line behind : List ℕ) (m : ℕ) → rest ≡ line ++ behind → IsMarked (head (slice_get cs k)) line m → ⊥) → IsUnspelled (heads cs) out (k + 1)
unspelled_at cs out k marked_lines rest read low never =
    let long : length (line_texts marked_lines) ≡ k = length-map marked_lines (λ (t : MarkedLine). t.line.now) ∙ read.long in
    record {
      lines = line_texts marked_lines;
      marks = marks_of marked_lines;
      rest = rest;
      place = ap (λ n. n + 1) (sym long);
      cut = read.cut;
      before = rw long read.before;
      stops = rw (long, heads_drop cs k low) never;
    }

-- after all lines bytes remain
pub unspelled_past : (cs : List Command) (out : List ℕ) (k : ℕ) (marked_lines : List MarkedLine) (rest : List ℕ) → AreRead cs out k marked_lines rest → length cs + 1 ≤ k
    → 0 < length rest → IsUnspelled (heads cs) out (k + 1)
unspelled_past cs out k marked_lines rest read high some =
    let long : length (line_texts marked_lines) ≡ k = length-map marked_lines (λ (t : MarkedLine). t.line.now) ∙ read.long in
    let none : drop k (heads cs) ≡ [] = drop_all k (heads cs) (omega (arith, length-heads cs)) in
    record {
      lines = line_texts marked_lines;
      marks = marks_of marked_lines;
      rest = rest;
      place = ap (λ n. n + 1) (sym long);
      cut = read.cut;
      before = rw long read.before;
      stops = rw (long, none) some;
    }

-- all lines were read
pub all_read : (cs : List Command) (out : List ℕ) (k : ℕ) (marked_lines : List MarkedLine) (rest : List ℕ) → AreRead cs out k marked_lines rest → length cs + 1 ≤ k → length rest ≡ 0
    → (out ≡ joined_lines (line_texts marked_lines)) × SpellMarks (heads cs) (line_texts marked_lines) (marks_of marked_lines)
all_read cs out k marked_lines [] read high none =
    let all : take k (heads cs) ≡ heads cs = take_all k (heads cs) (omega (arith, length-heads cs)) in
    (read.cut ∙ append-nil (joined_lines (line_texts marked_lines)), rw all at read.before)
all_read cs out k marked_lines (b ∷ rest) read high none = absurd (omega arith)

-- one more line was read
pub read_more : (cs : List Command) (out : List ℕ) (k : ℕ) (marked_lines all : List MarkedLine) (next : MarkedLine) (rest left : List ℕ) → AreRead cs out k marked_lines rest → k ≤ length cs
    → all ≡ marked_lines ++ next ∷ [] → rest ≡ next.line.now ++ left → IsMarked (head (slice_get cs k)) next.line.now next.mark → AreRead cs out (k + 1) all left
read_more cs out k marked_lines all next rest left read low grown front is =
    let lines : line_texts all ≡ line_texts marked_lines ++ next.line.now ∷ [] = ap line_texts grown ∙ map_push (λ (t : MarkedLine). t.line.now) marked_lines next in
    let marks : marks_of all ≡ marks_of marked_lines ++ next.mark ∷ [] = ap marks_of grown ∙ map_push (λ (t : MarkedLine). t.mark) marked_lines next in
    let joins : joined_lines (line_texts marked_lines ++ next.line.now ∷ []) ≡ joined_lines (line_texts marked_lines) ++ next.line.now =
    flat_map-append (λ (l : List ℕ). l) (line_texts marked_lines) (next.line.now ∷ []) ∙ ap (λ ys. joined_lines (line_texts marked_lines) ++ ys) (append-nil next.line.now) in
    record {
      within = omega arith;
      long = ap length grown ∙ omega (arith, length-append marked_lines (next ∷ []), read.long);
      cut = read.cut ∙ ap (λ ys. joined_lines (line_texts marked_lines) ++ ys) front ∙ sym (append_assoc (joined_lines (line_texts marked_lines)) next.line.now left)
          ∙ ap (λ ys. ys ++ left) (sym joins) ∙ ap (λ (ls : List (List ℕ)). joined_lines ls ++ left) (sym lines);
      before = rw (heads_take cs k low, lines, marks) (spell_more (take k (heads cs)) (line_texts marked_lines) (marks_of marked_lines) (head (slice_get cs k)) next.line.now next.mark read.before is);
    }
