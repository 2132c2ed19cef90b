-- The first line of the bytes, and the first field of a line.
use Rattle.std.proofs.Common.{◌≡◌, ℕ, ◌+◌, ◌-◌, ◌<◌, ◌≤◌, Bool, true, false, cond, nat_eq, nat_lt, not, Some, None, List, [], ◌∷◌, length, take, drop, refl, sym, ap, add_comm, zero-add, ◌∙◌, arith, suc}
use Rattle.std.specs.List.{onto_first, slice_split, position, position_or_len}
use Rattle.std.proofs.lemmas.Bool.Decides.{nat_tests}
use Rattle.std.proofs.lemmas.List.{take_rest}
use Rattle.std.proofs.lemmas.List.Sums.{sum_by-cons}
use Rattle.std.proofs.lemmas.List.Splits.{slice_split_first}
use Rattle.scan_log.specs.Faults.{line_feeds}
use Rattle.scan_log.specs.Lines.{lines_of, is_kept_line, kept_from, fields_of}

abbrev is_feed : ℕ → Bool
is_feed b = nat_eq b 10

abbrev is_space : ℕ → Bool
is_space b = nat_eq b 32

-- no element passes, so all is one part
last_part : (p : ℕ → Bool) (xs : List ℕ) → length xs ≤ position_or_len p xs → slice_split p xs ≡ xs ∷ []
last_part p [] h = refl
last_part p (x ∷ xs) h =
    elim (p x) as (λ b. length xs + 1 ≤ cond (not b) (1 + position_or_len p xs) 0 → cond b ([] ∷ slice_split p xs) (onto_first x (slice_split p xs)) ≡ (x ∷ xs) ∷ []) [
      | true ↦ λ k. absurd (omega arith)
      | false ↦ λ k. ap (onto_first x) (last_part p xs (omega arith))
    ] (omega arith)

-- no line feed remains, so all is one line
lines-last : (xs : List ℕ) → 0 < length xs → length xs ≤ position_or_len is_feed xs → lines_of xs ≡ xs ∷ []
lines-last [] some h = absurd (omega arith)
lines-last (x ∷ []) some h =
    elim (is_feed x) as (λ b. 1 ≤ cond (not b) (1 + 0) 0 → cond b ([] ∷ []) (onto_first x []) ≡ (x ∷ []) ∷ []) [
      | true ↦ λ k. absurd (omega arith)
      | false ↦ λ k. refl
    ] (omega arith)
lines-last (x ∷ y ∷ xs) some h =
    elim (is_feed x) as (λ b. length (y ∷ xs) + 1 ≤ cond (not b) (1 + position_or_len is_feed (y ∷ xs)) 0 → cond b ([] ∷ lines_of (y ∷ xs)) (onto_first x (lines_of (y ∷ xs))) ≡ (x ∷ y ∷ xs) ∷ []) [
      | true ↦ λ k. absurd (omega arith)
      | false ↦ λ k. ap (onto_first x) (lines-last (y ∷ xs) (omega arith) (omega arith))
    ] (omega arith)

-- one byte more before the line feed
further : (x n : ℕ) (xs : List ℕ)
    → (x ∷ take n xs) ∷ lines_of (drop (n + 1) xs) ≡ take (1 + n) (x ∷ xs) ∷ lines_of (drop (1 + n + 1) (x ∷ xs))
further x n xs =
    let e : 1 + n ≡ suc n = omega arith in
    let f : suc n + 1 ≡ suc (n + 1) = omega arith in
    rw (e, f) refl

-- a line feed ends the first line
lines-first : (xs : List ℕ) → position_or_len is_feed xs < length xs
    → lines_of xs ≡ take (position_or_len is_feed xs) xs ∷ lines_of (drop (position_or_len is_feed xs + 1) xs)
lines-first [] h = absurd (omega arith)
lines-first (x ∷ xs) h =
    elim (is_feed x) as (λ b. cond (not b) (1 + position_or_len is_feed xs) 0 < length xs + 1 → cond b ([] ∷ lines_of xs) (onto_first x (lines_of xs))
    ≡ take (cond (not b) (1 + position_or_len is_feed xs) 0) (x ∷ xs) ∷ lines_of (drop (cond (not b) (1 + position_or_len is_feed xs) 0 + 1) (x ∷ xs))) [
      | true ↦ λ k. refl
      | false ↦ λ k. ap (onto_first x) (lines-first xs (omega arith)) ∙ further x (position_or_len is_feed xs) xs
    ] (omega arith)

-- the first element that passes is at n
found_at : (p : ℕ → Bool) (xs : List ℕ) (n : ℕ) → position p xs ≡ Some n → (n ≡ position_or_len p xs) × (n < length xs)
found_at p xs n e = go _ refl e
  where
    go : (b : Bool) → nat_lt (position_or_len p xs) (length xs) ≡ b → cond b (Some (position_or_len p xs)) None ≡ Some n
        → (n ≡ position_or_len p xs) × (n < length xs)
    go true h f =
        let is : position_or_len p xs ≡ n = cc in
        (cc, rw (← is) (grind (arith, nat_tests)))
    go false h f = cc

-- no element passes
not_found : (p : ℕ → Bool) (xs : List ℕ) → position p xs ≡ None → length xs ≤ position_or_len p xs
not_found p xs e = go _ refl e
  where
    go : (b : Bool) → nat_lt (position_or_len p xs) (length xs) ≡ b → cond b (Some (position_or_len p xs)) None ≡ None
        → length xs ≤ position_or_len p xs
    go true h f = cc
    go false h f = grind (arith, nat_tests)

-- a line feed ends the first line
line_cut : (xs : List ℕ) (n : ℕ) → position is_feed xs ≡ Some n
    → lines_of xs ≡ take n xs ∷ lines_of (take (length xs - (n + 1)) (drop (n + 1) xs))
line_cut xs n e =
    let f = found_at is_feed xs n e in
    rw (take_rest xs (n + 1), f.0) (lines-first xs (rw f.0 at f.1))

drop_further : (x n : ℕ) (xs : List ℕ) → drop (n + 1) xs ≡ drop (1 + n + 1) (x ∷ xs)
drop_further x n xs =
    let e : 1 + n ≡ suc n = omega arith in
    let f : suc n + 1 ≡ suc (n + 1) = omega arith in
    rw (e, f) refl

-- one line feed less remains
feeds-cons : (x : ℕ) (xs : List ℕ) → line_feeds (x ∷ xs) ≡ cond (is_feed x) 1 0 + line_feeds xs
feeds-cons x xs = sum_by-cons (λ b. cond (is_feed b) 1 0) x xs

feeds-first : (xs : List ℕ) → position_or_len is_feed xs < length xs
    → line_feeds xs ≡ line_feeds (drop (position_or_len is_feed xs + 1) xs) + 1
feeds-first [] h = absurd (omega arith)
feeds-first (x ∷ xs) h = feeds-cons x xs
    ∙ elim (is_feed x) as (λ b. cond (not b) (1 + position_or_len is_feed xs) 0 < length xs + 1
    → cond b 1 0 + line_feeds xs ≡ line_feeds (drop (cond (not b) (1 + position_or_len is_feed xs) 0 + 1) (x ∷ xs)) + 1) [
      | true ↦ λ k. add_comm 1 (line_feeds xs)
      | false ↦ λ k. zero-add (line_feeds xs) ∙ feeds-first xs (omega arith) ∙ ap (λ (ys : List ℕ). line_feeds ys + 1) (drop_further x (position_or_len is_feed xs) xs)
    ] (omega arith)

pub feeds_cut : (xs : List ℕ) (n : ℕ) → position is_feed xs ≡ Some n
    → line_feeds xs ≡ line_feeds (take (length xs - (n + 1)) (drop (n + 1) xs)) + 1
feeds_cut xs n e =
    let f = found_at is_feed xs n e in
    rw (take_rest xs (n + 1), f.0) (feeds-first xs (rw f.0 at f.1))

-- the first line is kept, or not
kept_first : (number : ℕ) (line : List ℕ) (lines : List (List ℕ)) → is_kept_line line ≡ true
    → kept_from number (line ∷ lines) ≡ (number, line) ∷ kept_from (number + 1) lines
kept_first number line lines h = rw h refl

skipped_first : (number : ℕ) (line : List ℕ) (lines : List (List ℕ)) → is_kept_line line ≡ false
    → kept_from number (line ∷ lines) ≡ kept_from (number + 1) lines
skipped_first number line lines h = rw h refl

pub kept_cut : (number : ℕ) (xs : List ℕ) (n : ℕ) → position is_feed xs ≡ Some n → is_kept_line (take n xs) ≡ true
    → kept_from number (lines_of xs) ≡ (number, take n xs) ∷ kept_from (number + 1) (lines_of (take (length xs - (n + 1)) (drop (n + 1) xs)))
kept_cut number xs n e h = ap (kept_from number) (line_cut xs n e) ∙ kept_first number (take n xs) (lines_of (take (length xs - (n + 1)) (drop (n + 1) xs))) h

pub skipped_cut : (number : ℕ) (xs : List ℕ) (n : ℕ) → position is_feed xs ≡ Some n → is_kept_line (take n xs) ≡ false
    → kept_from number (lines_of xs) ≡ kept_from (number + 1) (lines_of (take (length xs - (n + 1)) (drop (n + 1) xs)))
skipped_cut number xs n e h = ap (kept_from number) (line_cut xs n e) ∙ skipped_first number (take n xs) (lines_of (take (length xs - (n + 1)) (drop (n + 1) xs))) h

-- nothing is behind the end
past_end : (xs : List ℕ) → lines_of (take (length xs - length xs) (drop (length xs) xs)) ≡ []
past_end xs = let z : length xs - length xs ≡ 0 = omega arith in rw z refl

pub kept_end : (number : ℕ) (xs : List ℕ) → position is_feed xs ≡ None → is_kept_line xs ≡ true
    → kept_from number (lines_of xs) ≡ (number, xs) ∷ kept_from number (lines_of (take (length xs - length xs) (drop (length xs) xs)))
kept_end number [] e h = cc h
kept_end number (x ∷ xs) e h =
    ap (kept_from number) (lines-last (x ∷ xs) (omega arith) (not_found is_feed (x ∷ xs) e)) ∙ kept_first number (x ∷ xs) [] h
    ∙ ap (λ (ls : List (List ℕ)). (number, x ∷ xs) ∷ kept_from number ls) (sym (past_end (x ∷ xs)))

pub skipped_end : (number : ℕ) (xs : List ℕ) → position is_feed xs ≡ None → is_kept_line xs ≡ false → kept_from number (lines_of xs) ≡ []
skipped_end number [] e h = refl
skipped_end number (x ∷ xs) e h =
    ap (kept_from number) (lines-last (x ∷ xs) (omega arith) (not_found is_feed (x ∷ xs) e)) ∙ skipped_first number (x ∷ xs) [] h

-- a space ends the first field
pub field_cut : (xs : List ℕ) (n : ℕ) → position is_space xs ≡ Some n
    → fields_of xs ≡ take n xs ∷ fields_of (take (length xs - (n + 1)) (drop (n + 1) xs))
field_cut xs n e =
    let f = found_at is_space xs n e in
    rw (take_rest xs (n + 1), f.0) (slice_split_first is_space xs 0 (rw f.0 at f.1))

-- a last field has no space
pub field_end : (xs : List ℕ) → position is_space xs ≡ None → fields_of xs ≡ xs ∷ []
field_end xs e = last_part is_space xs (not_found is_space xs e)
