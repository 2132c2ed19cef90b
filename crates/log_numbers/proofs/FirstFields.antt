-- The first field, and the digits in it.
use Rattle.std.proofs.Common.{◌≡◌, ℕ, ◌+◌, ◌-◌, ◌*◌, ◌<◌, ◌≤◌, Bool, true, false, cond, nat_eq, List, [], ◌∷◌, ◌++◌, length, get_or, take, drop, min, refl, ap, sym, ◌∙◌, arith, append_assoc, pos}
use Rattle.std.specs.Prelude.{nat_le}
use Rattle.std.specs.Char.{is_ascii_digit, digit_value}
use Rattle.std.specs.Str.{all_ascii_digits}
use Rattle.std.specs.Str.Parse.{digits_value}
use Rattle.std.proofs.lemmas.Bool.{and_parts}
use Rattle.std.proofs.lemmas.Bool.Decides.{nat_tests}
use Rattle.std.proofs.lemmas.Int.Digits.{digits_value_more}
use Rattle.std.proofs.lemmas.List.{append-nil, drop_more, drop_all, length-take-le, take_more}
use Rattle.std.proofs.lemmas.Str.{digit_value_digit}
use Rattle.log_numbers.specs.Numerals.{IsRead, first_field, plain_value}

pub first_field-whole : (xs : List ℕ) → length xs ≤ length (first_field xs) → first_field xs ≡ xs
first_field-whole [] h = refl
first_field-whole (x ∷ xs) h =
    elim (nat_eq x 32) as (λ b. length xs + 1 ≤ length (cond b [] (x ∷ first_field xs)) → cond b [] (x ∷ first_field xs) ≡ x ∷ xs) [
      | true ↦ λ k. absurd (omega arith)
      | false ↦ λ k. ap (λ (ys : List ℕ). x ∷ ys) (first_field-whole xs (omega arith))
    ] (omega arith)

pub first_field-le : (xs : List ℕ) → length (first_field xs) ≤ length xs
first_field-le [] = omega arith
first_field-le (x ∷ xs) = go (nat_eq x 32) (first_field-le xs)
  where
    go : (b : Bool) → length (first_field xs) ≤ length xs → length (cond b [] (x ∷ first_field xs)) ≤ length (x ∷ xs)
    go true h = omega arith
    go false h = omega (arith, h)

pub digit_no_space : (c : ℕ) → is_ascii_digit c ≡ true → nat_eq c 32 ≡ false
digit_no_space c h =
    let p = and_parts (nat_le 48 c) (nat_le c 57) h in grind (arith, nat_tests, p.0)

-- digits have no space
pub first_field-digits : (xs : List ℕ) → all_ascii_digits xs ≡ true → first_field xs ≡ xs
first_field-digits [] h = refl
first_field-digits (x ∷ xs) h =
    let p = and_parts (is_ascii_digit x) (all_ascii_digits xs) h in
    rw (digit_no_space x p.0) (ap (λ (ys : List ℕ). x ∷ ys) (first_field-digits xs p.1))

-- i bytes were digits of the first field and spell n, or as much as counts, and the rest decides
pub record DigitsRead (bytes : List ℕ) (i n : ℕ) : Type 0 where
  pub left : all_ascii_digits (first_field bytes) ≡ all_ascii_digits (first_field (drop i bytes))
  pub parts : first_field bytes ≡ take i bytes ++ first_field (drop i bytes)
  pub value : n ≡ min (digits_value 10 (take i bytes)) 1000000000000000000

capped_more : (n v d : ℕ) → n ≡ min v 1000000000000000000 → min (10 * n + d) 1000000000000000000 ≡ min (v * 10 + d) 1000000000000000000
capped_more n v d e = omega arith

-- the next byte is a digit
pub digits_more : (bytes : List ℕ) (i n : ℕ) → i < length bytes → 48 ≤ get_or bytes i 0 → get_or bytes i 0 ≤ 57 → DigitsRead bytes i n
    → DigitsRead bytes (i + 1) (min (10 * n + (get_or bytes i 0 - 48)) 1000000000000000000)
digits_more bytes i n h low high r =
    let from : nat_le 48 (get_or bytes i 0) ≡ true = grind (arith, nat_tests) in
    let to : nat_le (get_or bytes i 0) 57 ≡ true = grind (arith, nat_tests) in
    let digit : is_ascii_digit (get_or bytes i 0) ≡ true = rw (from, to) refl in
    let d = digit_value_digit (get_or bytes i 0) (low, high) in
    let is : get_or bytes i 0 - 48 ≡ digit_value (get_or bytes i 0) = omega (arith, d) in
    let next : first_field (drop i bytes) ≡ get_or bytes i 0 ∷ first_field (drop (i + 1) bytes) =
    rw (drop_more bytes i 0 h, digit_no_space (get_or bytes i 0) digit) refl in
    record {
      left = r.left ∙ rw (next, digit) refl;
      parts = r.parts ∙ rw (next, take_more bytes i 0 h) (sym (append_assoc (take i bytes) (get_or bytes i 0 ∷ []) (first_field (drop (i + 1) bytes))));
      value =
          ap (λ (d : ℕ). min (10 * n + d) 1000000000000000000) is
          ∙ capped_more n (digits_value 10 (take i bytes)) (digit_value (get_or bytes i 0)) r.value
          ∙ ap (λ (v : ℕ). min v 1000000000000000000) (sym (digits_value_more 10 bytes i h));
    }

digits_all : (bytes : List ℕ) (i n : ℕ) → i ≤ length bytes → first_field (drop i bytes) ≡ [] → DigitsRead bytes i n
    → IsRead all_ascii_digits plain_value (first_field bytes) (pos n) i
digits_all bytes i n h none r =
    let long : length (take i bytes) ≡ i = length-take-le i bytes h in
    let is : first_field bytes ≡ take i bytes = r.parts ∙ rw (none, append-nil) refl in
    record {
      passes = r.left ∙ rw none refl;
      value = rw is (ap pos r.value);
      size = rw is (sym long);
    }

-- no byte remains
pub digits_end : (bytes : List ℕ) (i n : ℕ) → length bytes ≤ i → i ≤ length bytes → DigitsRead bytes i n
    → IsRead all_ascii_digits plain_value (first_field bytes) (pos n) (length bytes)
digits_end bytes i n past within r =
    let is : length bytes ≡ i = omega arith in
    rw is (digits_all bytes i n within (rw (drop_all i bytes past) refl) r)
