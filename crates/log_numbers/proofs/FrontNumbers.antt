-- Numbers before the first space, with and without a minus.
use Rattle.std.proofs.Common.{◌≡◌, ℕ, zero, suc, ◌+◌, ◌<◌, ◌≤◌, ◌^◌, Bool, true, false, nat_eq, List, [], ◌∷◌, length, min, refl, ap, sym, ◌∙◌, arith, ℤ, pos, ◌-ℤ◌, to_z, of_z, w64}
use lib.IntN.{negsuc}
use Rattle.std.proofs.lemmas.Int.{ints, to_z-of_z}
use Rattle.std.specs.Prelude.{◌||◌, nat_le, neg_ℤ}
use Rattle.std.specs.Str.{all_ascii_digits}
use Rattle.std.specs.Str.Parse.{digits_value, signed_digits_value}
use Rattle.std.proofs.lemmas.Bool.{and_parts}
use Rattle.std.proofs.lemmas.Bool.Decides.{nat_tests}
use Rattle.log_numbers.specs.Numerals.{IsRead, capped, first_field, is_numeral, is_positive_numeral, plain_value, without_minus}
use Rattle.log_numbers.proofs.FirstFields.{first_field-digits}

-- a minus is before them
pub minus_first : (bytes : List ℕ) → length (without_minus bytes) < length bytes → first_field bytes ≡ 45 ∷ first_field (without_minus bytes)
minus_first [] h = absurd (omega arith)
minus_first (c ∷ cs) h = go (nat_eq c 45) refl
  where
    go : (b : Bool) → nat_eq c 45 ≡ b → first_field (c ∷ cs) ≡ 45 ∷ first_field (without_minus (c ∷ cs))
    go true e =
        let is : c ≡ 45 = grind (arith, nat_tests, e) in
        rw is refl
    go false e = absurd (omega (arith, ap length (none e)))
      where
        none : nat_eq c 45 ≡ false → without_minus (c ∷ cs) ≡ c ∷ cs
        none e = rw e refl

-- the number of a minus and digits, as far as it counts
capped-neg : (v : ℕ) → capped (neg_ℤ (pos v)) ≡ neg_ℤ (pos (min v 1000000000000000000))
capped-neg zero = refl
capped-neg (suc m) = less (min (suc m) 1000000000000000000) (min m 999999999999999999) (omega arith)
  where
    less : (k n : ℕ) → k ≡ suc n → negsuc n ≡ neg_ℤ (pos k)
    less k n e = rw e refl

pub minus_read : (digits : List ℕ) (n : ℤ) (len : ℕ) → IsRead is_positive_numeral plain_value digits n len
    → IsRead is_numeral (signed_digits_value 10) (45 ∷ digits) (neg_ℤ n) (len + 1)
minus_read digits n len r = record {
  passes = minus digits r.passes;
  value = ap neg_ℤ r.value ∙ sym (capped-neg (digits_value 10 digits));
  size = omega (arith, r.size);
}
  where
    minus : (digits : List ℕ) → is_positive_numeral digits ≡ true → is_numeral (45 ∷ digits) ≡ true
    minus [] h = cc h
    minus (c ∷ cs) h = h

-- a numeral has no space
pub first_field-positive : (xs : List ℕ) → is_positive_numeral xs ≡ true → first_field xs ≡ xs
first_field-positive [] h = refl
first_field-positive (c ∷ cs) h =
    let p = and_parts _ (all_ascii_digits cs) h in
    let q = and_parts (nat_le 49 c) (nat_le c 57) p.0 in
    let no : nat_eq c 32 ≡ false = grind (arith, nat_tests, q.0) in
    rw no (ap (λ (ys : List ℕ). c ∷ ys) (first_field-digits cs p.1))

pub first_field-numeral : (xs : List ℕ) → is_numeral xs ≡ true → first_field xs ≡ xs
first_field-numeral [] h = refl
first_field-numeral (c ∷ []) h = go (nat_eq c 32) refl
  where
    go : (b : Bool) → nat_eq c 32 ≡ b → first_field (c ∷ []) ≡ c ∷ []
    go true e =
        let is : c ≡ 32 = grind (arith, nat_tests, e) in
        let no : is_numeral (32 ∷ []) ≡ true = rw is at h in cc no
    go false e = rw e refl
first_field-numeral (c ∷ d ∷ cs) h = go (nat_eq c 45) refl
  where
    go : (b : Bool) → nat_eq c 45 ≡ b → first_field (c ∷ d ∷ cs) ≡ c ∷ d ∷ cs
    go true e =
        let no : nat_eq c 32 ≡ false = grind (arith, nat_tests, e) in
        let rest : is_positive_numeral (d ∷ cs) ≡ true = rw e at h in
        rw no (ap (λ (ys : List ℕ). c ∷ ys) (first_field-positive (d ∷ cs) rest))
    go false e = first_field-positive (c ∷ d ∷ cs) (rw e at h)

-- what isn't a numeral before the first space is none
pub whole_bad : (field : List ℕ) → is_numeral (first_field field) ≡ false → is_numeral field ≡ false
whole_bad field h = go (is_numeral field) refl
  where
    go : (b : Bool) → is_numeral field ≡ b → is_numeral field ≡ false
    go true e =
        let no : is_numeral field ≡ false = rw (first_field-numeral field e) at h in no
    go false e = e

-- nor is what has a space
pub spaced_bad : (field : List ℕ) → length (first_field field) < length field → is_numeral field ≡ false
spaced_bad field h = go (is_numeral field) refl
  where
    go : (b : Bool) → is_numeral field ≡ b → is_numeral field ≡ false
    go true e = absurd (omega (arith, ap length (first_field-numeral field e)))
    go false e = e

-- the number of a minus and digits differs from those farther off
pub minus_value : (n : ℕ) (v : ℤ) → v ≡ pos (min n 1000000000000000000) → to_z w64 (of_z w64 (pos 0 -ℤ to_z w64 (of_z w64 v))) ≡ neg_ℤ v
minus_value n v e = rw e (go (min n 1000000000000000000) (omega arith))
  where
    go : (m : ℕ) → m < 2 ^ 63 → to_z w64 (of_z w64 (pos 0 -ℤ to_z w64 (of_z w64 (pos m)))) ≡ neg_ℤ (pos m)
    go zero few = refl
    go (suc m) few =
        let below : pos 0 -ℤ pos (suc m) ≡ negsuc m = grind (arith, ints) in
        rw (to_z-of_z w64 (pos (suc m)) (record { sfits = few }), below) (to_z-of_z w64 (negsuc m) (record { sfits = omega arith }))
