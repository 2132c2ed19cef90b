-- A number in its one spelling is read.
use Rattle.std.proofs.Common.{◌≡◌, ℕ, zero, suc, ◌<◌, ◌≤◌, ◌^◌, Bool, true, false, List, [], ◌∷◌, get_or, refl, ap, ◌∙◌, arith, ℤ, pos, ◌≤ℤ◌, Ok, FitsSigned, w64, nat_eq}
use lib.IntN.{negsuc}
use Rattle.std.specs.Prelude.{◌||◌, decimal, neg_ℤ, nat_le, int_le}
use Rattle.std.specs.Str.{all_ascii_digits}
use Rattle.std.specs.Str.Parse.{digits_value, signed_digits_value}
use Rattle.std.specs.Fmt.{signed_decimal}
use Rattle.std.proofs.lemmas.Bool.Decides.{nat_tests}
use Rattle.std.proofs.lemmas.Int.{ints}
use Rattle.std.proofs.lemmas.Fmt.{decimal_digit, digits_decimal, digits_value-decimal, first_decimal}
use Rattle.log_numbers.specs.Numerals.{is_numeral, is_positive_numeral}
use Rattle.scan_log.specs.declared.format.Format.{Format}
use Rattle.scan_log.specs.Formats.{farthest}
use Rattle.scan_log.specs.declared.format.Format.TheVariants.{One, Two}
use Rattle.scan_log.specs.Numbers.{number_in, natural_in, coordinate, corner_number}
use Rattle.scan_log.specs.Scripts.{IsBoxNumber, IsLogCoordinate}
use Rattle.scan_log.proofs.Numerals.{own}
use Rattle.scan_log.proofs.StepLemmas.{both}

-- digits of which the first isn't 0
record Starts (ds : List ℕ) : Type 0 where
  plain : is_numeral ds ≡ true
  value : signed_digits_value 10 ds ≡ pos (digits_value 10 ds)
  minus : is_numeral (45 ∷ ds) ≡ true

starts : (ds : List ℕ) → all_ascii_digits ds ≡ true → 48 < get_or ds 0 0 → Starts ds
starts [] all first = absurd (omega (arith, first))
starts (c ∷ cs) all first =
    let p = both _ (all_ascii_digits cs) all in
    let low : nat_le 49 c ≡ true = grind (arith, nat_tests) in
    let high : nat_le c 57 ≡ true = grind (arith, nat_tests, p.0) in
    let sign : nat_eq c 45 ≡ false = grind (arith, nat_tests) in
    let plus : nat_eq c 43 ≡ false = grind (arith, nat_tests) in
    let numeral : is_positive_numeral (c ∷ cs) ≡ true = rw (low, high) p.1 in
    record { plain = plain c cs sign numeral; value = rw (sign, plus) refl; minus = numeral }
  where
    plain : (c : ℕ) (cs : List ℕ) → nat_eq c 45 ≡ false → is_positive_numeral (c ∷ cs) ≡ true → is_numeral (c ∷ cs) ≡ true
    plain c [] e h = or (nat_eq c 48) h
      where
        or : (b : Bool) → is_positive_numeral (c ∷ []) ≡ true → (b || is_positive_numeral (c ∷ [])) ≡ true
        or true h = refl
        or false h = h
    plain c (d ∷ cs) e h = rw e h

-- a number in its one spelling
record Again (n : ℤ) : Type 0 where
  numeral : is_numeral (signed_decimal n) ≡ true
  value : signed_digits_value 10 (signed_decimal n) ≡ n

again_zero : Again (pos 0)
again_zero =
    let e : decimal 0 ≡ 48 ∷ [] = decimal_digit 0 (omega arith) in
    record { numeral = rw e refl; value = rw e refl }

again_pos : (n : ℕ) → 0 < n → n < 2 ^ 63 → Again (pos n)
again_pos n some fits =
    let s = starts (decimal n) (digits_decimal own n (omega arith)) (first_decimal n some (omega arith)) in
    record { numeral = s.plain; value = s.value ∙ ap pos (digits_value-decimal own n (omega arith)) }

minus_value : (ds : List ℕ) (m : ℕ) → digits_value 10 ds ≡ suc m → neg_ℤ (pos (digits_value 10 ds)) ≡ negsuc m
minus_value ds m e = rw e refl

again : (n : ℤ) → FitsSigned w64 n → Again n
again (pos zero) h = again_zero
again (pos (suc n)) h = again_pos (suc n) (omega arith) h.sfits
again (negsuc n) h =
    let fits : suc n < 2 ^ 64 = omega (arith, h.sfits) in
    let s = starts (decimal (suc n)) (digits_decimal own (suc n) fits) (first_decimal (suc n) (omega arith) fits) in
    record { numeral = s.minus; value = minus_value (decimal (suc n)) n (digits_value-decimal own (suc n) fits) }

-- a number in the range is read where it is spelled
pub number_in-signed_decimal : (low high n : ℤ) → FitsSigned w64 n → low ≤ℤ n → n ≤ℤ high
    → number_in low high (signed_decimal n) ≡ Ok n
number_in-signed_decimal low high n fits from to =
    let a = again n fits in
    let e : int_le low n ≡ true = grind (arith, ints) in
    let f : int_le n high ≡ true = grind (arith, ints) in
    rw (a.numeral, a.value, e, f) refl

pub natural_in-decimal : (low high n : ℕ) → high < 2 ^ 63 → low ≤ n → n ≤ high → natural_in low high (decimal n) ≡ Ok n
natural_in-decimal low high n fits from to =
    let low_is : pos low ≤ℤ pos n = grind (arith, ints) in
    let high_is : pos n ≤ℤ pos high = grind (arith, ints) in
    rw (number_in-signed_decimal (pos low) (pos high) (pos n) (record { sfits = omega arith }) low_is high_is) refl

-- a coordinate, and a number of a box's corner, are read where they are spelled
pub coordinate-signed_decimal : (format : Format) (n : ℤ) → IsLogCoordinate format n → coordinate format (signed_decimal n) ≡ Ok n
coordinate-signed_decimal One n h = number_in-signed_decimal (negsuc 999999999) (pos 1000000000) n (grind (arith, ints, h.0, h.1)) h.0 h.1
coordinate-signed_decimal Two n h = number_in-signed_decimal (negsuc 1099511627775) (pos 1099511627776) n (grind (arith, ints, h.0, h.1)) h.0 h.1

pub corner_number-signed_decimal : (format : Format) (n : ℤ) → IsBoxNumber format n → corner_number format (signed_decimal n) ≡ Ok n
corner_number-signed_decimal One n h = number_in-signed_decimal (negsuc 999999999) (pos 1000000001) n (grind (arith, ints, h.0, h.1)) h.0 h.1
corner_number-signed_decimal Two n h = number_in-signed_decimal (negsuc 1099511627775) (pos 1099511627777) n (grind (arith, ints, h.0, h.1)) h.0 h.1

-- each greatest distance fits
pub farthest_fits : (format : Format) → farthest format < 2 ^ 63
farthest_fits One = omega arith
farthest_fits Two = omega arith
