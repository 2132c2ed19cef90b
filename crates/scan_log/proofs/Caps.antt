-- Numbers beyond ±10^18.
use Rattle.std.proofs.Common.{◌≡◌, ℕ, Bool, true, false, ◌⊎◌, inl, inr, List, min, refl, ap, sym, ◌∙◌, arith, ℤ, pos, ◌≤ℤ◌, Ok, Err}
use lib.IntN.{negsuc}
use Rattle.std.specs.Prelude.{◌&&◌, int_le}
use Rattle.std.specs.Str.Parse.{signed_digits_value}
use Rattle.std.proofs.lemmas.Bool.{cases_lt}
use Rattle.std.proofs.lemmas.Int.{ints}
use Rattle.log_numbers.specs.Numerals.{capped, is_numeral}
use Rattle.scan_log.specs.declared.fault.LogCause.TheVariants.{OutOfRange}
use Rattle.scan_log.specs.Steps.{given}
use Rattle.scan_log.specs.Numbers.{in_range, number_in}

out : (a b : Bool) (n : ℤ) → (a ≡ false) ⊎ (b ≡ false) → given (a && b) OutOfRange (Ok n) ≡ Err OutOfRange
out false b n h = refl
out true false n h = refl
out true true n h = elim h [ inl e ↦ cc e | inr e ↦ cc e ]

-- it is in a range that ends before them where the number itself is
pub in_range-capped : (low high v : ℤ) → negsuc 999999999999999998 ≤ℤ low → high ≤ℤ pos 999999999999999999
    → in_range low high (capped v) ≡ in_range low high v
in_range-capped low high (pos n) l h = elim (cases_lt n 1000000000000000000) [
  | inl e ↦ ap (λ (m : ℕ). in_range low high (pos m)) (omega arith)
  | inr e ↦
      let is : min n 1000000000000000000 ≡ 1000000000000000000 = omega arith in
      let far : int_le (pos 1000000000000000000) high ≡ false = grind (arith, ints) in
      let farther : int_le (pos n) high ≡ false = grind (arith, ints) in
      ap (λ (m : ℕ). in_range low high (pos m)) is ∙ out (int_le low (pos 1000000000000000000)) _ (pos 1000000000000000000) (inr far) ∙ sym (out (int_le low (pos n)) _ (pos n) (inr farther))
]
in_range-capped low high (negsuc n) l h = elim (cases_lt n 999999999999999999) [
  | inl e ↦ ap (λ (m : ℕ). in_range low high (negsuc m)) (omega arith)
  | inr e ↦
      let is : min n 999999999999999999 ≡ 999999999999999999 = omega arith in
      let far : int_le low (negsuc 999999999999999999) ≡ false = grind (arith, ints) in
      let farther : int_le low (negsuc n) ≡ false = grind (arith, ints) in
      ap (λ (m : ℕ). in_range low high (negsuc m)) is
      ∙ out _ (int_le (negsuc 999999999999999999) high) (negsuc 999999999999999999) (inl far)
      ∙ sym (out _ (int_le (negsuc n) high) (negsuc n) (inl farther))
]

-- a numeral's number, as far as it counts, is in the range where the numeral is read
pub in_range-numeral : (low high n : ℤ) (field : List ℕ) → negsuc 999999999999999998 ≤ℤ low → high ≤ℤ pos 999999999999999999
    → is_numeral field ≡ true → n ≡ capped (signed_digits_value 10 field) → in_range low high n ≡ number_in low high field
in_range-numeral low high n field l h is e =
    ap (in_range low high) e ∙ in_range-capped low high (signed_digits_value 10 field) l h ∙ rw is refl
