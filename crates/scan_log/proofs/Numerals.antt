-- The digits of numbers in their one spelling.
use Rattle.std.proofs.Common.{◌≡◌, ℕ, ◌<◌, ◌≤◌, true, List, [], ◌∷◌, length, get_or, refl, arith}
use Rattle.std.specs.Prelude.{nat_le}
use Rattle.std.specs.Str.{all_ascii_digits}
use Rattle.std.specs.Str.Parse.{digits_value}
use Rattle.std.proofs.lemmas.Bool.Decides.{nat_tests}
use Rattle.std.proofs.lemmas.Str.Parse.{IsNumeralModel, numerals_by_value, tells_all_ascii_digits}
use Rattle.log_numbers.specs.Numerals.{is_positive_numeral}
use Rattle.scan_log.proofs.StepLemmas.{both}

-- std reads and writes digits alike
pub own : IsNumeralModel (λ ds. all_ascii_digits ds ≡ true) (digits_value 10)
own = numerals_by_value _ tells_all_ascii_digits

-- what a number without a sign is
pub record IsPlain (ds : List ℕ) : Type 0 where
  pub all : all_ascii_digits ds ≡ true
  pub some : 0 < length ds
  pub first : 48 ≤ get_or ds 0 0
  pub lone : get_or ds 0 0 ≡ 48 → length ds ≡ 1

-- what begins with a digit from 1 to 9
pub positive_is : (ds : List ℕ) → is_positive_numeral ds ≡ true → IsPlain ds × (48 < get_or ds 0 0)
positive_is [] h = cc
positive_is (c ∷ cs) h =
    let p = both _ (all_ascii_digits cs) h in
    let q = both (nat_le 49 c) (nat_le c 57) p.0 in
    let low : 49 ≤ c = grind (arith, nat_tests, q.0) in
    let high : c ≤ 57 = grind (arith, nat_tests, q.1) in
    (record { all = grind (arith, nat_tests, p.1); some = omega arith; first = omega arith; lone = λ e. absurd (omega arith) }, omega arith)

pub zero_plain : IsPlain (48 ∷ [])
zero_plain = record { all = refl; some = omega arith; first = omega arith; lone = λ _. refl }
