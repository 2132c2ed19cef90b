-- The number of a check is taken, whichever it is.
use Rattle.std.proofs.Common.{◌≡◌, ◌≤◌, ◌<◌, ◌==◌, ◌+◌, ℕ, zero, suc, Bool, true, false, List, [], ◌∷◌, length, codes, decimal, Some, option_map, refl, subst, arith}
use Rattle.std.specs.Prelude.{option_and_then}
use Rattle.std.specs.Str.Parse.{AllDigits}
use Rattle.std.proofs.lemmas.Bool.Decides.{nat_tests}
use Rattle.std.proofs.lemmas.Fmt.{decimal_is_IsNumeral, decimal_nonempty}
use Rattle.std.proofs.lemmas.Str.Parse.{digit_from_value}
use Rattle.clap.specs.Words.{Text, Row, takes, first_of, subcommand_of}
use Rattle.clap.proofs.OnLiterals.{clap_on_literals}
use Rattle.mapper_base.specs.CommandLine.{mapper}

-- the words of a check
abbrev pub check_of : Text → List Text
check_of t = codes "mapper" ∷ codes "check" ∷ t ∷ []

abbrev Takes : Text → Type 0
Takes t = takes mapper (check_of t) ≡ true

abbrev Finds : Text → Type 0
Finds t = option_and_then (λ (p : Text × List Row). first_of (codes "n") p.1) (subcommand_of mapper (check_of t)) ≡ Some t

abbrev IsNamed : Text → Type 0
IsNamed t = option_map (λ (p : Text × List Row). p.0) (subcommand_of mapper (check_of t)) ≡ Some (codes "check")

-- it holds of the first k numbers from `from` on
abbrev HoldFrom : (ℕ → Type 0) → ℕ → ℕ → Type 0
HoldFrom P from zero = Unit {0}
HoldFrom P from (suc k) = P from × HoldFrom P (from + 1) k

hold_at : (P : ℕ → Type 0) (from many d : ℕ) → HoldFrom P from many → from ≤ d → d < from + many → P d
hold_at P from zero d all low high = absurd (omega arith)
hold_at P from (suc k) d all low high = go (from == d) refl (λ above. hold_at P (from + 1) k d all.1 above (omega arith))
  where
    go : (b : Bool) → (from == d) ≡ b → (from + 1 ≤ d → P d) → P d
    go true is after = let same : from ≡ d = grind (arith, nat_tests) in subst P same all.0
    go false is after = let other : from + 1 ≤ d = grind (arith, nat_tests) in after other

take_digits : (t : Text) → HoldFrom (λ d. Takes (d ∷ t)) 48 10
unfolding clap_on_literals
take_digits t = (refl, (refl, (refl, (refl, (refl, (refl, (refl, (refl, (refl, (refl, tt))))))))))

find_digits : (t : Text) → HoldFrom (λ d. Finds (d ∷ t)) 48 10
unfolding clap_on_literals
find_digits t = (refl, (refl, (refl, (refl, (refl, (refl, (refl, (refl, (refl, (refl, tt))))))))))

name_any : (d : ℕ) (t : Text) → IsNamed (d ∷ t)
unfolding clap_on_literals
name_any d t = refl

taken_digits : (t : Text) → AllDigits 10 t → 0 < length t → Takes t × IsNamed t × Finds t
taken_digits [] all some = absurd (omega arith)
taken_digits (d ∷ t) all some =
    let digit = digit_from_value d all.0 in
    let below : d < 48 + 10 = omega (arith, digit.1) in
    (hold_at (λ c. Takes (c ∷ t)) 48 10 d (take_digits t) digit.0 below, name_any d t, hold_at (λ c. Finds (c ∷ t)) 48 10 d (find_digits t) digit.0 below)

-- the words of a check are taken, its name is met, and its number found
pub taken_number : (n : ℕ) → n ≤ 268435456 → Takes (decimal n) × IsNamed (decimal n) × Finds (decimal n)
taken_number n few = taken_digits (decimal n) (decimal_is_IsNumeral n (omega arith)).0.1 (decimal_nonempty n (omega arith))
