-- What is read as a number is its one spelling.
use Rattle.std.proofs.Common.{◌≡◌, ℕ, zero, suc, ◌<◌, ◌≤◌, ◌^◌, Bool, true, false, cond, nat_eq, List, [], ◌∷◌, get_or, refl, sym, ap, ◌∙◌, arith, ℤ, pos, ◌≤ℤ◌, Ok, FitsSigned, w64}
use lib.IntN.{negsuc}
use Rattle.std.specs.Prelude.{◌&&◌, ◌||◌, int_le, decimal, neg_ℤ, unsigned_abs}
use Rattle.std.specs.Fmt.{signed_decimal}
use Rattle.std.specs.Str.Parse.{digits_value, signed_digits_value}
use Rattle.std.proofs.lemmas.Bool.Decides.{nat_tests}
use Rattle.std.proofs.lemmas.Int.{ints}
use Rattle.std.proofs.lemmas.Fmt.{decimal-digits_value, decimal_digit}
use Rattle.log_numbers.specs.Numerals.{is_numeral, is_positive_numeral}
use Rattle.scan_log.specs.declared.fault.LogCause.TheVariants.{BadNumber, OutOfRange}
use Rattle.scan_log.specs.Numbers.{in_range, number_in, natural_in}
use Rattle.scan_log.proofs.Numerals.{own, IsPlain, positive_is, zero_plain}
use Rattle.scan_log.proofs.StepLemmas.{both, passed, bound}

-- a number without a sign is spelled by its digits
plain_text : (ds : List ℕ) → IsPlain ds → FitsSigned w64 (signed_digits_value 10 ds)
    → ds ≡ signed_decimal (signed_digits_value 10 ds)
plain_text [] p h = absurd (omega (arith, p.some))
plain_text (c ∷ cs) p h =
    let first : 48 ≤ c = p.first in
    let e : nat_eq c 45 ≡ false = grind (arith, nat_tests) in
    let f : nat_eq c 43 ≡ false = grind (arith, nat_tests) in
    let k : FitsSigned w64 (pos (digits_value 10 (c ∷ cs))) = rw (e, f) at h in
    rw (e, f) (sym (decimal-digits_value own (c ∷ cs) p.all p.some p.lone (omega (arith, k.sfits))))

minus_of : (n : ℕ) (ds : List ℕ) → 0 < n → decimal n ≡ ds → 45 ∷ ds ≡ signed_decimal (neg_ℤ (pos n))
minus_of zero ds some d = absurd (omega arith)
minus_of (suc m) ds some d = ap (λ xs. 45 ∷ xs) (sym d)

fits_minus : (n : ℕ) → FitsSigned w64 (neg_ℤ (pos n)) → n < 2 ^ 64
fits_minus zero h = omega arith
fits_minus (suc m) h = omega (arith, h.sfits)

not_zero : (n : ℕ) (ds : List ℕ) → decimal n ≡ ds → 48 < get_or ds 0 0 → 0 < n
not_zero zero ds d h =
    let e : 48 ∷ [] ≡ ds = sym (decimal_digit 0 (omega arith)) ∙ d in
    let k : 48 < get_or (48 ∷ []) 0 0 = rw (← e) at h in
    absurd (omega (arith, k))
not_zero (suc m) ds d h = omega arith

-- a number with a sign is spelled by it and the digits
minus_text : (ds : List ℕ) → IsPlain ds → 48 < get_or ds 0 0 → FitsSigned w64 (neg_ℤ (pos (digits_value 10 ds)))
    → 45 ∷ ds ≡ signed_decimal (neg_ℤ (pos (digits_value 10 ds)))
minus_text ds p first h =
    let d : decimal (digits_value 10 ds) ≡ ds = decimal-digits_value own ds p.all p.some p.lone (fits_minus (digits_value 10 ds) h) in
    minus_of (digits_value 10 ds) ds (not_zero (digits_value 10 ds) ds d first) d

one_text : (c : ℕ) (b : Bool) → nat_eq c 48 ≡ b → (b || is_positive_numeral (c ∷ [])) ≡ true
    → FitsSigned w64 (signed_digits_value 10 (c ∷ [])) → c ∷ [] ≡ signed_decimal (signed_digits_value 10 (c ∷ []))
one_text c true e h fits = let k : c ≡ 48 = grind (arith, nat_tests) in rw k (plain_text (48 ∷ []) zero_plain (rw k at fits))
one_text c false e h fits = plain_text (c ∷ []) ((positive_is (c ∷ []) h).0) fits

more_text : (c d : ℕ) (cs : List ℕ) (b : Bool) → nat_eq c 45 ≡ b
    → cond b (is_positive_numeral (d ∷ cs)) (is_positive_numeral (c ∷ d ∷ cs)) ≡ true
    → FitsSigned w64 (signed_digits_value 10 (c ∷ d ∷ cs))
    → c ∷ d ∷ cs ≡ signed_decimal (signed_digits_value 10 (c ∷ d ∷ cs))
more_text c d cs true e h fits =
    let k : c ≡ 45 = grind (arith, nat_tests) in
    let p = positive_is (d ∷ cs) h in
    rw k (minus_text (d ∷ cs) p.0 p.1 (rw k at fits))
more_text c d cs false e h fits = plain_text (c ∷ d ∷ cs) ((positive_is (c ∷ d ∷ cs) h).0) fits

-- a numeral is the spelling of its number
pub spelled : (f : List ℕ) → is_numeral f ≡ true → FitsSigned w64 (signed_digits_value 10 f)
    → f ≡ signed_decimal (signed_digits_value 10 f)
spelled [] h fits = cc
spelled (c ∷ []) h fits = one_text c _ refl h fits
spelled (c ∷ d ∷ cs) h fits = more_text c d cs _ refl h fits

-- what is read is spelled so, and in the range
pub record Takes (low high : ℤ) (f : List ℕ) (n : ℤ) : Type 0 where
  pub text : f ≡ signed_decimal n
  pub value : signed_digits_value 10 f ≡ n
  pub from : low ≤ℤ n
  pub to : n ≤ℤ high

pub number_takes : (low high : ℤ) (f : List ℕ) (n : ℤ) → FitsSigned w64 low → FitsSigned w64 high
    → number_in low high f ≡ Ok n → Takes low high f n
number_takes low high f n l h e =
    let v = signed_digits_value 10 f in
    let p = passed (is_numeral f) BadNumber (in_range low high v) n e in
    let q = passed (int_le low v && int_le v high) OutOfRange (Ok v) n p.1 in
    let r = both _ (int_le v high) q.0 in
    let is : v ≡ n = cc q.1 in
    let from : low ≤ℤ n = rw (← is) (grind (arith, ints, r.0)) in
    let to : n ≤ℤ high = rw (← is) (grind (arith, ints, r.1)) in
    let fits : FitsSigned w64 v = rw is (grind (arith, ints, from, to)) in
    record { text = spelled f p.0 fits ∙ ap signed_decimal is; value = is; from = from; to = to }

-- `Takes`, of a number that is not below 0
pub record TakesNatural (low high : ℕ) (f : List ℕ) (n : ℕ) : Type 0 where
  pub text : f ≡ decimal n
  pub value : unsigned_abs (signed_digits_value 10 f) ≡ n
  pub from : low ≤ n
  pub to : n ≤ high

natural : (z : ℤ) (low high n : ℕ) (f : List ℕ) → Takes (pos low) (pos high) f z → unsigned_abs z ≡ n → TakesNatural low high f n
natural (pos k) low high n f t is =
    let from : pos low ≤ℤ pos k = t.from in
    let to : pos k ≤ℤ pos high = t.to in
    rw (← is) (record { text = t.text; value = ap unsigned_abs t.value; from = omega (arith, ints); to = omega (arith, ints) })
natural (negsuc k) low high n f t is = absurd (let from : pos low ≤ℤ negsuc k = t.from in grind (arith, ints))

pub natural_takes : (low high : ℕ) (f : List ℕ) (n : ℕ) → low < 2 ^ 63 → high < 2 ^ 63 → natural_in low high f ≡ Ok n
    → TakesNatural low high f n
natural_takes low high f n l h e =
    let r = bound (number_in (pos low) (pos high) f) _ n e in
    natural r.0 low high n f (number_takes (pos low) (pos high) f r.0 (record { sfits = l }) (record { sfits = h }) r.1) cc
