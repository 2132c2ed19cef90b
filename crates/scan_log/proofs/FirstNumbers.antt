-- The number of the first field, and the fields behind it.
use Rattle.std.proofs.Common.{◌≡◌, ℕ, ◌+◌, ◌-◌, ◌<◌, ◌≤◌, arith, true, false, inl, inr, List, [], ◌∷◌, length, take, drop, Result, Ok, Err, refl, ap, sym, ◌∙◌, ℤ, pos, ◌≤ℤ◌}
use lib.IntN.{negsuc}
use Rattle.std.specs.Prelude.{unsigned_abs}
use Rattle.std.specs.Str.Parse.{signed_digits_value}
use Rattle.std.proofs.lemmas.Bool.{cases_lt}
use Rattle.std.proofs.lemmas.Int.{ints}
use Rattle.log_numbers.specs.Numerals.{IsRead, capped, first_field, is_numeral}
use Rattle.scan_log.specs.declared.format.Format.{Format}
use Rattle.scan_log.specs.declared.format.Format.TheVariants.{One, Two}
use Rattle.scan_log.specs.declared.fault.LogCause.{LogCause}
use Rattle.scan_log.specs.declared.fault.LogCause.TheVariants.{BadNumber}
use Rattle.scan_log.specs.Formats.{lowest, highest}
use Rattle.scan_log.specs.Lines.{fields_of}
use Rattle.scan_log.specs.Numbers.{in_range, natural_range, number_in, read_number}
use Rattle.scan_log.specs.Reading.{first_coordinate, first_intensity, first_number}
use Rattle.scan_log.specs.Steps.{◌>>=◌, given}
use Rattle.scan_log.proofs.Caps.{in_range-capped}
use Rattle.scan_log.proofs.FirstFields.{fields_last, fields_more}

-- the first field comes first
fields_head : (xs : List ℕ) → (rest : List (List ℕ)) × (fields_of xs ≡ first_field xs ∷ rest)
fields_head xs = elim (cases_lt (length (first_field xs)) (length xs)) [
  | inl e ↦ (_, fields_more xs e)
  | inr e ↦ (_, fields_last xs e)
]

first_number-head : (xs : List ℕ) → first_number (fields_of xs) ≡ read_number (first_field xs)
first_number-head xs = let head = fields_head xs in ap first_number head.1

pub number_bad : (xs : List ℕ) (fields : List (List ℕ)) → fields_of xs ≡ fields → is_numeral (first_field xs) ≡ false
    → Err BadNumber ≡ first_number fields
number_bad xs fields is bad = sym (ap first_number (sym is) ∙ first_number-head xs ∙ rw bad refl)

pub number_read : (xs : List ℕ) (fields : List (List ℕ)) (n : ℤ) (len : ℕ) → fields_of xs ≡ fields
    → IsRead is_numeral (signed_digits_value 10) (first_field xs) n len → Ok n ≡ first_number fields
number_read xs fields n len is r = sym (ap first_number (sym is) ∙ first_number-head xs ∙ rw r.passes (ap Ok (sym r.value)))

-- what is read as far as it counts is in a range that ends before where it itself is
number_in-read : (low high : ℤ) (field : List ℕ) → negsuc 999999999999999998 ≤ℤ low → high ≤ℤ pos 999999999999999999
    → number_in low high field ≡ (read_number field >>= in_range low high)
number_in-read low high field l h =
    elim (is_numeral field) as (λ b. given b BadNumber (in_range low high (signed_digits_value 10 field))
    ≡ (given b BadNumber (Ok (capped (signed_digits_value 10 field))) >>= in_range low high)) [
      | true ↦ sym (in_range-capped low high (signed_digits_value 10 field) l h)
      | false ↦ refl
    ]

lowest_near : (format : Format) → negsuc 999999999999999998 ≤ℤ lowest format
lowest_near One = grind (arith, ints)
lowest_near Two = grind (arith, ints)

highest_near : (format : Format) → highest format ≤ℤ pos 999999999999999999
highest_near One = grind (arith, ints)
highest_near Two = grind (arith, ints)

-- the first coordinate and the first intensity are the first number, if it is in their range
pub first_coordinate_is : (format : Format) (fields : List (List ℕ))
    → first_coordinate format fields ≡ (first_number fields >>= in_range (lowest format) (highest format))
first_coordinate_is format [] = refl
first_coordinate_is format (f ∷ fields) = number_in-read (lowest format) (highest format) f (lowest_near format) (highest_near format)

pub first_intensity_is : (fields : List (List ℕ)) → first_intensity fields ≡ (first_number fields >>= natural_range 0 65535)
first_intensity_is [] = refl
first_intensity_is (f ∷ fields) =
    ap (λ (r : Result ℤ LogCause). r >>= λ n. Ok (unsigned_abs n)) (number_in-read (pos 0) (pos 65535) f (grind (arith, ints)) (grind (arith, ints)))
    ∙ bind_assoc (read_number f) (in_range (pos 0) (pos 65535)) (λ n. Ok (unsigned_abs n))
  where
    bind_assoc : {A B C E : Type 0} (r : Result A E) (f : A → Result B E) (g : B → Result C E) → ((r >>= f) >>= g) ≡ (r >>= λ x. f x >>= g)
    bind_assoc (Ok x) f g = refl
    bind_assoc (Err e) f g = refl

-- others follow
pub rest_more : (xs : List ℕ) (fields : List (List ℕ)) (len : ℕ) → fields_of xs ≡ fields → len ≡ length (first_field xs) → len < length xs
    → fields_of (take (length xs - (len + 1)) (drop (len + 1) xs)) ≡ drop 1 fields
rest_more xs fields len is size more =
    rw size (sym (ap (drop 1) (sym is ∙ fields_more xs (rw size at more))))

-- it was the last
pub rest_none : (xs : List ℕ) (fields : List (List ℕ)) (len : ℕ) → fields_of xs ≡ fields → len ≡ length (first_field xs) → length xs ≤ len
    → [] ≡ drop 1 fields
rest_none xs fields len is size more = sym (ap (drop 1) (sym is ∙ fields_last xs (rw size at more)))
