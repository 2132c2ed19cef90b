-- Numerals: numbers in their one spelling.
use Rattle.std.specs.Prelude.{◌≡◌, ℕ, ℤ, pos, negsuc, Bool, true, false, ◌&&◌, ◌||◌, ◌==◌, List, [], ◌∷◌, length, min, nat_le, if◌then◌else◌}
use Rattle.std.specs.Str.{all_ascii_digits}
use Rattle.std.specs.Str.Parse.{digits_value}

-- a digit from 1 to 9, and further digits
abbrev pub is_positive_numeral : List ℕ → Bool
is_positive_numeral [] = false
is_positive_numeral (c ∷ cs) = nat_le 49 c && nat_le c 57 && all_ascii_digits cs

-- 0, or such digits, or - and such digits
abbrev pub is_numeral : List ℕ → Bool
is_numeral [] = false
is_numeral (c ∷ []) = c == 48 || is_positive_numeral (c ∷ [])
is_numeral (c ∷ d ∷ cs) = if c == 45 then is_positive_numeral (d ∷ cs) else is_positive_numeral (c ∷ d ∷ cs)

-- the bytes before the first space
abbrev pub first_field : List ℕ → List ℕ
first_field [] = []
first_field (b ∷ bytes) = if b == 32 then [] else b ∷ first_field bytes

-- the bytes behind a minus, if one is the first
abbrev pub without_minus : List ℕ → List ℕ
without_minus [] = []
without_minus (c ∷ cs) = if c == 45 then cs else c ∷ cs

-- the digit 0 alone
abbrev pub is_zero : List ℕ → Bool
is_zero [] = false
is_zero (c ∷ []) = c == 48
is_zero (c ∷ d ∷ cs) = false

-- a number, or ±10^18 where it is beyond that
abbrev pub capped : ℤ → ℤ
capped (pos n) = pos (min n 1000000000000000000)
capped (negsuc n) = negsuc (min n 999999999999999999)

-- the field passes the test, and spells this number, as far as it counts, by `len` bytes
pub record IsRead (test : List ℕ → Bool) (spelled : List ℕ → ℤ) (field : List ℕ) (number : ℤ) (len : ℕ) : Type 0 where
  pub passes : test field ≡ true
  pub value : number ≡ capped (spelled field)
  pub size : len ≡ length field

-- the number that digits spell
abbrev pub plain_value : List ℕ → ℤ
plain_value digits = pos (digits_value 10 digits)
