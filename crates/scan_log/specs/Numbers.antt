-- Numbers, and the limits that they are read in.
use Rattle.std.specs.Prelude.{ℕ, ℤ, pos, unsigned_abs, ◌&&◌, List, int_le}
use Rattle.std.specs.declared.result.Result.{Result}
use Rattle.std.specs.declared.result.Result.TheVariants.{Ok}
use Rattle.std.specs.Str.Parse.{signed_digits_value}
use Rattle.log_numbers.specs.Numerals.{capped, is_numeral}
use Rattle.scan_log.specs.declared.format.Format.{Format}
use Rattle.scan_log.specs.Formats.{lowest, highest, box_highest}
use Rattle.scan_log.specs.declared.fault.LogCause.{LogCause}
use Rattle.scan_log.specs.declared.fault.LogCause.TheVariants.{BadNumber, OutOfRange}
use Rattle.scan_log.specs.Steps.{◌>>=◌, given}

-- a number from low to high
abbrev pub in_range : ℤ → ℤ → ℤ → Result ℤ LogCause
in_range low high n = given (int_le low n && int_le n high) OutOfRange (Ok n)

-- the number that a field spells, as far as it counts
abbrev pub read_number : List ℕ → Result ℤ LogCause
read_number field = given (is_numeral field) BadNumber (Ok (capped (signed_digits_value 10 field)))

-- a number from low to high, where it isn't below 0
abbrev pub natural_range : ℕ → ℕ → ℤ → Result ℕ LogCause
natural_range low high n = do
  m ← in_range (pos low) (pos high) n
  Ok (unsigned_abs m)

-- the number that a field spells, from low to high
abbrev pub number_in : ℤ → ℤ → List ℕ → Result ℤ LogCause
number_in low high field = given (is_numeral field) BadNumber (in_range low high (signed_digits_value 10 field))

-- the number that a field spells, from low to high, where it isn't below 0
abbrev pub natural_in : ℕ → ℕ → List ℕ → Result ℕ LogCause
natural_in low high field = do
  n ← number_in (pos low) (pos high) field
  Ok (unsigned_abs n)

-- a coordinate of a point
abbrev pub coordinate : Format → List ℕ → Result ℤ LogCause
coordinate format field = number_in (lowest format) (highest format) field

-- a number of a box's corner
abbrev pub corner_number : Format → List ℕ → Result ℤ LogCause
corner_number format field = number_in (lowest format) (box_highest format) field
