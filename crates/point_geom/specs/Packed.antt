-- A coordinate and an intensity in one number.
use Rattle.std.specs.Prelude.{◌≡◌, ℕ, ℤ, pos, negsuc, ◌+ℤ◌, ◌*ℤ◌, unsigned_abs}
use Rattle.std.proofs.Common.{arith}
use Rattle.std.proofs.lemmas.Int.{ints}
use Rattle.std.specs.Int.{int_shr, int_rem_euclid}

-- the coordinate times 65,536, and the intensity
abbrev pub packed : ℤ → ℕ → ℤ
packed z intensity = z *ℤ pos 65536 +ℤ pos intensity

-- the coordinate in such a number
abbrev pub packed_z : ℤ → ℤ
packed_z n = int_shr n 16

-- and the intensity
abbrev pub packed_intensity : ℤ → ℕ
packed_intensity n = unsigned_abs (int_rem_euclid n (pos 65536))

-- what is taken out, put in again
pub packed_again : (n : ℤ) → packed (packed_z n) (packed_intensity n) ≡ n
packed_again (pos a) = omega (arith, ints)
packed_again (negsuc a) = omega (arith, ints)
