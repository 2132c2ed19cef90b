-- The square of a number's bits.
use Rattle.std.proofs.Common.{◌≡◌, ℕ, suc, ◌+◌, ◌-◌, ◌*◌, ◌%◌, ◌^◌, ◌<◌, ◌≤◌, ℤ, pos, negsuc, sym, ap, ◌∙◌, arith}
use Rattle.std.specs.Prelude.{unsigned_abs}
use Rattle.std.specs.Int.{cast_unsigned, w64}
use Rattle.std.proofs.Math.Nat.{add-mul, mod-eq_of_lt, mul_comm}
use Rattle.std.proofs.lemmas.Nat.{mod-mul-add}

-- what is missing from d to d + (d + e), squared
square_of_rest : (d e : ℕ) → (d + e) * (d + e) ≡ e * (d + (d + e)) + d * d
square_of_rest d e =
    omega (arith, add-mul d e (d + e), mul_comm d (d + e), mul_comm e (d + e), add-mul d e d, add-mul d e e, mul_comm e (d + (d + e)), add-mul d (d + e) e, mul_comm d e)

-- to 64 bits it is the square of its size
pub square_of_bits : (z : ℤ) → unsigned_abs z ≤ 2 ^ 63 → unsigned_abs z * unsigned_abs z < 2 ^ 64
    → (cast_unsigned w64 z * cast_unsigned w64 z) % 2 ^ 64 ≡ unsigned_abs z * unsigned_abs z
square_of_bits (pos n) few fits = mod-eq_of_lt fits
square_of_bits (negsuc n) few fits =
    let d = suc n in
    let e = 2 ^ 64 - (d + d) in
    let whole : 2 ^ 64 ≡ d + (d + e) = omega (arith, few) in
    let bits : 2 ^ 64 - d ≡ d + e = omega (arith, whole) in
    ap (λ m. m * m % 2 ^ 64) bits
    ∙ (ap (λ m. m % 2 ^ 64) (square_of_rest d e ∙ ap (λ m. e * m + d * d) (sym whole)) ∙ mod-mul-add e (2 ^ 64) (d * d) fits)
