use Rattle.std.proofs.Common.{◌≡◌, ◌*◌, ◌%◌, ◌^◌, ◌≤◌, ◌-ℤ◌, ap, ◌∙◌, arith, rules}
use Rattle.std.specs.Prelude.{unsigned_abs}
use Rattle.std.specs.Int.{cast_unsigned, w64}
use Rattle.std.proofs.lemmas.Int.{ints}
use Rattle.kd_frozen.proofs.Squares.{square_of_bits}
use Rattle.kd_frozen.proofs.distance.close_gap2.Goals as goal

pub returns : goal.returns
returns c =
    let gap = c.args.a -ℤ c.args.b in
    let bits : c.cast_unsigned-gap.result ≡ cast_unsigned w64 gap = search rules in
    let few : unsigned_abs gap ≤ 2 ^ 63 = grind (arith, ints) in
    ap (λ m. m * m % 2 ^ 64) bits ∙ square_of_bits gap few c.requires.fits
