use Rattle.std.proofs.Common.{◌<◌, ◌≤◌, ◌^◌, get_or, rules, arith, w64}
use Rattle.std.proofs.lemmas.Int.{to_z_pos}
use Rattle.log_numbers.proofs.FirstFields.{digits_end, digits_more}
use Rattle.log_numbers.proofs.front.digits.Goals as goal

pub loop-place-preserved : goal.loop-place-preserved
loop-place-preserved c =
    let low : 48 ≤ get_or c.args.bytes.now c.loop-place.place 0 = search rules in
    let high : get_or c.args.bytes.now c.loop-place.place 0 ≤ 57 = search rules in
    rw c.with_digit-value.ensures (digits_more c.args.bytes.now c.loop-place.place c.loop-place.value c.loop-place-test.true low high c.loop-place.invariant)

pub returns : goal.returns
returns c =
    let few : c.loop-place.value < 2 ^ 63 = omega (arith, c.loop-place.invariant.value) in
    rw (to_z_pos w64 c.loop-place.value few) (digits_end c.args.bytes.now c.loop-place.place c.loop-place.value c.loop-place-test.false c.loop-place.auto.place-end c.loop-place.invariant)
