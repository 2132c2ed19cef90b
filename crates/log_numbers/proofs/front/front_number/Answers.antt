use Rattle.std.proofs.Common.{arith}
use Rattle.std.specs.Str.Parse.{digits_value}
use Rattle.log_numbers.specs.Numerals.{first_field}
use Rattle.log_numbers.proofs.FirstFields.{first_field-le}
use Rattle.log_numbers.proofs.FrontNumbers.{minus_first, minus_read, minus_value}
use Rattle.log_numbers.proofs.front.front_number.Goals as goal

pub overflow_add-result : goal.overflow_add-result
overflow_add-result c =
    omega (arith, first_field-le c.without_minus-digits.result.now, c.in_ok-number.ensures.size, c.if-digits-bytes.true)

pub returns-then-digits-bytes : goal.returns-then-digits-bytes
returns-then-digits-bytes c =
    let digits = c.without_minus-digits.result.now in
    let n = c.in_ok-number.number.value in
    let r = c.in_ok-number.ensures in
    let first = minus_first c.args.bytes.now (rw c.without_minus-digits.ensures at c.if-digits-bytes.true) in
    rw (minus_value (digits_value 10 (first_field digits)) n r.value, first, ← c.without_minus-digits.ensures) (minus_read (first_field digits) n c.in_ok-number.number.len r)
