use Rattle.std.proofs.Common.{arith, rules, FitsSigned, w64}
use Rattle.std.proofs.lemmas.Int.{to_z-of_z}
use Rattle.log_numbers.proofs.FirstFields.{first_field-le, first_field-whole}
use Rattle.log_numbers.proofs.FrontNumbers.{spaced_bad, whole_bad}
use Rattle.log_numbers.proofs.field.numeral.Goals as goal

pub returns-in_err-number : goal.returns-in_err-number
returns-in_err-number c = rw c.from_residual.ensures (whole_bad c.args.field.now c.in_err-number.ensures)

pub returns-then-number-field : goal.returns-then-number-field
returns-then-number-field c =
    let r = c.in_ok-number.ensures in
    let is = first_field-whole c.args.field.now (omega (arith, r.size, c.if-number-field.true)) in
    let q = rw is at r in
    let n = c.in_ok-number.number.value in
    let fits : FitsSigned w64 n = search rules in
    (q.passes, rw (to_z-of_z w64 n fits) q.value)

pub returns-else-number-field : goal.returns-else-number-field
returns-else-number-field c =
    let r = c.in_ok-number.ensures in
    spaced_bad c.args.field.now (omega (arith, r.size, c.if-number-field.false, first_field-le c.args.field.now))
