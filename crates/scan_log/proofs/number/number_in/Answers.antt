use Rattle.std.proofs.Common.{◌≡◌, ◌∙◌, refl, rules, FitsSigned, w64}
use Rattle.std.proofs.lemmas.Int.{to_z-of_z}
use Rattle.scan_log.specs.Numbers.{in_range}
use Rattle.scan_log.proofs.Caps.{in_range-numeral}
use Rattle.scan_log.proofs.number.number_in.Goals as goal

pub returns-clause-value : goal.returns-clause-value
returns-clause-value c =
    let low = c.args.low in
    let high = c.args.high in
    let n = c.in_ok-number.number in
    let fits : FitsSigned w64 n = search rules in
    let told : c.in_range.result ≡ in_range low high n =
    c.in_range.ensures.value ∙ rw (to_z-of_z w64 low c.ranges.low, to_z-of_z w64 high c.ranges.high, to_z-of_z w64 n fits) refl in
    let read = rw c.in_ok-number.ensures.ok_part at c.numeral.ensures in
    told ∙ in_range-numeral low high n c.args.field.now c.requires.low c.requires.high read.0 read.1
