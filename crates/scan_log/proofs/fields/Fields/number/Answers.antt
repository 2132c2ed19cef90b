use Rattle.std.proofs.Common.{◌∙◌, rules, FitsSigned, w64}
use Rattle.std.proofs.lemmas.Int.{to_z-of_z}
use Rattle.scan_log.proofs.FirstNumbers.{number_bad, number_read, rest_more, rest_none}
use Rattle.scan_log.proofs.fields.Fields.number.Goals.{then-number-self, else-number-self}
use Rattle.scan_log.proofs.fields.Fields.number.Goals as goal

pub returns-in_default-clause-value : goal.returns-in_default-clause-value
returns-in_default-clause-value c =
    let view = rw c.if-not-self.false at c.self.view_is in
    number_bad c.self.inside.rest.now c.args.self.now view (rw c.in_default.is at c.front_number.ensures)

pub returns-clause-value : goal.returns-clause-value
returns-clause-value c =
    let view = rw c.if-not-self.false at c.self.view_is in
    let n = c.in-Some.number.value in
    let fits : FitsSigned w64 n = search rules in
    rw (to_z-of_z w64 n fits) (number_read c.self.inside.rest.now c.args.self.now n c.in-Some.number.len view c.in-Some.ensures)

pub returns-clause-rest : goal.returns-clause-rest
returns-clause-rest c =
    let view = rw c.if-not-self.false at c.self.view_is in
    elim c.if-number-self.branch [
      | then-number-self w ↦ (rw c.if-not-self.false at w.self-is) ∙ rest_more c.self.inside.rest.now c.args.self.now c.in-Some.number.len view c.in-Some.ensures.size w.if-number-self.true
      | else-number-self w ↦ w.self-is ∙ rest_none c.self.inside.rest.now c.args.self.now c.in-Some.number.len view c.in-Some.ensures.size w.if-number-self.false
    ]
