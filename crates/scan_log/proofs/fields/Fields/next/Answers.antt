use Rattle.std.proofs.Common.{sym, ◌∙◌}
use Rattle.scan_log.proofs.Cuts.{field_cut, field_end}
use Rattle.scan_log.proofs.fields.Fields.next.Goals as goal

pub returns-in-Some : goal.returns-in-Some
returns-in-Some c =
    let cut = field_cut c.self.inside.rest.now c.in-Some.end (sym c.index_of.ensures.value ∙ c.in-Some.is) in
    rw c.if-not-self.false (sym (rw c.if-not-self.false at c.self.view_is) ∙ cut)

pub returns : goal.returns
returns c =
    let none = sym c.index_of.ensures.value ∙ c.in_default.is in
    sym (rw c.if-not-self.false at c.self.view_is) ∙ field_end c.self.inside.rest.now none
