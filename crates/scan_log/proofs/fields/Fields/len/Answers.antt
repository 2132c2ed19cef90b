use Rattle.std.proofs.Common.{◌+◌, length, nat_eq, sym, ap, ◌∙◌}
use Rattle.std.proofs.lemmas.List.Splits.{length-slice_split}
use Rattle.scan_log.proofs.fields.Fields.len.Goals as goal

pub returns-then-self : goal.returns-then-self
returns-then-self c =
    let view = rw c.if-self.true at c.self.view_is in
    ap (λ n. n + 1) c.count_of.ensures.value ∙ sym (length-slice_split (λ b. nat_eq b 32) c.self.inside.rest.now) ∙ ap length view
