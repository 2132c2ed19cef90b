use Rattle.std.proofs.Common.{◌≡◌, List, ◌∷◌, get_or, ap, sym, ◌∙◌}
use Rattle.kd_mark.specs.declared.watch.Watch.{Watch}
use Rattle.rebuild_parts.proofs.PartLogs.{first_taken}
use Rattle.rebuild_parts.proofs.SameItems.{not_both}
use Rattle.rebuild_parts.proofs.logs.taken.Goals as goal

pub returns-then-not-is_same-clause-other : goal.returns-then-not-is_same-clause-other
returns-then-not-is_same-clause-other c = λ w ws none all same.
    let both : c.in_ok-first.first.now ∷ c.in_ok-first._rest.now ≡ w ∷ ws = sym (sym c.deref.ensures.value ∙ c.in_ok-first.ensures.cases.0) ∙ all in
    let first : c.in_ok-first.first.now ≡ w = ap (λ (vs : List Watch). get_or vs 0 w) both in
    let e = c.is_same.ensures.1 (ap (λ (v : Watch). v.path) first ∙ same) in
    absurd (not_both c.is_same.result e c.if-not-is_same.true)

pub returns-clause-some : goal.returns-clause-some
returns-clause-some c =
    first_taken c.args.watches.now.items c.remove-log.new.self.items c.in_ok-first._rest.now c.in_ok-first.first.now
    c.remove-log.result c.args.path.now (sym c.deref.ensures.value ∙ c.in_ok-first.ensures.cases.0)
    (c.is_same.ensures.0 c.if-not-is_same.false) c.remove-log.ensures.value c.remove-log.ensures.items
