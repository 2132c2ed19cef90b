use Rattle.std.proofs.Common.{◌≡◌, ◌∷◌, length, sym, ◌∙◌, ap, rules, arith}
use Rattle.shown_versions.proofs.Counting.{places_length}
use Rattle.published_map.proofs.meet.+audit_from.Goals as goal

pub returns-in-Some-clause-total : goal.returns-in-Some-clause-total
returns-in-Some-clause-total g t c =
    let i = c.first.invariant in
    let parts : c.args.passes.now ≡ c.in-Some.first.now ∷ c.in-Some.rest.now = search rules in
    let mine : length c.in-Some.first.now.mine ≡ length c.first.inside.marks.items = ap (λ p. length p.mine) (sym c.first.view_is) ∙ places_length _ _ 0 _ i.marked in
    let count : c.len-count.result ≡ length c.first.inside.marks.items = search rules in
    let total = c.audit_from.ensures.total in
    let given = c.give.ensures.amount_given in
    rw parts (omega (arith, mine, count, total, given))
