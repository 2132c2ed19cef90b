use Rattle.std.proofs.Common.{◌≡◌, ap, subst, arith, length}
use Rattle.std.proofs.lemmas.Bool.Decides.{nat_tests}
use mathlib.Core.List.{IsPrefix}
use Rattle.shown_versions.specs.Book.{last_of}
use Rattle.shown_versions.proofs.Adding.{prefix_same}
use Rattle.shown_versions.proofs.mark.Mark.is_same.Goals as goal

pub returns : goal.returns
returns g c t =
    let both = c.learn.new.self.log in
    let this : IsPrefix c.self.inside.seen.log both = subst (λ l. IsPrefix l both) (ap (λ s. s.log) c.again-both.ensures) c.learn.ensures.2 in
    let long : length c.self.inside.seen.log ≡ length c.other.inside.seen.log = grind (arith, nat_tests, c.if-self-other.false, c.self.invariant.0, c.other.invariant.0) in
    rw (← c.self.view_is, ← c.other.view_is) (ap last_of (prefix_same c.self.inside.seen.log c.other.inside.seen.log both this c.learn.ensures.3 long))
