use Rattle.std.proofs.Common.{[], ◌∷◌, refl, sym, ap, ◌∙◌, arith, List}
use Rattle.kd_update.specs.Detached.{PartAt}
use Rattle.rebuild_parts.proofs.part.+index_of.Goals as goal

pub returns-then-first-ticket-clause-some : goal.returns-then-first-ticket-clause-some
returns-then-first-ticket-clause-some t c =
    record {
      front = [];
      part = c.in_ok-first.first.now;
      back = c.in_ok-first.rest.now;
      all = c.in_ok-first.ensures.cases.0;
      place = refl;
      is = sym c.if-first-ticket.true ∙ ap (λ (p : PartAt). p.ticket) c.first.view_is;
      new = tt;
    }

pub returns-clause-some : goal.returns-clause-some
returns-clause-some t c =
    let k = c.in_ok-place.ensures.some in
    let first = c.in_ok-first.first.now in
    record {
      front = first ∷ k.front;
      part = k.part;
      back = k.back;
      all = c.in_ok-first.ensures.cases.0 ∙ ap (λ (z : List PartAt). first ∷ z) k.all;
      place = omega (arith, k.place);
      is = k.is;
      new = ((λ e. c.if-first-ticket.false (ap (λ (p : PartAt). p.ticket) c.first.view_is ∙ sym e)), k.new);
    }
