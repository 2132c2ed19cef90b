use Rattle.std.proofs.Common.{◌≡◌, ℕ, length, arith, sym, ap, subst}
use Rattle.kd_search.specs.Nearest.{IsBound}
use Rattle.kd_search.proofs.Bounds.{bound_stays, bound_drawn}
use Rattle.kd_search.proofs.near.Query.put.Goals as goal

pub returns-then-held-self-clause-bound : goal.returns-then-held-self-clause-bound
returns-then-held-self-clause-bound c =
    bound_stays c.args.self.now.k c.args.self.now.within c.args.hit c.args.found.now.hits _ c.args.found.now.bound
    c.requires.bound c.requires.near c.in_ok-put.ensures.ok

pub returns-clause-bound : goal.returns-clause-bound
returns-clause-bound c =
    let k = c.args.self.now.k in
    let new = c.put.new.self in
    let stays = bound_stays k c.args.self.now.within c.args.hit c.args.found.now.hits new c.args.found.now.bound c.requires.bound c.requires.near c.in_ok-put.ensures.ok in
    let full : length new ≡ k = omega (arith, stays.held.few, c.if-held-self.false, ap length c.as_slice-held.ensures) in
    let drawn = bound_drawn k c.args.self.now.within new c.index-held-self.result c.args.found.now.bound c.args.self.now.some full stays in
    let F : ℕ → Type 0 = IsBound k c.args.self.now.within new in
    subst F (sym (rw c.as_slice-held.ensures at c.min-found.ensures)) drawn
