use Rattle.std.proofs.Common.{◌≡◌, ℕ, length, arith, sym, subst}
use Rattle.kd_frozen.specs.Shortlist.{hit_at}
use Rattle.kd_frozen.specs.Close.{IsCloseBound}
use Rattle.kd_frozen.proofs.CloseBounds.{close_drawn, close_stays}
use Rattle.kd_frozen.proofs.close.put.Goals as goal

pub returns-then-len-query-clause-bound : goal.returns-then-len-query-clause-bound
returns-then-len-query-clause-bound c =
    let query = c.args.query.now in
    close_stays query.k query.within (hit_at c.args.near.now) c.args.list.now c.put.new.self c.args.bound c.requires.bound c.requires.near c.put.ensures

pub returns-clause-bound : goal.returns-clause-bound
returns-clause-bound c =
    let query = c.args.query.now in
    let new = c.put.new.self in
    let near = hit_at c.args.near.now in
    let stays = close_stays query.k query.within near c.args.list.now new c.args.bound c.requires.bound c.requires.near c.put.ensures in
    let full : length new ≡ query.k = omega (arith, stays.bounds.held.few, c.if-len-query.false, c.len.ensures) in
    let drawn = close_drawn query.k query.within new near c.args.bound query.some full stays in
    let F : ℕ → Type 0 = IsCloseBound query.k query.within new in
    subst F (sym (rw (c.dist2_at.ensures near) at c.min.ensures)) drawn
