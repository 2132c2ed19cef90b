use Rattle.std.proofs.Common.{◌≡◌, ◌∙◌, ◌+◌, ◌*◌, ◌%◌, ◌<◌, refl, arith}
use Rattle.mapper_base.specs.Generated.{drawn, next, point}
use Rattle.mapper_base.proofs.Placed.{less_than}
use Rattle.mapper_base.proofs.draws.Draws.point.Goals as goal

pub returns-clause-point : goal.returns-clause-point
unfolding point
returns-clause-point c =
    let y : c.draw-y.result ≡ drawn (next (next c.args.self.now)) = rw c.draw.ensures.moved at c.draw-y.ensures.drawn in
    let z : c.draw-z.result ≡ drawn (next (next (next c.args.self.now))) = rw (c.draw-y.ensures.moved, c.draw.ensures.moved) at c.draw-z.ensures.drawn in
    let i = c.args.scan in
    let small : 1000 * i + c.draw.result % 60001 < 1000000 = omega (arith, c.requires) in
    let px = less_than (1000 * i + c.draw.result % 60001) 30000 small (omega arith) in
    let py = less_than (c.draw-y.result % 60001) 30000 (omega arith) (omega arith) in
    let pz = less_than (c.draw-z.result % 6001) 3000 (omega arith) (omega arith) in
    c.point_at.ensures.value ∙ rw (← c.draw.ensures.drawn, ← y, ← z, px, py, pz) refl

pub returns-clause-place : goal.returns-clause-place
returns-clause-place c = let all = c.point_at.ensures.place in (all.0, all.1, all.2, omega (arith, all.3))
