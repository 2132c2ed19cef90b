use Rattle.std.proofs.Common.{◌≡◌, ◌+◌, ◌≤◌, ◌-ℤ◌, true, ◌∙◌, sym, arith}
use Rattle.std.specs.Prelude.{unsigned_abs}
use Rattle.std.proofs.lemmas.Int.{to_z-of_z}
use Rattle.point_geom.specs.Boxes.{holds, is_between}
use Rattle.point_geom.proofs.Laws.{all_parts}
use Rattle.kd_frozen.proofs.Outside.{out_on, outside_far}
use Rattle.kd_frozen.proofs.beside.outside_from.Goals as goal

pub returns : goal.returns
returns c = λ p out.
    let b = c.args.c.now in
    let q = c.args.q.now in
    let gap = c.min-gap.result in
    let held : holds b q ≡ true = sym c.holds.ensures ∙ c.if-not-holds.false in
    let on = all_parts (is_between b.lo.x q.x b.hi.x) (is_between b.lo.y q.y b.hi.y) (is_between b.lo.z q.z b.hi.z) held in
    let lower_x : c.outside_on-x.result ≤ unsigned_abs (q.x -ℤ b.lo.x) + 1 = grind (arith, to_z-of_z) in
    let upper_x : c.outside_on-x.result ≤ unsigned_abs (b.hi.x -ℤ q.x) = grind (arith, to_z-of_z) in
    let lower_y : c.outside_on-y.result ≤ unsigned_abs (q.y -ℤ b.lo.y) + 1 = grind (arith, to_z-of_z) in
    let upper_y : c.outside_on-y.result ≤ unsigned_abs (b.hi.y -ℤ q.y) = grind (arith, to_z-of_z) in
    let lower_z : c.outside_on-z.result ≤ unsigned_abs (q.z -ℤ b.lo.z) + 1 = grind (arith, to_z-of_z) in
    let upper_z : c.outside_on-z.result ≤ unsigned_abs (b.hi.z -ℤ q.z) = grind (arith, to_z-of_z) in
    outside_far b q p gap
    (out_on b.lo.x b.hi.x q.x gap on.0 (omega (arith, lower_x, c.min.ensures, c.min-gap.ensures)) (omega (arith, upper_x, c.min.ensures, c.min-gap.ensures)))
    (out_on b.lo.y b.hi.y q.y gap on.1 (omega (arith, lower_y, c.min.ensures, c.min-gap.ensures)) (omega (arith, upper_y, c.min.ensures, c.min-gap.ensures)))
    (out_on b.lo.z b.hi.z q.z gap on.2 (omega (arith, lower_z, c.min.ensures, c.min-gap.ensures)) (omega (arith, upper_z, c.min.ensures, c.min-gap.ensures)))
    out
