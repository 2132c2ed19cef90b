use Rattle.std.proofs.Common.{◌≡◌, refl, sym, ◌∙◌, w64}
use Rattle.std.proofs.lemmas.Int.{to_z-of_z}
use Rattle.point_geom.specs.Refusals.{point_of}
use Rattle.mapper_base.proofs.Placed.{point_fits}
use Rattle.mapper_base.proofs.draws.point_at.Goals as goal

pub returns : goal.returns
returns c =
    let x = c.args.x in
    let y = c.args.y in
    let z = c.args.z in
    let exact : c.new.result ≡ point_of x y z =
    c.new.ensures.exact ∙ rw (to_z-of_z w64 x c.ranges.x, to_z-of_z w64 y c.ranges.y, to_z-of_z w64 z c.ranges.z) refl in
    let is = sym c.in-Ok.is ∙ exact ∙ point_fits x y z c.requires.0 c.requires.1 c.requires.2 in
    let same : c.in-Ok.point ≡ record { x = x; y = y; z = z; intensity = 0 } = cc (is) in
    record { value = same; place = rw same c.requires }
