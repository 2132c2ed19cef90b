use Rattle.std.proofs.Common.{◌≡◌, refl, arith}
use Rattle.std.proofs.lemmas.Grind.{common_steps}
use Rattle.map_c.specs.Forms.{point_at}
use Rattle.map_c.proofs.Made.{point_is}
use Rattle.map_c.proofs.handles.reading.read_point.Goals as goal

pub returns-in-Ok-clause-ok : goal.returns-in-Ok-clause-ok
returns-in-Ok-clause-ok c =
    let bare : c.in-Ok.bare ≡ record (point_at c.args.point.now) { intensity = 0 } = grind (arith, common_steps, point_is) in
    rw (c.with_intensity.ensures.value, bare) refl
