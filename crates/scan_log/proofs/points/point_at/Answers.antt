use Rattle.std.proofs.Common.{◌≡◌, Ok, refl, ap, sym, ◌∙◌, w64}
use Rattle.std.proofs.lemmas.Int.{to_z-of_z}
use Rattle.point_geom.specs.Refusals.{point_of}
use Rattle.scan_log.proofs.Made.{far_off, point_fits}
use Rattle.scan_log.proofs.points.point_at.Goals as goal
use Rattle.scan_log.proofs.points.point_at.Goals.{After-new}

-- what is made of the coordinates
made : (c : After-new) → far_off c.new.result ≡ Ok (record { x = c.args.x; y = c.args.y; z = c.args.z; intensity = 0 })
made c =
    let x = c.args.x in
    let y = c.args.y in
    let z = c.args.z in
    let exact : c.new.result ≡ point_of x y z =
    c.new.ensures.exact ∙ rw (to_z-of_z w64 x c.ranges.x, to_z-of_z w64 y c.ranges.y, to_z-of_z w64 z c.ranges.z) refl in
    ap far_off (exact ∙ point_fits c.args.format x y z c.requires.x c.requires.y c.requires.z)

pub returns-in-Ok : goal.returns-in-Ok
returns-in-Ok c = ap far_off (sym c.in-Ok.is) ∙ made (goal.at.returns-in-Ok c).After-new

pub returns-in-Err : goal.returns-in-Err
returns-in-Err c = ap far_off (sym c.in-Err.is) ∙ made (goal.at.returns-in-Err c).After-new
