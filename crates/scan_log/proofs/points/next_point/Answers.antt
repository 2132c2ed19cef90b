use Rattle.std.proofs.Common.{drop, ap, sym, ◌∙◌, w64}
use Rattle.std.proofs.lemmas.Int.{to_z-of_z}
use Rattle.scan_log.proofs.Fronts.{coordinate_fits, drop_three, first_bad, first_place_read, second_bad, third_bad}
use Rattle.scan_log.proofs.StepLemmas.{passed_on}
use Rattle.scan_log.proofs.points.next_point.Goals as goal

pub returns-in_err-x-clause-value : goal.returns-in_err-x-clause-value
returns-in_err-x-clause-value c =
    passed_on _ c.in_err-x.field-0.0 c.from_residual.ensures.1 ∙ first_bad c.args.format c.args.fields.now c.in_err-x.field-0.0 c.requires c.in_err-x.ensures.value

pub returns-in_err-y-clause-value : goal.returns-in_err-y-clause-value
returns-in_err-y-clause-value c =
    let px = c.in_ok-x.ensures in
    passed_on _ c.in_err-y.field-0.0 c.from_residual-in_err-y.ensures.1
    ∙ second_bad c.args.format c.args.fields.now _ c.in_ok-x.x c.in_err-y.field-0.0 c.requires px.value px.rest c.in_err-y.ensures.value

pub returns-in_err-z-clause-value : goal.returns-in_err-z-clause-value
returns-in_err-z-clause-value c =
    let px = c.in_ok-x.ensures in
    let py = c.in_ok-y.ensures in
    passed_on _ c.in_err-z.field-0.0 c.from_residual-in_err-z.ensures.1
    ∙ third_bad c.args.format c.args.fields.now _ _ c.in_ok-x.x c.in_ok-y.y c.in_err-z.field-0.0 c.requires px.value px.rest py.value py.rest c.in_err-z.ensures.value

pub returns-clause-value : goal.returns-clause-value
returns-clause-value c =
    let x = c.in_ok-x.x in
    let y = c.in_ok-y.y in
    let z = c.in_ok-z.z in
    let px = c.in_ok-x.ensures in
    let py = c.in_ok-y.ensures in
    let pz = c.in_ok-z.ensures in
    let fx = coordinate_fits c.args.format x px.range in
    let fy = coordinate_fits c.args.format y py.range in
    let fz = coordinate_fits c.args.format z pz.range in
    c.point_at.ensures
    ∙ rw (to_z-of_z w64 x fx, to_z-of_z w64 y fy, to_z-of_z w64 z fz) (sym (first_place_read c.args.format c.args.fields.now _ _ x y z c.requires px.value px.rest py.value py.rest pz.value))

pub returns-clause-rest : goal.returns-clause-rest
returns-clause-rest c =
    rw c.point_at.ensures (c.in_ok-z.ensures.rest ∙ ap (drop 1) (c.in_ok-y.ensures.rest ∙ ap (drop 1) c.in_ok-x.ensures.rest) ∙ drop_three c.args.fields.now)

pub point_at-requires-clause-x : goal.point_at-requires-clause-x
point_at-requires-clause-x c =
    let range = c.in_ok-x.ensures.range in
    rw (to_z-of_z w64 c.in_ok-x.x (coordinate_fits c.args.format c.in_ok-x.x range)) range

pub point_at-requires-clause-y : goal.point_at-requires-clause-y
point_at-requires-clause-y c =
    let range = c.in_ok-y.ensures.range in
    rw (to_z-of_z w64 c.in_ok-y.y (coordinate_fits c.args.format c.in_ok-y.y range)) range

pub point_at-requires-clause-z : goal.point_at-requires-clause-z
point_at-requires-clause-z c =
    let range = c.in_ok-z.ensures.range in
    rw (to_z-of_z w64 c.in_ok-z.z (coordinate_fits c.args.format c.in_ok-z.z range)) range
