use Rattle.std.proofs.Common.{◌≡◌, refl, sym, ◌∙◌, arith}
use Rattle.point_geom.specs.Refusals.{cuboid_of}
use Rattle.mapper_base.specs.Generated.{box_behind}
use Rattle.mapper_base.proofs.Placed.{behind_good, box_fits, far_side}
use Rattle.mapper_base.proofs.generated.behind.Goals as goal
use Rattle.mapper_base.proofs.generated.behind.Goals.{In-Ok}

-- the box is the one that lies box_behind
is_behind : (c : In-Ok) → c.in-Ok.cuboid ≡ box_behind c.args.scan
is_behind c =
    let i = c.args.scan in
    let exact : c.new.result ≡ cuboid_of (box_behind i).lo (box_behind i).hi =
    c.new.ensures.exact ∙ rw (far_side i 60000 c.requires (omega arith), far_side i 30000 c.requires (omega arith)) refl in
    let is = sym c.in-Ok.is ∙ exact ∙ box_fits (box_behind i) (behind_good i c.requires) in
    cc (is)

pub returns-clause-value : goal.returns-clause-value
returns-clause-value c = is_behind c

pub returns-clause-lawful : goal.returns-clause-lawful
returns-clause-lawful c = rw (is_behind c) (behind_good c.args.scan c.requires)
