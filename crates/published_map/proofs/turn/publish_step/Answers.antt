use Rattle.std.proofs.Common.{◌++◌, sym, ap, ◌∙◌}
use Rattle.rebuild_parts.specs.History.{listed}
use Rattle.published_map.proofs.turn.publish_step.Goals as goal

pub publish_version-requires : goal.publish_version-requires
publish_version-requires g c =
    let more = listed c.args.planned.entry in
    record { known = c.requires.at.0 ∙ sym c.requires.at.1; longer = (more, ap (λ h. h ++ more) c.requires.at.1 ∙ sym c.requires.shown) }
