use Rattle.std.proofs.Common.{ap, ◌∙◌}
use Rattle.map_items.specs.Sizes.{Sizes}
use Rattle.rebuild_core.specs.Lawful.{new_state}
use Rattle.mapper_base.proofs.serial_run.whole_script.in_order.Goals as goal

pub in_order_on-requires : goal.in_order_on-requires
in_order_on-requires c = c.in_ok-state.ensures ∙ ap (λ (z : Sizes). new_state z) c.settings.ensures
