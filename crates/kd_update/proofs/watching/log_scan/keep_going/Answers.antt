use Rattle.std.proofs.Common.{rules}
use Rattle.std.proofs.lemmas.Fn.{filter_same}
use Rattle.map_items.specs.declared.item.Item.{Item}
use Rattle.kd_update.specs.Put.{goes_left}
use Rattle.kd_update.specs.Watch.{goes_to}
use Rattle.kd_update.proofs.watching.log_scan.keep_going.Goals as goal

pub returns : goal.returns
returns c = filter_same _ (λ (i : Item). goes_to c.args.side (goes_left c.args.axis i.point c.args.point.now)) _ (λ x b f h. search rules) _ _ c.retain.ensures.filtered
