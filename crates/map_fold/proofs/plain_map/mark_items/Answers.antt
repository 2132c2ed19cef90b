use Rattle.std.proofs.Common.{◌∙◌, ap, rules}
use Rattle.std.specs.Prelude.{not}
use Rattle.std.proofs.lemmas.Fn.{filter_same}
use Rattle.node_labels.specs.Labels.{is_dropped}
use Rattle.map_items.specs.declared.item.Item.{Item}
use Rattle.map_items.specs.Contents.{kept}
use Rattle.map_fold.proofs.plain_map.mark_items.Goals as goal

pub returns : goal.returns
returns c =
    filter_same _ (λ (i : Item). not (is_dropped i.label)) _ (λ x b f h. search rules) _ _ c.retain.ensures.filtered
    ∙ ap kept c.relabel.ensures
