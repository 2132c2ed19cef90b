use Rattle.std.proofs.Common.{List, length, ap, sym, ◌∙◌}
use Rattle.map_items.specs.declared.item.Item.{Item}
use Rattle.map_fold.specs.Answers.{count}
use Rattle.map_items.specs.Fold.{MapAt}
use Rattle.map_fold.proofs.Thinning.{inside_by}
use Rattle.map_fold.proofs.plain_map.PlainMap.count_in.Goals as goal

pub returns : goal.returns
returns c =
    c.inside_count.ensures ∙ ap length (sym (inside_by c.args.c.now c.as_slice.result.now))
    ∙ ap (λ (xs : List Item). count xs c.args.c.now) (c.as_slice.ensures.value ∙ ap (λ (m : MapAt). m.items) c.self.view_is)
