use Rattle.std.proofs.Common.{ap, ◌∙◌}
use Rattle.std.proofs.lemmas.Result.{IfOk-weaker}
use Rattle.map_fold.specs.Answers.{nearest}
use Rattle.map_items.specs.Contents.{live_items}
use Rattle.kd_tree.specs.Contents.{contents}
use Rattle.kd_tree.specs.Shape.{Shape}
use Rattle.map_c.specs.Frozen.{IsFrozenOf}
use Rattle.map_c.specs.declared.handles.content.Content.TheVariants as content
use Rattle.map_c.proofs.freezing.made_of.Goals as goal

pub returns : goal.returns
returns c =
    IfOk-weaker c.boxed.result _ (λ index. IsFrozenOf c.args.version.now index.value)
    (λ index same. record {
      items = c.in_ok-live.live;
      is = same ∙ ap content.Frozen c.in_ok-frozen.ensures.ok;
      live = c.in_ok-live.ensures.live ∙ ap (λ (t : Shape). live_items (contents t)) c.tree.ensures;
      asked = λ k q r. c.in_ok-live.ensures.asked k q r ∙ ap (λ (t : Shape). nearest (contents t) k q r) c.tree.ensures;
    })
    c.boxed.ensures
