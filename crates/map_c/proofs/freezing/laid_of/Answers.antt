use Rattle.std.proofs.Common.{ap, refl, ◌∙◌}
use Rattle.std.proofs.lemmas.Result.{IfOk-weaker}
use Rattle.map_items.specs.Contents.{live_items}
use Rattle.kd_tree.specs.Contents.{contents}
use Rattle.kd_frozen.proofs.Live.{nearest-live}
use Rattle.rebuild_parts.specs.Seen.{VersionAt}
use Rattle.map_c.specs.Frozen.{IsFrozenOf}
use Rattle.map_c.specs.declared.handles.content.Content.TheVariants as content
use Rattle.map_c.proofs.freezing.laid_of.Goals as goal

pub returns : goal.returns
returns c =
    let version = c.args.version.now.value in
    IfOk-weaker c.boxed.result _ (λ index. IsFrozenOf version index.value)
    (λ index same. record {
      items = live_items (contents version.tree);
      is = same ∙ ap (λ (v : VersionAt). content.Frozen (live_items (contents v.tree))) c.in_ok-version.ensures;
      live = refl;
      asked = λ k q r. nearest-live (contents version.tree) k q r;
    })
    c.boxed.ensures
