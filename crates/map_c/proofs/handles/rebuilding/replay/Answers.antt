use Rattle.std.proofs.Common.{◌≡◌, ◌∙◌, refl, sym}
use Rattle.map_c.specs.declared.handles.content.Content.TheVariants as content
use Rattle.map_c.specs.BuiltSubtree.{BuiltSubtreeAt}
use Rattle.map_c.proofs.Replayed.{replayed_in}
use Rattle.map_c.proofs.handles.rebuilding.replay.Goals as goal

pub returns-in-Ok-clause-replayed : goal.returns-in-Ok-clause-replayed
returns-in-Ok-clause-replayed c =
    let d : BuiltSubtreeAt = record { built = c.in-Built.field-0.built; left = c.in-Built.field-0.left; large = c.in-Built.field-0.large } in
    let is : c.args.content.now ≡ content.Built d = sym c.replace.ensures.value ∙ (sym c.other.view_is ∙ rw c.in-Built.is refl) in
    rw c.new.ensures (replayed_in c.args.content.now d c.in-Ok.built is (rw c.as_slice.ensures at c.in-Ok.ensures.replayed))
