use Rattle.std.proofs.Common.{◌≡◌, ◌∙◌, ap, refl, sym}
use Rattle.rebuild_core.specs.Detach.{IsLogAfter}
use Rattle.rebuild_core.specs.Lawful.{StateAt}
use Rattle.map_c.specs.declared.handles.content.Content.TheVariants as content
use Rattle.map_c.specs.BuiltSubtree.{BuiltSubtreeAt}
use Rattle.map_c.proofs.Steps.{left_in, swapped_in}
use Rattle.map_c.proofs.swapping.swap.Goals as goal

pub returns-in-Ok-clause-swapped : goal.returns-in-Ok-clause-swapped
returns-in-Ok-clause-swapped c =
    let s : StateAt = c.kept.inside.state.state in
    let d : BuiltSubtreeAt = record { built = c.in-Built.field-0.built; left = c.in-Built.field-0.left; large = c.in-Built.field-0.large } in
    let map : c.args.content.now ≡ content.Map s = c.in-Map.is ∙ ap content.Map (sym c.kept.view_is) in
    let value : c.args.value.now ≡ content.Built d = sym c.replace.ensures.value ∙ (sym c.other.view_is ∙ rw c.in-Built.is refl) in
    swapped_in c.args.force c.args.content.now c.args.value.now s c.swap_uncounted.new.self.state d map value c.in-Ok.ensures.may c.in-Ok.ensures.swapped

pub returns-in-Ok-missed-clause-left : goal.returns-in-Ok-missed-clause-left
returns-in-Ok-missed-clause-left c _ =
    let s : StateAt = c.kept.inside.state.state in
    let d : BuiltSubtreeAt = record { built = c.in-Built.field-0.built; left = c.in-Built.field-0.left; large = c.in-Built.field-0.large } in
    let e : BuiltSubtreeAt = record { built = c.in-Err.field-0.built; left = c.in-Ok-missed.left; large = c.in-Built.field-0.large } in
    let map : c.args.content.now ≡ content.Map s = c.in-Map.is ∙ ap content.Map (sym c.kept.view_is) in
    let value : c.args.value.now ≡ content.Built d = sym c.replace.ensures.value ∙ (sym c.other.view_is ∙ rw c.in-Built.is refl) in
    let after : IsLogAfter d.built s e.left = rw c.in-Err.ensures.handed_back at (rw c.in-Err.ensures.same at c.in-Ok-missed.ensures.missed) in
    left_in c.args.content.now c.args.value.now s d e map value after c.in-Err.ensures.handed_back refl
