use Rattle.std.proofs.Common.{◌≡◌, ◌++◌, length, sym, ◌∙◌, ap, append-nil}
use Rattle.rebuild_core.specs.Lawful.{StateAt}
use Rattle.rebuild_core.specs.Steps.{entered}
use Rattle.rebuild_parts.specs.History.{listed}
use Rattle.published_map.proofs.Holding.{true_after}
use Rattle.published_map.proofs.locked.Locked.step.Goals as goal

pub invariant_of-self-2 : goal.invariant_of-self-2
invariant_of-self-2 g c =
    let i = c.self.invariant in
    let s : StateAt = c.self.inside.state.state in
    let t : StateAt = c.take_step.new.state.state in
    let e = c.in_ok-take_step.ensures in
    let is : t ≡ entered c.args.planned s = e.entered in
    let none : t.history ≡ s.history = ap (λ (x : StateAt). x.history) is ∙ (ap (λ o. s.history ++ listed o) c.requires.none ∙ append-nil s.history) in (
      e.marks ∙ i.0,
      ap (λ (x : StateAt). x.settings.voxel) is ∙ i.1,
      record { writer = e.at.0; published = e.at.1; counted = i.2.counted ∙ ap length (sym none); no_part = i.2.no_part; nothing = i.2.nothing },
      true_after c.args.planned s t _ is i.3,
    )
