use Rattle.std.proofs.Common.{◌∙◌, ap, subst, Option}
use Rattle.std.specs.Prelude.{IfSome}
use Rattle.rebuild_parts.specs.Built.{JobAt}
use Rattle.rebuild_core.specs.Detach.{IsDetachStep}
use Rattle.rebuild_core.specs.Lawful.{StateAt}
use Rattle.published_map.specs.MarkedSubtrees.{MarkedSubtreeAt}
use Rattle.published_map.proofs.Holding.{true_detached, true_new, true_with, whole_after}
use Rattle.published_map.proofs.locked.Locked.detach.Goals as goal

pub invariant_of-self-in_default-of : goal.invariant_of-self-in_default-of
invariant_of-self-in_default-of g c =
    let i = c.self.invariant in
    let s : StateAt = c.self.inside.state.state in
    let t : StateAt = c.snapshot.new.self.state in
    let d = subst (λ (o : Option JobAt). IfSome o (λ j. IsDetachStep c.args.slot s j t)) c.in-Some.is c.in_ok-snapshot.ensures.detached in
    let marked = true_detached c.args.slot s c.in-Some.snapshot t _ _ d i.3 c.reserve.ensures.items in
    (c.of-2.ensures.same ∙ i.0, ap (λ (x : StateAt). x.settings.voxel) d.state ∙ i.1, whole_after _ _ _ _ _ _ _ i.2 (ap (λ (x : StateAt). x.history) d.state), marked)

pub invariant_of-self-2 : goal.invariant_of-self-2
invariant_of-self-2 g c =
    let i = c.self.invariant in
    let s : StateAt = c.self.inside.state.state in
    let t : StateAt = c.snapshot.new.self.state in
    let d = subst (λ (o : Option JobAt). IfSome o (λ j. IsDetachStep c.args.slot s j t)) c.in-Some.is c.in_ok-snapshot.ensures.detached in
    let marked = true_detached c.args.slot s c.in-Some.snapshot t _ _ d i.3 c.reserve.ensures.items in
    let subtree : MarkedSubtreeAt = c.new-subtree.result in
    let ticket = ap (λ (h : MarkedSubtreeAt). h.ticket) c.new-subtree.ensures ∙ c.ticket.ensures in
    let items = ap (λ (h : MarkedSubtreeAt). h.items) c.new-subtree.ensures ∙ ap (λ page. page.items) (c.share.ensures ∙ (c.in-Some-of.ensures.mark ∙ c.of_subtree.ensures)) in
    let new = true_new c.args.slot s c.in-Some.snapshot t subtree c.history-history.ensures.lawful d ticket items in (
      c.of-2.ensures.same ∙ i.0,
      ap (λ (x : StateAt). x.settings.voxel) d.state ∙ i.1,
      whole_after _ _ _ _ _ _ _ i.2 (ap (λ (x : StateAt). x.history) d.state),
      true_with t subtree _ _ new marked c.keep_marked_subtree.ensures,
    )
