use Rattle.std.proofs.Common.{◌≡◌, ◌+◌, List, [], ◌∷◌, ◌++◌, length, length-append, refl, sym, ◌∙◌, ap, subst, arith}
use mathlib.Core.List.{IsPrefix}
use Rattle.map_items.specs.declared.entry.Entry.{Entry}
use Rattle.rebuild_parts.specs.History.{entry_by, listed}
use Rattle.rebuild_core.specs.Lawful.{StateAt, Stored}
use Rattle.rebuild_core.specs.Steps.{entered}
use Rattle.shown_versions.specs.Marks.{Seen}
use Rattle.published_map.proofs.Marking.{marked_after, pass_added}
use Rattle.published_map.proofs.Hearing.{begins}
use Rattle.published_map.proofs.Holding.{true_after}
use Rattle.published_map.proofs.locked.Locked.make.Goals as goal

pub invariant_of-self-2 : goal.invariant_of-self-2
invariant_of-self-2 g c =
    let i = c.self.invariant in
    let s : StateAt = c.self.inside.state.state in
    let t : StateAt = c.take_step.new.state.state in
    let plan = c.in_ok-planned.ensures in
    let step = c.in_ok-mark.ensures in
    let is : t ≡ entered c.in_ok-planned.planned s = step.entered ∙ ap (entered c.in_ok-planned.planned) plan.same in
    let entry : Entry = entry_by c.pass.inside.caller c.args.update s.history in
    let longer : t.history ≡ s.history ++ entry ∷ [] = ap (λ (x : StateAt). x.history) is ∙ ap (λ o. s.history ++ listed o) plan.planned.entry in
    let one : length t.history ≡ length s.history + 1 = ap length longer ∙ length-append s.history (entry ∷ []) in
    let total = c.add.ensures.total in (
      step.marks ∙ i.0,
      ap (λ (x : StateAt). x.settings.voxel) is ∙ i.1,
      record { writer = step.at.0; published = step.at.1; counted = omega (arith, total, i.2.counted, one); no_part = i.2.no_part; nothing = i.2.nothing },
      true_after c.in_ok-planned.planned s t _ is i.3,
    )

pub invariant_of-pass-2 : goal.invariant_of-pass-2
invariant_of-pass-2 g c =
    let s : StateAt = c.self.inside.state.state in
    let h : List Entry = s.history in
    let e : Entry = entry_by c.pass.inside.caller c.args.update h in
    let plan = c.in_ok-planned.ensures in
    let step = c.in_ok-mark.ensures in
    let got : c.read_newest.result ≡ c.published-shown.result.now = c.read_newest.ensures.same in
    let now : c.read_newest.result ≡ c.take_step.new.state.state.history = got ∙ (c.published-shown.ensures ∙ step.at.1) in
    let entry = c.in_ok-planned.planned.entry in
    let after : c.read_newest.result ≡ h ++ e ∷ [] =
    now
    ∙ (ap (λ (t : StateAt). t.history) step.entered
    ∙ (ap (λ (t : StateAt). t.history ++ listed entry) plan.same ∙ ap (λ o. h ++ listed o) plan.planned.entry))
    in
    let p : IsPrefix c.pass.inside.kept h = subst (λ (z : Seen × Stored). IsPrefix z.0.seen z.1.state.history) (λ k. (sym c.pass.view_is k, sym c.self.view_is k)) c.requires.begins in
    let more = c.push_reserved.ensures.items ∙ ap (λ ks. ks ++ length c.history.result.now ∷ []) c.reserve.ensures.items in
    pass_added _ _ h _ _ _ _ _ _ _ _ e c.pass.invariant p after more (ap length c.history.ensures.value) refl
    plan.room.updates (begins _ _ (got ∙ sym c.read_newest.ensures.at)) _ _ c.add.ensures.parts c.add.ensures.amount

pub returns-clause-made : goal.returns-clause-made
returns-clause-made g c =
    let s : StateAt = c.self.inside.state.state in
    let h : List Entry = s.history in
    let e : Entry = entry_by c.pass.inside.caller c.args.update h in
    let plan = c.in_ok-planned.ensures in
    let step = c.in_ok-mark.ensures in
    let got : c.read_newest.result ≡ c.published-shown.result.now = c.read_newest.ensures.same in
    let now : c.read_newest.result ≡ c.take_step.new.state.state.history = got ∙ (c.published-shown.ensures ∙ step.at.1) in
    let entry = c.in_ok-planned.planned.entry in
    let after : c.read_newest.result ≡ h ++ e ∷ [] =
    now
    ∙ (ap (λ (t : StateAt). t.history) step.entered
    ∙ (ap (λ (t : StateAt). t.history ++ listed entry) plan.same ∙ ap (λ o. h ++ listed o) plan.planned.entry))
    in
    let p : IsPrefix c.pass.inside.kept h = subst (λ (z : Seen × Stored). IsPrefix z.0.seen z.1.state.history) (λ k. (sym c.pass.view_is k, sym c.self.view_is k)) c.requires.begins in
    let more = c.push_reserved.ensures.items ∙ ap (λ ks. ks ++ length c.history.result.now ∷ []) c.reserve.ensures.items in
    let m = marked_after c.pass.inside.caller _ h _ _ _ _ e p c.pass.invariant.marked after more (ap length c.history.ensures.value) refl in
    rw (← c.pass.view_is) (refl, (h, p, after), m.1, step.len ∙ ap length (sym now))
