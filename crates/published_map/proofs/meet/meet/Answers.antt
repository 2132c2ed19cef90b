use Rattle.std.proofs.Common.{◌≡◌, List, length, sym, ◌∙◌, ap, subst, arith}
use Rattle.map_items.specs.declared.entry.Entry.{Entry}
use Rattle.rebuild_core.specs.Lawful.{Stored}
use Rattle.shown_versions.specs.Marks.{Seen, made_by, AllMet, AllOf, callers_of}
use Rattle.shown_versions.proofs.Counting.{all_met_at}
use Rattle.published_map.proofs.meet.meet.Goals as goal

pub returns-clause-met : goal.returns-clause-met
returns-clause-met g c =
    let h : List Entry = c.args.locked.now.state.history in
    let a = c.give_all.ensures in
    let held : c.locked.inside.state.state.history ≡ h = ap (λ (s : Stored). s.state.history) (c.locked.view_is ∙ a.same) in
    let i = c.locked.invariant.2 in
    let total = c.audit_from.ensures.total in
    let all : made_by c.give_all.new.passes ≡ length h = omega (arith, i.counted, i.nothing, total, ap length held) in
    let e = all_met_at h c.args.passes.now c.give_all.new.passes a.seen a.made a.grown c.requires.distinct all in
    subst (λ (z : List Seen). AllMet h z) (sym c.audit_from.ensures.passes) e.0

pub returns-clause-none_else : goal.returns-clause-none_else
returns-clause-none_else g c =
    let h : List Entry = c.args.locked.now.state.history in
    let a = c.give_all.ensures in
    let held : c.locked.inside.state.state.history ≡ h = ap (λ (s : Stored). s.state.history) (c.locked.view_is ∙ a.same) in
    let i = c.locked.invariant.2 in
    let total = c.audit_from.ensures.total in
    let all : made_by c.give_all.new.passes ≡ length h = omega (arith, i.counted, i.nothing, total, ap length held) in
    let e = all_met_at h c.args.passes.now c.give_all.new.passes a.seen a.made a.grown c.requires.distinct all in
    subst (λ (z : List Seen). AllOf (callers_of z) h) (sym c.audit_from.ensures.passes) e.1
