use Rattle.std.proofs.Common.{◌≡◌, ap, ◌∙◌, subst, refl, get_or}
use Rattle.std.proofs.lemmas.List.{get_or_default}
use Rattle.rebuild_parts.specs.Logs.{LogPlan, relogged}
use Rattle.kd_update.specs.Detached.{IsNewTicket, IsPlaceOf, PartAt}
use Rattle.rebuild_parts.proofs.PartLogs.{place_below, relog_forgotten, relog_none, relog_some}
use Rattle.rebuild_parts.proofs.logs.relog.Goals as goal

pub returns-in_default : goal.returns-in_default
returns-in_default c =
    let x : LogPlan = record { ticket = c.log.inside.ticket; log = c.log.inside.log } in
    let new = subst (IsNewTicket x.ticket) c.as_slice.ensures.value (c.in_default.ensures.none refl) in
    relog_none x c.args.parts.now.items new ∙ ap (λ (y : LogPlan). relogged y c.args.parts.now.items) c.log.view_is

pub returns-in-None : goal.returns-in-None
returns-in-None c =
    let x : LogPlan = record { ticket = c.log.inside.ticket; log = c.log.inside.log } in
    let place = subst (IsPlaceOf x.ticket c.in-Some.place) c.as_slice.ensures.value c.in-Some.ensures.some in
    c.remove-part.ensures.items ∙ relog_forgotten x c.args.parts.now.items c.in-Some.place place c.in-None.is ∙ ap (λ (y : LogPlan). relogged y c.args.parts.now.items) c.log.view_is

pub returns-in-Some-log : goal.returns-in-Some-log
returns-in-Some-log c =
    let x : LogPlan = record { ticket = c.log.inside.ticket; log = c.log.inside.log } in
    let place = subst (IsPlaceOf x.ticket c.in-Some.place) c.as_slice.ensures.value c.in-Some.ensures.some in
    let p = c.part.inside in
    let q : PartAt = record { slot = p.slot; path = p.path; ticket = p.ticket; items = p.held; log = p.log } in
    let read = c.index_mut-part.ensures.value in
    let is : q ≡ get_or c.args.parts.now.items c.in-Some.place q =
    c.part.view_is ∙ read ∙ get_or_default c.args.parts.now.items c.in-Some.place c.index_mut-part.result.now q (place_below c.log.inside.ticket c.in-Some.place c.args.parts.now.items place) in
    relog_some x c.args.parts.now.items c.in-Some.place q c.in-Some-log.log place c.in-Some-log.is is ∙ ap (λ (y : LogPlan). relogged y c.args.parts.now.items) c.log.view_is
