use Rattle.std.proofs.Common.{◌≡◌, List, ◌∷◌, ap, sym, ◌∙◌, subst}
use Rattle.std.specs.Prelude.{OnOk}
use Rattle.rebuild_parts.specs.Logs.{AddsLogs, LogPlan}
use Rattle.kd_update.specs.Detached.{AreLeft, AreOwn, PartAt}
use Rattle.rebuild_parts.proofs.PartLogs.{adds_nothing, logs_step}
use Rattle.rebuild_parts.proofs.logs.+add_logs.Goals as goal

pub returns-in_default : goal.returns-in_default
returns-in_default t c = λ qs k same. adds_nothing c.args.parts.now qs c.args.logs.now.items c.in_default.ensures.cases k

pub returns : goal.returns
returns t c = λ qs k same.
    let p = c.part.inside in
    let part : PartAt = record { slot = p.slot; path = p.path; ticket = p.ticket; items = p.held; log = p.log } in
    let rest = c.in-Some.rest.now in
    let all : c.args.parts.now ≡ part ∷ rest = c.in-Some.ensures.cases.0 ∙ ap (λ (q : PartAt). q ∷ rest) (sym c.part.view_is) in
    let r = c.add_logs.result in
    let new = c.add_logs.new.logs.items in
    subst (λ (ps : List PartAt). OnOk r (AddsLogs c.args.logs.now.items ps qs new)) (sym all)
    (logs_step r part rest qs c.taken-log.result c.args.watches.now.items c.taken-log.new.watches.items c.args.logs.now.items new (subst AreOwn all c.requires) (subst (λ (ps : List PartAt). AreLeft ps qs) all k) same
    c.taken-log.ensures.none c.taken-log.ensures.other c.taken-log.ensures.some
    (λ rs left is. subst (λ (os : List LogPlan). OnOk r (AddsLogs os rest rs new)) c.in_ok-push.ensures.items (c.add_logs.ensures rs left is)))
