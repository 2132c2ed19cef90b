use Rattle.std.proofs.Common.{List, [], ◌∷◌, ◌++◌, None, ap, sym, ◌∙◌, append-nil}
use Rattle.std.proofs.lemmas.List.{take_all}
use Rattle.rebuild_parts.specs.Logs.{planned_parts}
use Rattle.kd_update.specs.Detached.{PartAt}
use Rattle.rebuild_parts.proofs.PartLogs.{forget_next}
use Rattle.rebuild_parts.proofs.logs.forgotten.Goals as goal

pub loop-part-preserved : goal.loop-part-preserved
loop-part-preserved c =
    let ticket = ap (λ (p : PartAt). p.ticket) c.part.view_is in
    let logs = c.loop-part.logs.items in
    forget_next c.args.parts.now c.loop-part.part-index c.part-item.result logs c.push.new.self.items c.loop-part-test.true c.part-item.is
    (c.in_ok-push.ensures.items ∙ ap (λ t. logs ++ record { ticket = t; log = None } ∷ []) ticket) c.loop-part.invariant

pub returns : goal.returns
returns c =
    let ps = c.args.parts.now in
    ap (planned_parts c.loop-part.logs.items) (sym (append-nil ps) ∙ ap (λ (z : List PartAt). z ++ []) (sym (take_all c.loop-part.part-index ps c.loop-part-test.false))) ∙ c.loop-part.invariant []
