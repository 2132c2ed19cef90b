use Rattle.std.proofs.Common.{◌∷◌, [], ◌∙◌, List, ap, length, subst, sym, eqb-true, IfOk}
use Rattle.std.proofs.lemmas.List.{nil_from_length}
use Rattle.map_items.specs.declared.op.Op.{Op}
use Rattle.kd_update.specs.Replay.{IsPerformed}
use Rattle.kd_update.proofs.OpRuns.{all_performed, performed_none}
use Rattle.kd_update.proofs.replaying.replay.done.Goals as goal

pub returns-in_default : goal.returns-in_default
returns-in_default g c =
    subst (λ (xs : List Op). IsPerformed c.args.large c.args.tree xs c.args.tree) (sym (nil_from_length c.args.piece.now c.in_default.ensures.cases)) (performed_none c.args.large c.args.tree)

pub returns-then-is_empty : goal.returns-then-is_empty
returns-then-is_empty g c =
    let s = c.args.tree in
    let e = c.performed.ensures in
    let none = nil_from_length c.in-Some.others.now (eqb-true (length c.in-Some.others.now) 0 (sym c.is_empty.ensures ∙ c.if-is_empty.true)) in
    let one = c.in-Some.ensures.cases.0 ∙ ap (λ (xs : List Op). c.in-Some.op.now ∷ xs) none in
    subst (λ (xs : List Op). IfOk c.performed.result (λ t. IsPerformed c.args.large s xs t)) (sym one)
    (all_performed c.args.large s (c.in-Some.op.now ∷ []) c.performed.result e.contents e.numbers e.balance e.low e.few)
