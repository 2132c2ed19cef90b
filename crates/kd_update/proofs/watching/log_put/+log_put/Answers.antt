use Rattle.std.proofs.Common.{◌≡◌, Bool, true, false, [], ◌++◌, length, sym, ap, ◌∙◌, subst, arith, append-nil, refl, OnOk, cond}
use Rattle.node_labels.specs.Labels.{composed}
use Rattle.kd_tree.specs.Shape.{Head}
use Rattle.kd_tree.specs.Parts.{child}
use Rattle.kd_tree.specs.Walk.{tagged}
use Rattle.kd_mark.specs.Watch.{handed}
use Rattle.kd_update.specs.Watch.{goes_to, logged_put}
use Rattle.kd_mark.proofs.Logged.{few_first, few_rest, logged_all, logged_none, room_first, room_rest}
use Rattle.kd_update.proofs.Logged.{ahead_put, ahead_put_none, ahead_put_root}
use Rattle.std.proofs.lemmas.Result.{on_ok_weaker}
use Rattle.kd_update.proofs.watching.log_put.+log_put.Goals as goal
use Rattle.kd_update.proofs.watching.log_put.+log_put.Goals.{After-goes_to-goes_on, In_ok-next}

-- what is logged of a node is its pending action, and what is logged of its child, if the point goes on to it
parts : (t : _) (c : After-goes_to-goes_on t) (b : Bool) → c.goes_to-goes_on.result ≡ b
    → let top = c.in-Some-top.top in
    let below = composed top.pending c.args.pending in
    logged_put c.args.number c.args.point c.args.sides.now (tagged c.args.pending c.args.tree.now)
    ≡ handed c.in-Some.rest.now below ++ cond b (logged_put c.args.number c.args.point c.in-Some.rest.now (tagged below (child c.in-Some.side.now top.left.now top.right.now))) []
parts t c b e =
    let top = c.in-Some-top.top in
    let h : Head = record { item = top.item; axis = top.axis; pending = top.pending } in
    ap (λ q. logged_put c.args.number c.args.point q (tagged c.args.pending c.args.tree.now)) c.in-Some.ensures.cases.0
    ∙ ahead_put c.args.number c.args.point c.args.pending _ c.in-Some.side.now c.in-Some.rest.now c.args.tree.now _ h top.left.now top.right.now b
    c.in-Some-top.ensures.some refl refl (sym e ∙ c.goes_to-goes_on.ensures ∙ ap (goes_to c.in-Some.side.now) c.goes_left.ensures)

-- so it is with the child and the action as they are gone on with
onward : (t : _) (c : In_ok-next t)
    → let top = c.in-Some-top.top in
    let below = composed top.pending c.args.pending in
    logged_put c.args.number c.args.point c.args.sides.now (tagged c.args.pending c.args.tree.now)
    ≡ handed c.in-Some.rest.now below
    ++ logged_put c.args.number c.args.point c.in-Some.rest.now (tagged below (child c.in-Some.side.now top.left.now top.right.now))
    → logged_put c.args.number c.args.point c.args.sides.now (tagged c.args.pending c.args.tree.now)
    ≡ handed c.in-Some.rest.now below ++ logged_put c.args.number c.args.point c.in-Some.rest.now (tagged c.in_ok-next.pending c.in_ok-next.next.now)
onward t c parts = rw (c.in_ok-next.ensures.pending, c.in_ok-next.ensures.next) parts

pub note-requires : goal.note-requires
note-requires t c =
    omega (arith, c.requires, ap length (ahead_put_root c.args.number c.args.point c.args.pending c.args.sides.now c.args.tree.now c.in_default.ensures.cases))

pub returns-in_default-clause-logged : goal.returns-in_default-clause-logged
returns-in_default-clause-logged t c =
    let one = ahead_put_root c.args.number c.args.point c.args.pending c.args.sides.now c.args.tree.now c.in_default.ensures.cases in
    subst (λ ops. OnOk c.note.result (c.note.new.log ≡ c.args.log.now ++ ops)) (sym one) c.note.ensures.logged

pub returns-in_default-top-clause-logged : goal.returns-in_default-top-clause-logged
returns-in_default-top-clause-logged t c =
    logged_none c.args.log.now _ (ap (λ q. logged_put c.args.number c.args.point q (tagged c.args.pending c.args.tree.now)) c.in-Some.ensures.cases.0
    ∙ ahead_put_none c.args.number c.args.point c.args.pending c.in-Some.side.now c.in-Some.rest.now c.args.tree.now (c.in_default-top.ensures.none.0 refl))

pub step_down-requires : goal.step_down-requires
step_down-requires t c = room_first _ _ _ _ (parts t (goal.at.step_down-requires t c).After-goes_to-goes_on _ refl) c.requires

pub returns-then-not-goes_on-clause-logged : goal.returns-then-not-goes_on-clause-logged
returns-then-not-goes_on-clause-logged t c =
    logged_all _ _ _ _ _ _
    (parts t (goal.at.returns-then-not-goes_on-clause-logged t c).After-goes_to-goes_on false c.if-not-goes_on.true)
    c.in_ok-next.ensures.logged (sym (append-nil _))

pub log_put-requires : goal.log_put-requires
log_put-requires t c = (
  omega (arith, c.in-Some.ensures.cases.1),
  room_rest _ _ _ _ _ (let k = goal.at.log_put-requires t c in onward t k.In_ok-next (parts t k.After-goes_to-goes_on true c.if-not-goes_on.false))
      c.in_ok-next.ensures.logged c.requires,
)

pub returns-clause-logged : goal.returns-clause-logged
returns-clause-logged t c =
    on_ok_weaker c.log_put.result (λ e. logged_all _ _ _ _ _ _
    (let k = goal.at.returns-clause-logged t c in onward t k.In_ok-next (parts t k.After-goes_to-goes_on true c.if-not-goes_on.false))
    c.in_ok-next.ensures.logged e) c.log_put.ensures.logged

pub returns-in_default-clause-few : goal.returns-in_default-clause-few
returns-in_default-clause-few t c =
    omega (arith, c.note.ensures.few, ap length (ahead_put_root c.args.number c.args.point c.args.pending c.args.sides.now c.args.tree.now c.in_default.ensures.cases))

pub returns-in_err-next-clause-few : goal.returns-in_err-next-clause-few
returns-in_err-next-clause-few t c = few_first _ _ _ _ _ (parts t (goal.at.returns-in_err-next-clause-few t c).After-goes_to-goes_on _ refl) c.step_down.ensures.few

pub returns-then-not-goes_on-clause-few : goal.returns-then-not-goes_on-clause-few
returns-then-not-goes_on-clause-few t c = few_first _ _ _ _ _ (parts t (goal.at.returns-then-not-goes_on-clause-few t c).After-goes_to-goes_on false c.if-not-goes_on.true) c.step_down.ensures.few

pub returns-clause-few : goal.returns-clause-few
returns-clause-few t c = few_rest _ _ _ _ _ _ (let k = goal.at.returns-clause-few t c in onward t k.In_ok-next (parts t k.After-goes_to-goes_on true c.if-not-goes_on.false)) c.step_down.ensures.few c.log_put.ensures.few

pub returns-in_default-clause-begins : goal.returns-in_default-clause-begins
returns-in_default-clause-begins t c = c.note.ensures.begins

pub returns-in_err-next-clause-begins : goal.returns-in_err-next-clause-begins
returns-in_err-next-clause-begins t c = c.step_down.ensures.begins

pub returns-then-not-goes_on-clause-begins : goal.returns-then-not-goes_on-clause-begins
returns-then-not-goes_on-clause-begins t c = c.step_down.ensures.begins
