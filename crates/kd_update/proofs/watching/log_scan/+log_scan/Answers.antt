use Rattle.std.proofs.Common.{◌≡◌, ◌++◌, sym, ap, ◌∙◌, arith, length, refl, subst, OnOk}
use Rattle.map_items.proofs.Replays.{extends_itself, extends_on}
use Rattle.node_labels.specs.Labels.{composed}
use Rattle.kd_tree.specs.Shape.{Head}
use Rattle.kd_tree.specs.Parts.{child}
use Rattle.kd_tree.specs.Walk.{tagged}
use Rattle.kd_mark.specs.Watch.{handed}
use Rattle.kd_update.specs.Crossing.{logged_scan, puts_of}
use Rattle.kd_mark.proofs.Logged.{few_rest, logged_all, logged_none, room_rest}
use Rattle.kd_update.proofs.Crossing.{ahead_scan, ahead_scan_leaf, ahead_scan_none, ahead_scan_root}
use Rattle.std.proofs.lemmas.Result.{on_ok_weaker}
use Rattle.kd_update.proofs.watching.log_scan.+log_scan.Goals as goal
use Rattle.kd_update.proofs.watching.log_scan.+log_scan.Goals.{After-as_slice, After-keep_going}

-- what is logged of a node is its pending action, and what is logged of its child
parts : (t : _) (c : After-keep_going t) → logged_scan c.args.sides.now c.args.items.now.items (tagged c.args.pending c.args.tree.now)
    ≡ handed c.in-Some.rest.now (composed c.in-Some-top.top.pending c.args.pending)
    ++ logged_scan c.in-Some.rest.now c.keep_going.new.items.items (tagged c.in_ok-next.pending c.in_ok-next.next.now)
parts t c =
    let top = c.in-Some-top.top in
    let h : Head = record { item = top.item; axis = top.axis; pending = top.pending } in
    let rest = c.in-Some.rest.now in
    let o = composed top.pending c.args.pending in
    let on = child c.in-Some.side.now top.left.now top.right.now in
    ap (λ q. logged_scan q c.args.items.now.items (tagged c.args.pending c.args.tree.now)) c.in-Some.ensures.cases.0
    ∙ ahead_scan c.in-Some.side.now rest c.args.items.now.items c.args.pending o c.args.tree.now on
    h top.left.now top.right.now c.in-Some-top.ensures.some refl refl
    (λ e. c.is_none.ensures.some c.if-is_none.false (c.as_slice-2.ensures.value ∙ e))
    ∙ rw (c.in_ok-next.ensures.pending, c.in_ok-next.ensures.next, c.keep_going.ensures) refl

-- what is logged of the watched root itself
root : (t : _) (c : After-as_slice t) → logged_scan c.args.sides.now c.args.items.now.items (tagged c.args.pending c.args.tree.now) ≡ puts_of c.as_slice.result.now
root t c = ahead_scan_root c.args.sides.now c.args.items.now.items (tagged c.args.pending c.args.tree.now) c.in_default.ensures.cases ∙ ap puts_of (sym c.as_slice.ensures.value)

pub note_puts-requires : goal.note_puts-requires
note_puts-requires t c = omega (arith, c.requires, ap length (root t (goal.at.note_puts-requires t c).After-as_slice))

pub returns-in_default-clause-logged : goal.returns-in_default-clause-logged
returns-in_default-clause-logged t c =
    subst (λ ops. OnOk c.note_puts.result (c.note_puts.new.log ≡ c.args.log.now ++ ops)) (sym (root t (goal.at.returns-in_default-clause-logged t c).After-as_slice)) c.note_puts.ensures.logged

pub returns-in_default-clause-few : goal.returns-in_default-clause-few
returns-in_default-clause-few t c = omega (arith, c.note_puts.ensures.few, ap length (root t (goal.at.returns-in_default-clause-few t c).After-as_slice))

pub returns-then-is_none-clause-logged : goal.returns-then-is_none-clause-logged
returns-then-is_none-clause-logged t c =
    logged_none c.args.log.now _ (ap (λ q. logged_scan q c.args.items.now.items (tagged c.args.pending c.args.tree.now)) c.in-Some.ensures.cases.0
    ∙ ahead_scan_none c.in-Some.side.now c.in-Some.rest.now c.args.items.now.items _ (sym c.as_slice-2.ensures.value ∙ c.is_none.ensures.none c.if-is_none.true))

pub returns-in_default-top-clause-logged : goal.returns-in_default-top-clause-logged
returns-in_default-top-clause-logged t c =
    logged_none c.args.log.now _ (ap (λ q. logged_scan q c.args.items.now.items (tagged c.args.pending c.args.tree.now)) c.in-Some.ensures.cases.0
    ∙ ahead_scan_leaf c.in-Some.side.now c.in-Some.rest.now c.args.items.now.items c.args.pending c.args.tree.now (c.in_default-top.ensures.none.0 refl))

pub log_scan-requires : goal.log_scan-requires
log_scan-requires t c = (omega (arith, c.in-Some.ensures.cases.1), room_rest _ _ _ _ _ (parts t (goal.at.log_scan-requires t c).After-keep_going) c.in_ok-next.ensures.logged c.requires)

pub returns-clause-logged : goal.returns-clause-logged
returns-clause-logged t c =
    on_ok_weaker c.log_scan.result (λ e. logged_all _ _ _ _ _ _
    (parts t (goal.at.returns-clause-logged t c).After-keep_going) c.in_ok-next.ensures.logged e)
    c.log_scan.ensures.logged

pub returns-clause-few : goal.returns-clause-few
returns-clause-few t c = few_rest _ _ _ _ _ _ (parts t (goal.at.returns-clause-few t c).After-keep_going) c.step_down.ensures.few c.log_scan.ensures.few

pub returns-then-is_none-clause-begins : goal.returns-then-is_none-clause-begins
returns-then-is_none-clause-begins t c = extends_itself c.args.log.now

pub returns-in_default-top-clause-begins : goal.returns-in_default-top-clause-begins
returns-in_default-top-clause-begins t c = extends_itself c.args.log.now

pub returns-clause-begins : goal.returns-clause-begins
returns-clause-begins t c = extends_on _ _ _ c.step_down.ensures.begins c.log_scan.ensures.begins
