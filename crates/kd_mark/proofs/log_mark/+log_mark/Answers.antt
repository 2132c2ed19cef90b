use Rattle.std.proofs.Common.{◌≡◌, Bool, true, false, not, cond, [], ◌∷◌, ◌++◌, length, sym, ap, ◌∙◌, subst, arith, OnOk, refl}
use Rattle.std.proofs.lemmas.Bool.{and_left, and_right}
use Rattle.map_items.specs.declared.op.Op.TheVariants.{Mark}
use Rattle.map_items.proofs.Replays.{extends_itself, extends_on}
use Rattle.node_labels.specs.Labels.{composed}
use Rattle.kd_tree.specs.Shape.{Head}
use Rattle.kd_tree.specs.Parts.{child}
use Rattle.kd_tree.specs.Walk.{tagged}
use Rattle.kd_mark.specs.Mark.{is_entered}
use Rattle.kd_mark.specs.Reach.{reach}
use Rattle.kd_mark.specs.Watch.{handed, logged_mark}
use Rattle.kd_mark.proofs.Logged.{ahead_root, ahead_none, ahead_passed, ahead_entered, few_first, few_rest, logged_all, logged_none, room_first, room_rest}
use Rattle.std.proofs.lemmas.Result.{on_ok_weaker}
use Rattle.kd_mark.proofs.log_mark.+log_mark.Goals as goal
use Rattle.kd_mark.proofs.log_mark.+log_mark.Goals.{In-Some-reach_of, In-Some-top, In_ok-next, After-is_met}

-- what is logged of an entered node is what it hands down, and what is logged of its child
parts : (t : _) (c : In-Some-top t)
    → let F = logged_mark c.args.choice.now c.args.tag in
    let top = c.in-Some-top.top in
    let below = composed top.pending c.args.pending in
    F c.args.sides.now (tagged c.args.pending c.args.tree.now)
    ≡ handed c.in-Some.rest.now below
    ++ F c.in-Some.rest.now (tagged below (child c.in-Some.side.now top.left.now top.right.now))
parts t c =
    let top = c.in-Some-top.top in
    let h : Head = record { item = top.item; axis = top.axis; pending = top.pending } in
    ap (λ q. logged_mark c.args.choice.now c.args.tag q (tagged c.args.pending c.args.tree.now)) c.in-Some.ensures.cases.0
    ∙ ahead_entered c.args.choice.now c.args.tag c.args.pending _ c.in-Some.side.now
    c.in-Some.rest.now c.args.tree.now _ c.in-Some-reach_of.reach h top.left.now top.right.now
    (sym c.in-Some-reach_of.is ∙ c.reach_of.ensures) (sym c.meets.ensures ∙ c.if-not-meets.false)
    (sym c.covers.ensures ∙ c.if-covers.false) c.in-Some-top.ensures.some refl refl

-- so it is with the child and the action as they are gone on with
onward : (t : _) (c : In_ok-next t)
    → let F = logged_mark c.args.choice.now c.args.tag in
    let top = c.in-Some-top.top in
    let below = composed top.pending c.args.pending in
    F c.args.sides.now (tagged c.args.pending c.args.tree.now)
    ≡ handed c.in-Some.rest.now below
    ++ F c.in-Some.rest.now (tagged below (child c.in-Some.side.now top.left.now top.right.now))
    → F c.args.sides.now (tagged c.args.pending c.args.tree.now)
    ≡ handed c.in-Some.rest.now below ++ F c.in-Some.rest.now (tagged c.in_ok-next.pending c.in_ok-next.next.now)
onward t c parts = rw (c.in_ok-next.ensures.pending, c.in_ok-next.ensures.next) parts

-- what is logged of the watched root itself
root : (t : _) (c : After-is_met t) (b : Bool) → c.is_met.result ≡ b
    → logged_mark c.args.choice.now c.args.tag c.args.sides.now (tagged c.args.pending c.args.tree.now)
    ≡ cond b (Mark c.args.choice.now c.args.tag ∷ []) []
root t c b e = ahead_root c.args.choice.now c.args.tag c.args.pending c.args.sides.now c.args.tree.now b c.in_default.ensures.cases (sym c.is_met.ensures ∙ e)

pub returns-then-not-is_met-clause-logged : goal.returns-then-not-is_met-clause-logged
returns-then-not-is_met-clause-logged t c = logged_none c.args.log.now _ (root t (goal.at.returns-then-not-is_met-clause-logged t c).After-is_met false c.if-not-is_met.true)

pub note-requires : goal.note-requires
note-requires t c = omega (arith, c.requires, ap length (root t (goal.at.note-requires t c).After-is_met true c.if-not-is_met.false))

pub returns-in_default-clause-logged : goal.returns-in_default-clause-logged
returns-in_default-clause-logged t c =
    subst (λ ops. OnOk c.note.result (c.note.new.log ≡ c.args.log.now ++ ops))
    (sym (root t (goal.at.returns-in_default-clause-logged t c).After-is_met true c.if-not-is_met.false))
    c.note.ensures.logged

pub returns-in_default-reach_of-clause-logged : goal.returns-in_default-reach_of-clause-logged
returns-in_default-reach_of-clause-logged t c =
    logged_none c.args.log.now _ (ap (λ q. logged_mark c.args.choice.now c.args.tag q (tagged c.args.pending c.args.tree.now)) c.in-Some.ensures.cases.0
    ∙ ahead_none c.args.choice.now c.args.tag c.args.pending c.in-Some.side.now c.in-Some.rest.now c.args.tree.now (sym c.in_default-reach_of.is ∙ c.reach_of.ensures))

pub returns-in_default-top-clause-logged : goal.returns-in_default-top-clause-logged
returns-in_default-top-clause-logged t c =
    logged_none c.args.log.now _ (ap (λ q. logged_mark c.args.choice.now c.args.tag q (tagged c.args.pending c.args.tree.now)) c.in-Some.ensures.cases.0
    ∙ ahead_none c.args.choice.now c.args.tag c.args.pending c.in-Some.side.now c.in-Some.rest.now c.args.tree.now (sym (ap reach (c.in_default-top.ensures.none.0 refl))))

-- what is logged where the mark doesn't enter
passed : (t : _) (c : In-Some-reach_of t) → is_entered c.args.choice.now c.in-Some-reach_of.reach ≡ false
    → logged_mark c.args.choice.now c.args.tag c.args.sides.now (tagged c.args.pending c.args.tree.now) ≡ []
passed t c k =
    ap (λ q. logged_mark c.args.choice.now c.args.tag q (tagged c.args.pending c.args.tree.now)) c.in-Some.ensures.cases.0
    ∙ ahead_passed c.args.choice.now c.args.tag c.args.pending c.in-Some.side.now c.in-Some.rest.now c.args.tree.now c.in-Some-reach_of.reach (sym c.in-Some-reach_of.is ∙ c.reach_of.ensures) k

pub returns-then-not-meets-clause-logged : goal.returns-then-not-meets-clause-logged
returns-then-not-meets-clause-logged t c =
    logged_none c.args.log.now _ (passed t (goal.at.returns-then-not-meets-clause-logged t c).In-Some-reach_of
    (and_left _ _ (sym c.meets.ensures ∙ c.if-not-meets.true)))

pub returns-then-covers-clause-logged : goal.returns-then-covers-clause-logged
returns-then-covers-clause-logged t c =
    logged_none c.args.log.now _ (passed t (goal.at.returns-then-covers-clause-logged t c).In-Some-reach_of
    (and_right _ _ (ap not (sym c.covers.ensures ∙ c.if-covers.true))))

pub step_down-requires : goal.step_down-requires
step_down-requires t c = room_first _ _ _ _ (parts t (goal.at.step_down-requires t c).In-Some-top) c.requires

pub log_mark-requires : goal.log_mark-requires
log_mark-requires t c = (omega (arith, c.in-Some.ensures.cases.1), room_rest _ _ _ _ _ (let k = goal.at.log_mark-requires t c in onward t k.In_ok-next (parts t k.In-Some-top)) c.in_ok-next.ensures.logged c.requires)

pub returns-clause-logged : goal.returns-clause-logged
returns-clause-logged t c =
    on_ok_weaker c.log_mark.result (λ e. logged_all _ _ _ _ _ _
    (let k = goal.at.returns-clause-logged t c in onward t k.In_ok-next (parts t k.In-Some-top)) c.in_ok-next.ensures.logged e)
    c.log_mark.ensures.logged

pub returns-in_default-clause-few : goal.returns-in_default-clause-few
returns-in_default-clause-few t c = omega (arith, c.note.ensures.few, ap length (root t (goal.at.returns-in_default-clause-few t c).After-is_met true c.if-not-is_met.false))

pub returns-in_err-next-clause-few : goal.returns-in_err-next-clause-few
returns-in_err-next-clause-few t c = few_first _ _ _ _ _ (parts t (goal.at.returns-in_err-next-clause-few t c).In-Some-top) c.step_down.ensures.few

pub returns-clause-few : goal.returns-clause-few
returns-clause-few t c = few_rest _ _ _ _ _ _ (let k = goal.at.returns-clause-few t c in onward t k.In_ok-next (parts t k.In-Some-top)) c.step_down.ensures.few c.log_mark.ensures.few

pub returns-then-not-is_met-clause-begins : goal.returns-then-not-is_met-clause-begins
returns-then-not-is_met-clause-begins t c = extends_itself c.args.log.now

pub returns-in_default-reach_of-clause-begins : goal.returns-in_default-reach_of-clause-begins
returns-in_default-reach_of-clause-begins t c = extends_itself c.args.log.now

pub returns-then-not-meets-clause-begins : goal.returns-then-not-meets-clause-begins
returns-then-not-meets-clause-begins t c = extends_itself c.args.log.now

pub returns-then-covers-clause-begins : goal.returns-then-covers-clause-begins
returns-then-covers-clause-begins t c = extends_itself c.args.log.now

pub returns-in_default-top-clause-begins : goal.returns-in_default-top-clause-begins
returns-in_default-top-clause-begins t c = extends_itself c.args.log.now

pub returns-clause-begins : goal.returns-clause-begins
returns-clause-begins t c = extends_on _ _ _ c.step_down.ensures.begins c.log_mark.ensures.begins
