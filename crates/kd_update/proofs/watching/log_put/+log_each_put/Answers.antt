use Rattle.std.proofs.Common.{◌≡◌, List, refl, sym, subst, arith}
use Rattle.std.proofs.lemmas.List.{nil_from_length}
use Rattle.node_labels.specs.Labels.{keep_tag}
use Rattle.kd_tree.specs.Walk.{tagged}
use Rattle.kd_mark.specs.declared.watch.Watch.{Watch}
use Rattle.kd_mark.specs.Watches.{HaveRoom}
use Rattle.kd_update.specs.Watches.{with_puts}
use Rattle.kd_update.proofs.Logged.{logged_put_few}
use Rattle.kd_mark.proofs.ManyLogs.{extended_itself, extended_front, more_front, more_itself}
use Rattle.kd_update.proofs.watching.log_put.+log_each_put.Goals as goal

pub log_put-requires : goal.log_put-requires
log_put-requires t c =
    let room = subst HaveRoom c.in-Some.ensures.cases.0 c.requires in
    omega (arith, room.0, logged_put_few c.args.number c.args.point c.as_slice.result.now (tagged keep_tag c.args.tree.now))

pub returns-in_err-log_put-clause-begins : goal.returns-in_err-log_put-clause-begins
returns-in_err-log_put-clause-begins t c = extended_front _ c.in-Some.rest.now _ _ _ c.in-Some.ensures.cases.0 c.log_put.ensures.begins (extended_itself c.in-Some.rest.now)

pub returns-in_err-log_put-clause-few : goal.returns-in_err-log_put-clause-few
returns-in_err-log_put-clause-few t c =
    more_front 2 _ c.in-Some.rest.now _ _ c.log_put.new.log c.in-Some.ensures.cases.0
    (omega (arith, c.log_put.ensures.few, logged_put_few c.args.number c.args.point c.as_slice.result.now (tagged keep_tag c.args.tree.now))) (more_itself 2 c.in-Some.rest.now)

pub returns-clause-few : goal.returns-clause-few
returns-clause-few t c =
    more_front 2 _ c.in-Some.rest.now _ _ c.log_put.new.log c.in-Some.ensures.cases.0
    (omega (arith, c.log_put.ensures.few, logged_put_few c.args.number c.args.point c.as_slice.result.now (tagged keep_tag c.args.tree.now))) c.log_each_put.ensures.few

pub log_each_put-requires : goal.log_each_put-requires
log_each_put-requires t c = (omega (arith, c.in-Some.ensures.cases.1), (subst HaveRoom c.in-Some.ensures.cases.0 c.requires).1)

pub returns-clause-begins : goal.returns-clause-begins
returns-clause-begins t c = extended_front _ c.in-Some.rest.now _ _ _ c.in-Some.ensures.cases.0 c.log_put.ensures.begins c.log_each_put.ensures.begins

pub returns-in_default-clause-logged : goal.returns-in_default-clause-logged
returns-in_default-clause-logged t c =
    subst (λ (ws : List Watch). ws ≡ with_puts c.args.number c.args.point c.args.tree.now ws)
    (sym (nil_from_length c.args.watches.now c.in_default.ensures.cases)) refl

pub returns-in_default-clause-begins : goal.returns-in_default-clause-begins
returns-in_default-clause-begins t c = extended_itself c.args.watches.now

pub returns-in_default-clause-few : goal.returns-in_default-clause-few
returns-in_default-clause-few t c = more_itself 2 c.args.watches.now
