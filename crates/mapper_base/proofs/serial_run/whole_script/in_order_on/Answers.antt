use Rattle.std.proofs.Common.{◌≡◌, ◌∷◌, ◌+◌, suc, sym, drop, drop-cons, add-one, arith, ap, ◌∙◌}
use Rattle.mapper_base.proofs.InOrder.{Ran, ran_start, ran_next}
use Rattle.mapper_base.proofs.serial_run.whole_script.in_order_on.Goals as goal

pub loop-command-init : goal.loop-command-init
loop-command-init c =
    rw c.new-replies.ensures (ran_start c.args.script.now c.args.state.now.state c.commands-command-items.ensures.limits c.requires)

pub loop-command-preserved : goal.loop-command-preserved
loop-command-preserved c =
    let s = c.args.script.now in
    let i = c.loop-command.command-index in
    let command = c.command-item.result in
    let cut : drop i s.commands ≡ command ∷ drop (i + 1) s.commands =
    rw (add-one, ← c.commands-command-items.ensures.all) (drop-cons c.commands-command-items.result.now i command (omega arith)
    ∙ ap (λ x. x ∷ drop (suc i) c.commands-command-items.result.now) (sym c.command-item.is)) in
    let ran : Ran s (command ∷ drop (i + 1) s.commands) c.loop-command.state.state c.loop-command.replies = rw cut at c.loop-command.invariant in
    rw c.in_ok-push.ensures.ok (ran_next command s _ c.loop-command.state.state c.answer.new.state.state
    c.loop-command.replies c.in_ok-reply.reply ran c.in_ok-reply.ensures.follows c.in_ok-reply.ensures.reply)
