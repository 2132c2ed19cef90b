use Rattle.scan_log.specs.Commands.{is_by}
use Rattle.std.proofs.Common.{◌≡◌, true, false, ◌∷◌, ◌+◌, suc, sym, ap, ◌∙◌, subst, drop, drop-cons, drop_of_length-le, add-one, arith}
use Rattle.mapper_core.specs.Mine.{RanTo, Answered, Tried}
use Rattle.mapper_core.proofs.OneCaller.{ran_own, ran_other, ran_end}
use Rattle.mapper_core.proofs.callers.caller.told_own.Goals.{then-is_own+in_ok-reply+in-Some+in_ok-put, else-is_own}
use Rattle.mapper_core.proofs.callers.caller.told_own.Goals as goal

pub loop-command-preserved : goal.loop-command-preserved
loop-command-preserved g c =
    let voxel = g.L.MapName.voxel in
    let cs = c.args.commands.now in
    let i = c.loop-command.command-index in
    let command = c.command-item.result in
    let q = c.loop-command.pass in
    let cut : drop i cs ≡ command ∷ drop (i + 1) cs = rw add-one (drop-cons cs i command (omega arith) ∙ ap (λ x. x ∷ drop (suc i) cs) (sym c.command-item.is)) in
    let ran : RanTo voxel cs (command ∷ drop (i + 1) cs) c.args.pass.now q c.loop-command.replies =
    subst (λ z. RanTo voxel cs z c.args.pass.now q c.loop-command.replies) cut c.loop-command.invariant.ran in
    record {
      index = omega (arith, c.loop-command.invariant.index);
      ran = elim c.if-is_own.branch [
        | then-is_own+in_ok-reply+in-Some+in_ok-put w ↦
            let by : is_by q.caller command ≡ true = cc (c.is_own.ensures, c.caller.ensures.value, w.if-is_own.true) in
            let told : Answered voxel command q w.answer.new.pass w.in-Some.reply = subst (λ z. Tried voxel command q w.answer.new.pass z) w.in-Some.is w.in_ok-reply.ensures in
            rw (w.pass-is, w.replies-is, w.in_ok-put.ensures.ok) (ran_own voxel cs (drop (i + 1) cs) command c.args.pass.now q w.answer.new.pass c.loop-command.replies w.in-Some.reply ran by told)
        | else-is_own w ↦
            let by : is_by q.caller command ≡ false = cc (c.is_own.ensures, c.caller.ensures.value, w.if-is_own.false) in
            rw (w.pass-is, w.replies-is) (ran_other voxel cs (drop (i + 1) cs) command c.args.pass.now q c.loop-command.replies ran by)
      ];
    }

pub returns : goal.returns
returns g c =
    ran_end g.L.MapName.voxel c.args.commands.now _ c.args.pass.now c.loop-command.pass c.loop-command.replies c.loop-command.invariant.ran
    (drop_of_length-le c.args.commands.now (omega arith))
