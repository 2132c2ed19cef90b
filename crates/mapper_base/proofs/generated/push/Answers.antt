use Rattle.std.proofs.Common.{◌≤◌, ◌*◌, ap, sym, subst, ◌∙◌, length, arith}
use Rattle.std.proofs.lemmas.Result.{on_ok_weaker}
use Rattle.scan_log.specs.Scripts.{ScriptAt, points_of, hits_of, with_command}
use Rattle.scan_log.proofs.Growth.{points_of-push, hits_of-push}
use Rattle.mapper_base.proofs.Scans.{length_push, script_push}
use Rattle.mapper_base.proofs.generated.push.Goals as goal

pub push-requires : goal.push-requires
push-requires c = script_push c.args.script.now c.args.command c.commands.ensures.limits (rw c.requires.format c.requires.lawful) c.requires.commands c.requires.room c.requires.hits c.requires.asks

pub returns-clause-points : goal.returns-clause-points
returns-clause-points c = on_ok_weaker c.push.result (λ pushed. ap (λ (s : ScriptAt). points_of s.commands) pushed ∙ points_of-push c.args.script.now.commands c.args.command) c.push.ensures.ok

pub returns-clause-hits : goal.returns-clause-hits
returns-clause-hits c =
    let s = c.args.script.now in
    let d = c.args.command in
    let more : hits_of (with_command s d).commands ≤ 256 * length (with_command s d).commands =
    omega (arith, hits_of-push s.commands d, length_push s.commands d, c.requires.hits, c.requires.asks) in
    on_ok_weaker c.push.result (λ pushed. subst (λ (z : ScriptAt). hits_of z.commands ≤ 256 * length z.commands) (sym pushed) more) c.push.ensures.ok
