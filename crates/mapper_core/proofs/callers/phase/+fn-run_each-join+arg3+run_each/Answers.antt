use Rattle.std.proofs.Common.{rules, ◌≡◌, ◌++◌, ◌∷◌, [], IfOk, sym, subst}
use Rattle.mapper_core.specs.Meetings.{AllTurned}
use Rattle.mapper_core.proofs.Sent.{to_caller, from_caller}
use Rattle.mapper_core.proofs.CameBack.{turned_more}
use Rattle.mapper_core.proofs.callers.phase.+fn-run_each-join+arg3+run_each.Goals as goal

pub returns : goal.returns
returns g t c =
    let cs = c.args.commands.now in
    let all : c.args.passes.items ≡ c.pop.new.self.items ++ c.in-Some.last ∷ [] = search rules in
    let rest : AllTurned g.L.MapName.voxel cs c.pop.new.self.items c.in_ok-turns.turns.items =
    subst (λ z. IfOk z (λ v. AllTurned g.L.MapName.voxel cs c.pop.new.self.items v.items)) c.in_ok-turns.was c.join-turn.ensures.second in
    subst (λ z. AllTurned g.L.MapName.voxel cs c.args.passes.items z) (sym c.in-Ok.ensures.items)
    (turned_more g.L.MapName.voxel cs c.args.passes.items c.pop.new.self.items c.in-Some.last c.in_ok-turns.turns.items c.join-turn.result.0 all rest c.join-turn.ensures.first)

pub join-turn-requires-send-F : goal.join-turn-requires-send-F
join-turn-requires-send-F g t c κs within = search to_caller depth 60 fits 100000

pub join-turn-requires-send-A : goal.join-turn-requires-send-A
join-turn-requires-send-A g t c κs within = search from_caller depth 40 fits 20000
