use Rattle.std.proofs.Common.{◌≡◌, ℕ, ◌≤◌, ◌∷◌, ◌+◌, Some, slice_get, suc, sym, ap, ◌∙◌, subst, drop, drop-cons, add-one, arith}
use Rattle.std.specs.List.{AllByRecursion}
use Rattle.mapper_core.specs.Meetings.{HasCaller}
use Rattle.mapper_core.proofs.Beginnings.{get_of_drop}
use Rattle.mapper_core.proofs.Slices.{all_get, has_caller_more}
use Rattle.mapper_core.proofs.callers.naming.callers_in.Goals.{then-own-most, else-own-most}
use Rattle.mapper_core.proofs.callers.naming.callers_in.Goals as goal

pub loop-command-preserved : goal.loop-command-preserved
loop-command-preserved c =
    let cs = c.args.commands.now in
    let i = c.loop-command.command-index in
    let command = c.command-item.result in
    let cut : drop i cs ≡ command ∷ drop (i + 1) cs = rw add-one (drop-cons cs i command (omega arith) ∙ ap (λ x. x ∷ drop (suc i) cs) (sym c.command-item.is)) in
    let at = c.loop-command.invariant in
    let most = c.loop-command.most in
    let own = c.named-own.result in
    let named : (n : ℕ) → most ≤ n → own ≤ n → AllByRecursion (HasCaller n) (drop (i + 1) cs) → AllByRecursion (HasCaller n) cs =
    λ n le also rest. at.named n le (subst (AllByRecursion (HasCaller n)) (sym cut) (has_caller_more own n command also c.named-own.ensures.own, rest)) in
    let here : slice_get cs i ≡ Some command = get_of_drop cs (drop (i + 1) cs) i command cut in
    let no_more : (n : ℕ) → 1 ≤ n → AllByRecursion (HasCaller n) cs → own ≤ n = λ n some all. c.named-own.ensures.no_more n some (all_get (HasCaller n) cs i command all here) in
    let few = c.named-own.ensures.to in
    let low = at.from in
    let high = at.to in
    elim c.if-own-most.branch [
      | then-own-most w ↦ rw w.most-is (record { from = omega arith; to = omega arith; named = λ n le rest. named n (omega arith) (omega arith) rest; no_more = no_more })
      | else-own-most w ↦ rw w.most-is (record { from = omega arith; to = omega arith; named = λ n le rest. named n (omega arith) (omega arith) rest; no_more = at.no_more })
    ]
