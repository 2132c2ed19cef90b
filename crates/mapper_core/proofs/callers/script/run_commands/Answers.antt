use Rattle.std.proofs.Common.{rules, length, ◌≡◌, ◌≤◌, true, false, ◌∷◌, ◌++◌, [], ◌+◌, ◌-◌, take, suc, Some, slice_get, sym, ap, ◌∙◌, refl, subst, drop, drop-cons, add-one, arith}
use Rattle.std.proofs.lemmas.List.{take_all}
use Rattle.std.specs.List.{AllByRecursion}
use Rattle.scan_log.specs.declared.command.Command.TheVariants as command_of
use Rattle.mapper_core.specs.Meetings.{Standing, is_barrier, IsOfCallers, IsTotal, HasCaller}
use Rattle.mapper_core.proofs.Beginnings.{get_of_drop}
use Rattle.mapper_core.proofs.Meeting.{standing_start}
use Rattle.mapper_core.proofs.Slices.{barrier_is, caller_is, all_get, all_last, all_none, slice_next}
use Rattle.mapper_core.proofs.callers.script.run_commands.Goals.{then-is_barrier+in_ok-met+in_ok-passes, else-is_barrier}
use Rattle.mapper_core.proofs.callers.script.run_commands.Goals as goal

pub loop-command-init : goal.loop-command-init
loop-command-init g c = record {
  at = refl;
  from = omega arith;
  named = tt;
  all = c.requires.new.0;
  standing = subst (λ z. Standing g.L.MapName.voxel [] c.args.passes.items z) (sym c.new-replies.ensures) (standing_start g.L.MapName.voxel c.args.passes.items c.requires.new.1);
}

pub barrier-requires-clause-barrier : goal.barrier-requires-clause-barrier
barrier-requires-clause-barrier g c =
    let cs = c.args.commands.now in
    let i = c.loop-command.command-index in
    let command = c.command-item.result in
    let cut : drop i cs ≡ command ∷ drop (i + 1) cs = rw add-one (drop-cons cs i command (omega arith) ∙ ap (λ x. x ∷ drop (suc i) cs) (sym c.command-item.is)) in
    let test : is_barrier command ≡ true = cc (c.is_barrier.ensures, c.if-is_barrier.true) in
    let here : slice_get cs i ≡ Some command_of.Sync = get_of_drop cs (drop (i + 1) cs) i command cut ∙ ap (λ z. Some z) (barrier_is command test) in
    subst (λ k. slice_get cs k ≡ Some command_of.Sync) (sym c.loop-command.invariant.at) here

pub loop-command-preserved : goal.loop-command-preserved
loop-command-preserved g c =
    let n = g.L.MapName.callers in
    let cs = c.args.commands.now in
    let i = c.loop-command.command-index in
    let at = c.loop-command.at in
    let from = c.loop-command.from in
    let command = c.command-item.result in
    let inv = c.loop-command.invariant in
    let same : at ≡ i = inv.at in
    let cut : drop i cs ≡ command ∷ drop (i + 1) cs = rw add-one (drop-cons cs i command (omega arith) ∙ ap (λ x. x ∷ drop (suc i) cs) (sym c.command-item.is)) in
    let here : slice_get cs at ≡ Some command = subst (λ k. slice_get cs k ≡ Some command) (sym same) (get_of_drop cs (drop (i + 1) cs) i command cut) in
    elim c.if-is_barrier.branch [
      | then-is_barrier+in_ok-met+in_ok-passes w ↦
          rw (w.passes-is, w.replies-is, w.from-is) (record {
            at = omega (arith, same);
            from = omega arith;
            named = all_none (IsOfCallers n) ((at + 1) - (at + 1)) (drop (at + 1) cs) (omega arith);
            all = w.in_ok-passes.ensures.all;
            standing = w.in_ok-passes.ensures.standing;
          })
      | else-is_barrier w ↦
          let test : is_barrier command ≡ false = cc (c.is_barrier.ensures, w.if-is_barrier.false) in
          let own : IsOfCallers n command = caller_is n command test (all_get (HasCaller n) cs at command c.requires.named here) in
          let le : from ≤ at = inv.from in
          let more : take ((at + 1) - from) (drop from cs) ≡ take (at - from) (drop from cs) ++ command ∷ [] = slice_next from at cs command le here in
          rw (w.passes-is, w.replies-is, w.from-is) (record {
            at = omega (arith, same);
            from = omega arith;
            named = subst (AllByRecursion (IsOfCallers n)) (sym more) (all_last (IsOfCallers n) (take (at - from) (drop from cs)) command inv.named own);
            all = inv.all;
            standing = inv.standing;
          })
    ]

pub returns : goal.returns
returns g c =
    let cs = c.args.commands.now in
    let ps = c.in_ok-passes-2.passes.items in
    let same : c.as_slice.result.now ≡ ps = search rules in
    let le : length cs ≤ c.loop-command.at = (let e = c.loop-command.invariant.at in omega arith) in
    record {
      front = _;
      ending = c.held.result;
      replies = c.in_ok-push.ensures.ok;
      standing = rw (take_all c.loop-command.at cs le) at c.in_ok-passes-2.ensures.standing;
      total = subst (λ z. IsTotal g.L.MapName.voxel z c.held.result) same c.held.ensures;
      all = c.in_ok-passes-2.ensures.all;
    }
