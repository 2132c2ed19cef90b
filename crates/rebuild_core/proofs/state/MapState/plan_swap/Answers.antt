use Rattle.std.proofs.Common.{◌≡◌, ap, arith, length, refl, subst, sym}
use Rattle.std.specs.Prelude.{IfErr, IsErrAnd}
use Rattle.std.specs.declared.result.Result.{Result}
use Rattle.std.specs.declared.result.Result.TheVariants.{Ok, Err}
use Rattle.rebuild_parts.specs.declared.fault.SwapFault.{SwapFault}
use Rattle.rebuild_parts.specs.declared.fault.SwapFault.TheVariants.{NoMemory}
use Rattle.kd_update.specs.Detached.{PartAt}
use Rattle.rebuild_core.specs.Steps.{PlannedAt}
use Rattle.rebuild_core.specs.Swap.{IsSwapFault, MaySwap}
use Rattle.rebuild_parts.proofs.SameItems.{not_both}
use Rattle.rebuild_core.proofs.Swapping.{left_is}
use Rattle.rebuild_core.proofs.state.MapState.plan_swap.Goals as goal
use Rattle.rebuild_core.proofs.state.MapState.plan_swap.Goals.{else-not-force-via-then-not-force+else-left-gt-MAX_UNFORCED, else-not-force-via-else-not-force}

-- on `NoMemory`, that is the fault
out_of : (r : Result PlannedAt SwapFault) (P : SwapFault → Type 0) → IsErrAnd r (λ e. e ≡ NoMemory) → P NoMemory → IfErr r P
out_of (Ok x) P none k = tt
out_of (Err e) P none k = subst P (sym none) k

pub returns-in_err-ops-clause-refused : goal.returns-in_err-ops-clause-refused
returns-in_err-ops-clause-refused g c =
    let left =
    left_is c.args.built.now c.in-Some.part.now c.len.result (length c.done.result.now) c.part.inside.log
    c.done.result.now c.len.ensures.value (ap (λ (p : PartAt). p.log) c.part.view_is) refl c.done.ensures.value in
    let may : MaySwap c.args.built.now c.args.force c.args.self.now.state = (
      c.in-Some.part.now,
      c.in-Some.ensures.some.of,
      λ unforced. elim c.else-not-force.branch [
        | else-not-force-via-then-not-force+else-left-gt-MAX_UNFORCED w ↦ omega (arith, left, w.if-left-gt-MAX_UNFORCED.false)
        | else-not-force-via-else-not-force w ↦ absurd (not_both c.args.force w.if-not-force.false unforced)
      ],
    ) in
    out_of c.from_residual.result (IsSwapFault c.args.built.now c.args.force c.args.self.now.state) c.from_residual.ensures.1 may

pub returns-in_err-copy-clause-refused : goal.returns-in_err-copy-clause-refused
returns-in_err-copy-clause-refused g c =
    let left =
    left_is c.args.built.now c.in-Some.part.now c.len.result (length c.done.result.now) c.part.inside.log
    c.done.result.now c.len.ensures.value (ap (λ (p : PartAt). p.log) c.part.view_is) refl c.done.ensures.value in
    let may : MaySwap c.args.built.now c.args.force c.args.self.now.state = (
      c.in-Some.part.now,
      c.in-Some.ensures.some.of,
      λ unforced. elim c.else-not-force.branch [
        | else-not-force-via-then-not-force+else-left-gt-MAX_UNFORCED w ↦ omega (arith, left, w.if-left-gt-MAX_UNFORCED.false)
        | else-not-force-via-else-not-force w ↦ absurd (not_both c.args.force w.if-not-force.false unforced)
      ],
    ) in
    out_of c.from_residual-in_err-copy.result (IsSwapFault c.args.built.now c.args.force c.args.self.now.state) c.from_residual-in_err-copy.ensures.1 may

pub returns-in_err-planned-clause-refused : goal.returns-in_err-planned-clause-refused
returns-in_err-planned-clause-refused g c =
    let left =
    left_is c.args.built.now c.in-Some.part.now c.len.result (length c.done.result.now) c.part.inside.log
    c.done.result.now c.len.ensures.value (ap (λ (p : PartAt). p.log) c.part.view_is) refl c.done.ensures.value in
    let may : MaySwap c.args.built.now c.args.force c.args.self.now.state = (
      c.in-Some.part.now,
      c.in-Some.ensures.some.of,
      λ unforced. elim c.else-not-force.branch [
        | else-not-force-via-then-not-force+else-left-gt-MAX_UNFORCED w ↦ omega (arith, left, w.if-left-gt-MAX_UNFORCED.false)
        | else-not-force-via-else-not-force w ↦ absurd (not_both c.args.force w.if-not-force.false unforced)
      ],
    ) in
    out_of c.from_residual-in_err-planned.result (IsSwapFault c.args.built.now c.args.force c.args.self.now.state) c.from_residual-in_err-planned.ensures.1 may

pub returns-clause-may : goal.returns-clause-may
returns-clause-may g c =
    let left =
    left_is c.args.built.now c.in-Some.part.now c.len.result (length c.done.result.now) c.part.inside.log
    c.done.result.now c.len.ensures.value (ap (λ (p : PartAt). p.log) c.part.view_is) refl c.done.ensures.value in (
      c.in-Some.part.now,
      c.in-Some.ensures.some.of,
      λ unforced. elim c.else-not-force.branch [
        | else-not-force-via-then-not-force+else-left-gt-MAX_UNFORCED w ↦ omega (arith, left, w.if-left-gt-MAX_UNFORCED.false)
        | else-not-force-via-else-not-force w ↦ absurd (not_both c.args.force w.if-not-force.false unforced)
      ],
    )
