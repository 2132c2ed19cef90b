use Rattle.std.proofs.Common.{sym, ◌∙◌, arith}
use Rattle.scan_log.proofs.Cuts.{feeds_cut, kept_cut, skipped_cut, kept_end, skipped_end}
use Rattle.scan_log.proofs.lines.Lines.next.Goals as goal

pub overflow_add-self-in-Some : goal.overflow_add-self-in-Some
overflow_add-self-in-Some c =
    let less = feeds_cut c.loop-end.self-inside.rest.now c.in-Some.end (sym c.in-Some.ensures.value) in
    omega (arith, less, c.loop-end.invariant.few)

pub invariant_of-self : goal.invariant_of-self
invariant_of-self c =
    let less = feeds_cut c.loop-end.self-inside.rest.now c.in-Some.end (sym c.in-Some.ensures.value) in
    omega (arith, less, c.loop-end.invariant.few)

pub returns-then-is_kept : goal.returns-then-is_kept
returns-then-is_kept c =
    sym c.loop-end.invariant.left ∙ kept_cut c.loop-end.self-inside.number c.loop-end.self-inside.rest.now c.in-Some.end (sym c.in-Some.ensures.value) (sym c.if-is_kept.ensures)

pub loop-end-preserved : goal.loop-end-preserved
loop-end-preserved c =
    let less = feeds_cut c.loop-end.self-inside.rest.now c.in-Some.end (sym c.in-Some.ensures.value) in
    record {
      left = sym (skipped_cut c.loop-end.self-inside.number c.loop-end.self-inside.rest.now c.in-Some.end (sym c.in-Some.ensures.value) (sym c.if-is_kept.ensures)) ∙ c.loop-end.invariant.left;
      few = omega (arith, less, c.loop-end.invariant.few);
    }

pub returns-then-is_kept-2 : goal.returns-then-is_kept-2
returns-then-is_kept-2 c =
    sym c.loop-end.invariant.left ∙ kept_end c.loop-end.self-inside.number c.loop-end.self-inside.rest.now (sym c.index_of.ensures.value ∙ c.in_default.is) (sym c.if-is_kept-2.ensures)

pub returns : goal.returns
returns c =
    sym c.loop-end.invariant.left ∙ skipped_end c.loop-end.self-inside.number c.loop-end.self-inside.rest.now (sym c.index_of.ensures.value ∙ c.in_default.is) (sym c.if-is_kept-2.ensures)
