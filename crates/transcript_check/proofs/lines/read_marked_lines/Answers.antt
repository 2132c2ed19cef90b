use Rattle.std.proofs.Common.{◌≡◌, ◌<◌, ℕ, List, ◌++◌, length, sym, ap, ◌∙◌, arith}
use Rattle.std.proofs.lemmas.Bool.Decides.{nat_tests}
use Rattle.transcript_check.proofs.ReadLines.{unspelled_at, unspelled_past, all_read, read_more}
use Rattle.transcript_check.proofs.lines.read_marked_lines.Goals as goal

pub returns-in_default-clause-stopped : goal.returns-in_default-clause-stopped
returns-in_default-clause-stopped c =
    unspelled_at c.args.commands.now c.args.transcript.now c.loop-place.place c.loop-place.marked_lines.items c.loop-place.rest.now c.loop-place.invariant (omega arith)
    (rw c.command_at.ensures at c.in_default.ensures.none)

pub loop-place-preserved : goal.loop-place-preserved
loop-place-preserved c =
    read_more c.args.commands.now c.args.transcript.now c.loop-place.place c.loop-place.marked_lines.items c.push.new.self.items c.in-Some.next c.loop-place.rest.now c.behind-rest.result.now
    c.loop-place.invariant (omega arith) c.in_ok-push.ensures.items
    (c.in-Some.ensures.front ∙ ap (λ (ys : List ℕ). c.in-Some.next.line.now ++ ys) (sym c.behind-rest.ensures))
    (rw c.command_at.ensures at c.in-Some.ensures.marked)

pub returns-then-is_empty-clause-all : goal.returns-then-is_empty-clause-all
returns-then-is_empty-clause-all c =
    (all_read c.args.commands.now c.args.transcript.now c.loop-place.place c.loop-place.marked_lines.items c.loop-place.rest.now c.loop-place.invariant (omega arith)
    (grind (arith, nat_tests, c.is_empty.ensures, c.if-is_empty.true))).0

pub returns-then-is_empty-clause-marks : goal.returns-then-is_empty-clause-marks
returns-then-is_empty-clause-marks c =
    (all_read c.args.commands.now c.args.transcript.now c.loop-place.place c.loop-place.marked_lines.items c.loop-place.rest.now c.loop-place.invariant (omega arith)
    (grind (arith, nat_tests, c.is_empty.ensures, c.if-is_empty.true))).1

pub returns-clause-stopped : goal.returns-clause-stopped
returns-clause-stopped c =
    let long : c.len.result ≡ c.loop-place.place = omega (arith, c.len.ensures, c.loop-place.invariant.long, c.loop-place.marked_lines.ok.0) in
    let some : 0 < length c.loop-place.rest.now = grind (arith, nat_tests, c.is_empty.ensures, c.if-is_empty.false) in
    rw long (unspelled_past c.args.commands.now c.args.transcript.now c.loop-place.place c.loop-place.marked_lines.items c.loop-place.rest.now c.loop-place.invariant (omega arith) some)
