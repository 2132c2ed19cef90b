use Rattle.std.proofs.Common.{◌≡◌, ℕ, ◌+◌, length, subst, sym, refl, arith}
use Rattle.scan_log.specs.Poses.{plain_script}
use Rattle.transcript_check.specs.MarkedLines.{line_texts}
use Rattle.transcript_check.specs.Verdicts.{IsVerdict, joined_lines}
use Rattle.transcript_check.specs.declared.verdict.Verdict.TheVariants.{Differs}
use Rattle.transcript_check.proofs.OneVerdict.{other_few, other_verdict, marked_plain, whole_verdict}
use Rattle.transcript_check.proofs.checking.verdict_on.Goals as goal

pub updates_by_mark-requires : goal.updates_by_mark-requires
updates_by_mark-requires g c =
    let is : c.in_ok-plain.plain ≡ plain_script c.args.script.now = c.in_ok-plain.ensures in
    rw (c.commands-commands.ensures.all, is) (marked_plain c.args.script.now c.args.marked_lines.now c.requires)

pub are_legal-requires-clause-many : goal.are_legal-requires-clause-many
are_legal-requires-clause-many g c =
    let is : c.in_ok-plain.plain ≡ plain_script c.args.script.now = c.in_ok-plain.ensures in
    rw (c.commands-commands.ensures.all, is) (marked_plain c.args.script.now c.args.marked_lines.now c.requires)

pub number_of-requires : goal.number_of-requires
number_of-requires g c =
    let is : c.in_ok-plain.plain ≡ plain_script c.args.script.now = c.in_ok-plain.ensures in
    let many : length c.args.marked_lines.now ≡ length c.in_ok-plain.plain.commands + 1 = rw is (marked_plain c.args.script.now c.args.marked_lines.now c.requires) in
    let other = rw c.in-Some.is at c.in_ok-place.ensures in
    omega (arith, other_few c.in_ok-plain.plain c.args.marked_lines.now (c.in-Some.place + 1) c.commands-commands.ensures.limits many other)

pub returns-in-Some : goal.returns-in-Some
returns-in-Some g c =
    let s = c.args.script.now in
    let marked_lines = c.args.marked_lines.now in
    let is : c.in_ok-plain.plain ≡ plain_script s = c.in_ok-plain.ensures in
    let test = rw (c.commands-commands.ensures.all, is) at c.if-not-are_legal.ensures in
    let other = rw (c.in-Some.is, is) at c.in_ok-place.ensures in
    subst (λ (n : ℕ). IsVerdict s (joined_lines (line_texts marked_lines)) (Differs n)) (sym c.number_of.ensures) (other_verdict s marked_lines (c.in-Some.place + 1) c.requires (test.0 refl) other)

pub returns : goal.returns
returns g c =
    let s = c.args.script.now in
    let marked_lines = c.args.marked_lines.now in
    let is : c.in_ok-plain.plain ≡ plain_script s = c.in_ok-plain.ensures in
    let test = rw (c.commands-commands.ensures.all, is) at c.if-not-are_legal.ensures in
    let same = rw (c.in-None.is, is) at c.in_ok-place.ensures in
    whole_verdict s marked_lines c.requires (test.0 refl) same
