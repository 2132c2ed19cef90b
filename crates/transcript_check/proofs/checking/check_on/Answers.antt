use Rattle.std.proofs.Common.{◌≡◌, ℕ, ◌+◌, List, ap, subst, sym, ◌∙◌, arith}
use Rattle.std.specs.Prelude.{◌↔◌}
use Rattle.std.proofs.lemmas.Result.{IfOk-weaker}
use Rattle.scan_log.specs.Legal.{AreLegalLines}
use Rattle.transcript_check.specs.MarkedLines.{line_texts}
use Rattle.transcript_check.specs.Verdicts.{IsVerdict, joined_lines}
use Rattle.transcript_check.specs.declared.lines.MarkedLine.{MarkedLine}
use Rattle.transcript_check.specs.declared.verdict.Verdict.{Verdict}
use Rattle.transcript_check.specs.declared.verdict.Verdict.TheVariants.{Legal, Unspelled}
use Rattle.transcript_check.proofs.OneVerdict.{legal_verdict, one_verdict, unspelled_place}
use Rattle.transcript_check.proofs.checking.check_on.Goals as goal

pub number_of-requires : goal.number_of-requires
number_of-requires g c =
    let u = rw (c.commands.ensures.all, c.in-Err-Unspelled.field-0-is) at c.in-Err-Unspelled.ensures.stopped in
    let far = unspelled_place c.args.script.now.commands c.args.transcript.now (c.in-Err-Unspelled.before + 1) u in
    omega (arith, far, c.in-Err-Unspelled.before-is, c.commands.ensures.limits.few)

pub returns-in-Ok-clause-only : goal.returns-in-Ok-clause-only
returns-in-Ok-clause-only g c =
    let s = c.args.script.now in
    let out = c.args.transcript.now in
    let cut : joined_lines (line_texts c.as_slice.result.now) ≡ out = ap (λ (ls : List MarkedLine). joined_lines (line_texts ls)) c.as_slice.ensures.value ∙ sym c.in-Ok.ensures.all in
    IfOk-weaker c.verdict_on.result _ (λ v. (w : Verdict) → IsVerdict s out w → w ≡ v)
    (λ v is w h. one_verdict s out v w c.commands.ensures.limits (subst (λ (o : List ℕ). IsVerdict s o v) cut is) h) c.verdict_on.ensures

pub returns-in-Ok-clause-legal : goal.returns-in-Ok-clause-legal
returns-in-Ok-clause-legal g c =
    let s = c.args.script.now in
    let out = c.args.transcript.now in
    let cut : joined_lines (line_texts c.as_slice.result.now) ≡ out = ap (λ (ls : List MarkedLine). joined_lines (line_texts ls)) c.as_slice.ensures.value ∙ sym c.in-Ok.ensures.all in
    IfOk-weaker c.verdict_on.result _ (λ v. (v ≡ Legal) ↔ AreLegalLines s out)
    (λ v is. legal_verdict s out v c.commands.ensures.limits (subst (λ (o : List ℕ). IsVerdict s o v) cut is)) c.verdict_on.ensures

pub returns-in-Err-Unspelled-clause-only : goal.returns-in-Err-Unspelled-clause-only
returns-in-Err-Unspelled-clause-only g c =
    let u = rw (c.commands.ensures.all, c.in-Err-Unspelled.field-0-is) at c.in-Err-Unspelled.ensures.stopped in
    let number : c.number_of.result ≡ c.in-Err-Unspelled.before + 1 = c.number_of.ensures ∙ ap (λ n. n + 1) c.in-Err-Unspelled.before-is in
    λ w h. one_verdict c.args.script.now c.args.transcript.now (Unspelled (c.in-Err-Unspelled.before + 1)) w c.commands.ensures.limits u h ∙ ap (λ (n : ℕ). Unspelled n) (sym number)

pub returns-in-Err-Unspelled-clause-legal : goal.returns-in-Err-Unspelled-clause-legal
returns-in-Err-Unspelled-clause-legal g c =
    let s = c.args.script.now in
    let out = c.args.transcript.now in
    let u = rw (c.commands.ensures.all, c.in-Err-Unspelled.field-0-is) at c.in-Err-Unspelled.ensures.stopped in
    let number : c.number_of.result ≡ c.in-Err-Unspelled.before + 1 = c.number_of.ensures ∙ ap (λ n. n + 1) c.in-Err-Unspelled.before-is in
    let is : IsVerdict s out (Unspelled c.number_of.result) = subst (λ (n : ℕ). IsVerdict s out (Unspelled n)) (sym number) u in
    legal_verdict s out (Unspelled c.number_of.result) c.commands.ensures.limits is
