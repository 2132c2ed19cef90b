use Rattle.std.proofs.Common.{◌≡◌, ℕ, List, drop, Option, None, Some, IfSome, sym, subst}
use Rattle.scan_log.specs.Scripts.{ScriptAt}
use Rattle.transcript_check.specs.declared.verdict.Verdict.{Verdict}
use Rattle.transcript_check.specs.Verdicts.{IsVerdict}
use Rattle.mapper_base.proofs.serial_run.outputs.checked_text.Goals as goal

-- the verdict on what was read is the one on what there was
found_in : (input : Option (List ℕ)) (bytes : List ℕ) (n : ℕ) (x : ScriptAt) (v : Verdict) → IfSome input (λ b. b ≡ bytes) → IsVerdict x (drop n bytes) v
    → IfSome input (λ b. IsVerdict x (drop n b) v)
found_in None bytes n x v all found = tt
found_in (Some b) bytes n x v all found = subst (λ z. IsVerdict x (drop n z) v) (sym all) found

pub returns-clause-text : goal.returns-clause-text
returns-clause-text g c =
    let input = c.in_ok-input.input in
    let line = c.in_ok-verdict_text.ensures in
    record {
      script = input.script;
      said = c.in_ok-input.ensures.says;
      printed =
          record {
            verdict = line.verdict;
            found =
                found_in (g.R.Source.left c.args.log.now) input.bytes.items c.args.length input.script line.verdict
                c.in_ok-input.ensures.bytes line.found;
            told = line.told;
          };
    }
