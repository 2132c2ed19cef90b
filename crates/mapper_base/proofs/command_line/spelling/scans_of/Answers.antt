use Rattle.std.proofs.Common.{◌≡◌, ℕ, ◌≤◌, List, decimal, Result, Ok, Err, IfSome, IfNone, sym, ap, ◌∙◌, arith}
use Rattle.std.specs.Prelude.{◌≢◌}
use Rattle.std.specs.Result.{result_ok}
use Rattle.scan_log.specs.declared.fault.LogCause.{LogCause}
use Rattle.scan_log.specs.Numbers.{natural_in}
use Rattle.scan_log.proofs.NumbersAgain.{natural_in-decimal}
use Rattle.scan_log.proofs.Spelled.{natural_takes}
use Rattle.mapper_base.proofs.command_line.spelling.scans_of.Goals as goal

scans_some : (text : List ℕ) (r : Result ℕ LogCause) → r ≡ natural_in 1 200 text → IfSome (result_ok r) (λ n. (1 ≤ n) × (n ≤ 200) × (decimal n ≡ text))
scans_some text (Ok n) read = let t = natural_takes 1 200 text n (omega arith) (omega arith) (sym read) in (t.from, t.to, sym t.text)
scans_some text (Err e) read = tt

scans_none : (text : List ℕ) (r : Result ℕ LogCause) → r ≡ natural_in 1 200 text → IfNone (result_ok r) ((n : ℕ) → 1 ≤ n → n ≤ 200 → decimal n ≢ text)
scans_none text (Ok n) read = tt
scans_none text (Err e) read = λ n some few is.
    let good : natural_in 1 200 text ≡ Ok n = ap (natural_in 1 200) (sym is) ∙ natural_in-decimal 1 200 n (omega arith) some few in
    let clash : ◌≡◌ {A = Result ℕ LogCause} (Err e) (Ok n) = read ∙ good in
    cc

pub returns-clause-some : goal.returns-clause-some
returns-clause-some c = rw c.ok.ensures.value (scans_some c.args.text.now c.natural_in.result (c.natural_in.ensures.value ∙ ap (natural_in 1 200) c.as_bytes.ensures.value))

pub returns-clause-none : goal.returns-clause-none
returns-clause-none c = rw c.ok.ensures.value (scans_none c.args.text.now c.natural_in.result (c.natural_in.ensures.value ∙ ap (natural_in 1 200) c.as_bytes.ensures.value))
