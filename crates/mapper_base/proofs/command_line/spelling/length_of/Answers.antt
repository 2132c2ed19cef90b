use Rattle.std.proofs.Common.{◌≡◌, ℕ, ◌≤◌, List, decimal, Result, Ok, Err, IfSome, IfNone, sym, ap, ◌∙◌, arith}
use Rattle.std.specs.Prelude.{◌≢◌}
use Rattle.std.specs.Result.{result_ok}
use Rattle.scan_log.specs.declared.fault.LogCause.{LogCause}
use Rattle.scan_log.specs.Numbers.{natural_in}
use Rattle.scan_log.proofs.NumbersAgain.{natural_in-decimal}
use Rattle.scan_log.proofs.Spelled.{natural_takes}
use Rattle.mapper_base.proofs.command_line.spelling.length_of.Goals as goal

length_some : (text : List ℕ) (r : Result ℕ LogCause) → r ≡ natural_in 0 268435456 text → IfSome (result_ok r) (λ n. (n ≤ 268435456) × (decimal n ≡ text))
length_some text (Ok n) read = let t = natural_takes 0 268435456 text n (omega arith) (omega arith) (sym read) in (t.to, sym t.text)
length_some text (Err e) read = tt

length_none : (text : List ℕ) (r : Result ℕ LogCause) → r ≡ natural_in 0 268435456 text → IfNone (result_ok r) ((n : ℕ) → n ≤ 268435456 → decimal n ≢ text)
length_none text (Ok n) read = tt
length_none text (Err e) read = λ n few is.
    let good : natural_in 0 268435456 text ≡ Ok n = ap (natural_in 0 268435456) (sym is) ∙ natural_in-decimal 0 268435456 n (omega arith) (omega arith) few in
    let clash : ◌≡◌ {A = Result ℕ LogCause} (Err e) (Ok n) = read ∙ good in
    cc

pub returns-clause-some : goal.returns-clause-some
returns-clause-some c = rw c.ok.ensures.value (length_some c.args.text.now c.natural_in.result (c.natural_in.ensures.value ∙ ap (natural_in 0 268435456) c.as_bytes.ensures.value))

pub returns-clause-none : goal.returns-clause-none
returns-clause-none c = rw c.ok.ensures.value (length_none c.args.text.now c.natural_in.result (c.natural_in.ensures.value ∙ ap (natural_in 0 268435456) c.as_bytes.ensures.value))
