use Rattle.std.proofs.Common.{◌≡◌, ℕ, List, refl, sym, subst}
use Rattle.scan_log.specs.Written.{script_text}
use Rattle.mapper_base.specs.declared.command_line.words.Ask.{Ask}
use Rattle.mapper_base.specs.declared.command_line.words.Ask.TheVariants.{Make, Drive}
use Rattle.mapper_base.specs.Causes.{IsTextOf}
use Rattle.mapper_base.specs.Generated.{generated}
use Rattle.mapper_base.specs.Seen.{LogSeen}
use Rattle.mapper_base.specs.Summary.{summary_of}
use Rattle.mapper_core.proofs.running.text_of.Goals as goal

script_made : (a : Ask) (n : ℕ) (log : LogSeen) (lines : List ℕ) → a ≡ Make n → lines ≡ script_text (generated n) → IsTextOf a log lines
script_made a n log lines is told = subst (λ b. IsTextOf b log lines) (sym is) (record { script = generated n; said = refl; printed = told })

sums_told : (a : Ask) (n : ℕ) (log : LogSeen) (lines : List ℕ) → a ≡ Drive n → lines ≡ summary_of n (generated n) → IsTextOf a log lines
sums_told a n log lines is told = subst (λ b. IsTextOf b log lines) (sym is) (record { script = generated n; said = refl; printed = told })

pub returns-in_ok-made_text-in-Make-clause-text : goal.returns-in_ok-made_text-in-Make-clause-text
returns-in_ok-made_text-in-Make-clause-text g c = script_made c.args.ask c.in-Make.scans _ _ c.in-Make.is c.in_ok-made_text-in-Make.ensures

pub returns-in_ok-driven_text-in-Drive-clause-text : goal.returns-in_ok-driven_text-in-Drive-clause-text
returns-in_ok-driven_text-in-Drive-clause-text g c = sums_told c.args.ask c.in-Drive.scans _ _ c.in-Drive.is c.in_ok-driven_text-in-Drive.ensures
