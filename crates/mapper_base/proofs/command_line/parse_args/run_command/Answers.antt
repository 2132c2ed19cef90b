use Rattle.std.proofs.Common.{◌≡◌, false, codes, Some, ap, ap₂, ◌∙◌}
use Rattle.std.proofs.lemmas.Result.{IfOk-weaker}
use Rattle.clap.specs.Words.{Rule, new_rule, rule_of, with_rule}
use Rattle.clap.specs.declared.builder.ArgAction.TheVariants.{SetTrue}
use Rattle.mapper_base.specs.CommandLine.{serial}
use Rattle.mapper_base.proofs.command_line.parse_args.run_command.Goals as goal

pub returns-clause-app : goal.returns-clause-app
returns-clause-app c =
    let long_is : rule_of c.long.result ≡ record (new_rule (codes "serial")) { long = Some (codes "serial") } = ap rule_of c.long.ensures ∙ ap (λ (r : Rule). record r { long = Some (codes "serial") }) c.new.ensures.rule in
    let serial_is : rule_of c.action-serial.result ≡ serial = ap rule_of c.action-serial.ensures ∙ ap (λ (r : Rule). record r { action = Some SetTrue }) long_is in
    let local : c.action-serial.result.global ≡ false = ap (λ a. a.global) c.action-serial.ensures ∙ ap (λ a. a.global) c.long.ensures ∙ c.new.ensures.optional.1 in
    IfOk-weaker c.arg.result _ _ (λ r h. h.shape local ∙ ap₂ with_rule c.new-2.ensures.app serial_is) c.arg.ensures
