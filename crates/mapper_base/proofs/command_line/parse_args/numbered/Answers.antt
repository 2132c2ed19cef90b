use Rattle.std.proofs.Common.{◌≡◌, false, Some, ap, ap₂, ◌∙◌}
use Rattle.std.proofs.lemmas.Result.{IfOk-weaker}
use Rattle.clap.specs.Words.{Rule, rule_of, with_rule}
use Rattle.clap.specs.declared.builder.ArgAction.TheVariants.{Set}
use Rattle.mapper_base.specs.CommandLine.{number}
use Rattle.mapper_base.proofs.command_line.parse_args.numbered.Goals as goal

pub returns-clause-app : goal.returns-clause-app
returns-clause-app c =
    let number_is : rule_of c.action-number.result ≡ number = ap rule_of c.action-number.ensures ∙ ap (λ (r : Rule). record r { action = Some Set }) c.new.ensures.rule in
    let local : c.action-number.result.global ≡ false = ap (λ a. a.global) c.action-number.ensures ∙ c.new.ensures.optional.1 in
    IfOk-weaker c.arg.result _ _ (λ r h. h.shape local ∙ ap₂ with_rule c.new-2.ensures.app number_is) c.arg.ensures
