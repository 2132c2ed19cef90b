use Rattle.std.proofs.Common.{true, ◌≡◌, ap, ap₂, ◌∙◌}
use Rattle.clap.specs.Words.{is_simple, subcommand_of, takes}
use Rattle.mapper_base.proofs.Taken.{simple, taken}
use Rattle.mapper_base.proofs.command_line.parse_args.parsed.Goals as goal

pub returns-in-Ok-clause-parsed : goal.returns-in-Ok-clause-parsed
returns-in-Ok-clause-parsed c = λ a ask is.
    let app = c.in_ok-command.ensures in
    c.matched_in.ensures.parsed a ask ((c.in-Ok.ensures.matches (ap is_simple app ∙ simple)).1 ∙ ap₂ subcommand_of app is)

pub returns-clause-parsed : goal.returns-clause-parsed
returns-clause-parsed c = λ a ask is.
    let app = c.in_ok-command.ensures in
    let k = c.in-Err.ensures.passes (ap₂ takes app is ∙ taken a ask) in
    let e = c.eq.ensures in
    let f = c.if-eq.false in
    let j = c.kind.ensures in
    let t : c.eq.result ≡ true = rw (j ∙ k) at e in absurd (cc (t, f))
