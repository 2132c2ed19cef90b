use Rattle.std.proofs.Common.{List, option_map, sym, ap, ◌∙◌}
use Rattle.clap.specs.Words.{Text, Row, found_of}
use Rattle.mapper_base.proofs.Taken.{parsed, met, name_rows}
use Rattle.mapper_base.proofs.command_line.parse_args.matched_in.Goals as goal

pub returns-in-Some-clause-parsed : goal.returns-in-Some-clause-parsed
returns-in-Some-clause-parsed c = λ a ask rows.
    c.matched.ensures.parsed a ask (parsed a c.in-Some.name.now (found_of c.in-Some.inner.now) ask
    (sym (c.in-Some.ensures.name ∙ name_rows _ _ _ ∙ ap (option_map (λ (p : Text × List Row). p.0)) rows))
    (sym (c.in-Some.ensures.rows ∙ ap (option_map (λ (p : Text × List Row). p.1)) rows)))

pub returns-in-None-clause-parsed : goal.returns-in-None-clause-parsed
returns-in-None-clause-parsed c = λ a ask rows. met a ask (sym (c.in-None.ensures.rows ∙ ap (option_map (λ (p : Text × List Row). p.1)) rows))
