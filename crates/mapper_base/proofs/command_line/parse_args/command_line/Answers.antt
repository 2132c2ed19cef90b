use Rattle.std.proofs.Common.{◌≡◌, codes, ap, ap₂, ◌∙◌}
use Rattle.std.proofs.lemmas.Result.{IfOk-weaker}
use Rattle.clap.specs.Words.{App, app_of, new_app, with_subcommand}
use Rattle.mapper_base.specs.CommandLine.{numbered, run}
use Rattle.mapper_base.proofs.command_line.parse_args.command_line.Goals as goal

pub returns : goal.returns
returns c =
    let one : app_of c.in_ok-command.command ≡ with_subcommand (new_app (codes "mapper")) run.top =
    c.in_ok-command.ensures.shape c.in_ok-run.ensures.local ∙ ap₂ with_subcommand c.new.ensures.app (ap (λ (a : App). a.top) c.in_ok-run.ensures.app) in
    let two : app_of c.in_ok-command-2.command ≡ with_subcommand (with_subcommand (new_app (codes "mapper")) run.top) (numbered (codes "make")).top =
    c.in_ok-command-2.ensures ∙ ap (λ a. with_subcommand a (numbered (codes "make")).top) one in
    let three : app_of c.in_ok-command-3.command
    ≡ with_subcommand (with_subcommand (with_subcommand (new_app (codes "mapper")) run.top) (numbered (codes "make")).top) (numbered (codes "drive")).top =
    c.in_ok-command-3.ensures ∙ ap (λ a. with_subcommand a (numbered (codes "drive")).top) two in
    IfOk-weaker c.with_numbered-3.result _ _ (λ r h. h ∙ ap (λ a. with_subcommand a (numbered (codes "check")).top) three) c.with_numbered-3.ensures
