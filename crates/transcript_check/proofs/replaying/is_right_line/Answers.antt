use Rattle.std.proofs.Common.{◌≡◌, ℕ, List, ◌++◌, ap, subst, ◌∙◌}
use Rattle.std.specs.Bool.{Decides}
use Rattle.std.specs.Option.{option_copied}
use Rattle.std.proofs.lemmas.Bool.Decides.{Decides-eqb}
use Rattle.std.proofs.lemmas.Slice.Eq.{slice_eq-Decides}
use Rattle.scan_log.specs.Transcript.{reply_text}
use Rattle.transcript_check.specs.MarkedLines.{reply_at}
use Rattle.transcript_check.proofs.replaying.is_right_line.Goals as goal

pub returns : goal.returns
returns g c =
    let command = option_copied c.args.command in
    let text : c.as_slice.result.now ≡ reply_text c.args.format command (reply_at (g.M.HeldMap.holds c.args.map.now).items command c.args.marked_line.now.mark) =
    c.as_slice.ensures.value ∙ c.in_ok-reply_line.ensures.ok
    ∙ ap (λ (xs : List ℕ). xs ++ reply_text c.args.format command c.in_ok-reply.reply) c.new-line.ensures.items
    ∙ ap (reply_text c.args.format command) c.in_ok-reply.ensures in
    subst (λ (xs : List ℕ). Decides c.eq.result (c.args.marked_line.now.line.now ≡ xs)) text
    (slice_eq-Decides Decides-eqb c.args.marked_line.now.line.now c.as_slice.result.now c.eq.result c.eq.ensures)
