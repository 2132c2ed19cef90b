use Rattle.std.proofs.Common.{take, ap, ◌∙◌}
use Rattle.history_log.proofs.Pieces.{take_least}
use Rattle.history_log.proofs.parts.piece.Goals as goal

pub returns : goal.returns
returns g c =
    let rest = c.split_at.result.1.now in
    c.from.ensures ∙ c.in_ok-found.ensures.items ∙ c.split_at-2.ensures.front ∙ ap (λ n. take n rest) c.min.ensures ∙ take_least 262144 rest ∙ ap (take 262144) c.split_at.ensures.back
