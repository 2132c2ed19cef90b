use Rattle.std.proofs.Common.{sym, ap, ◌∙◌}
use Rattle.node_labels.specs.Labels.{keep_tag}
use Rattle.node_labels.specs.Tallies.{applied}
use Rattle.node_labels.specs.declared.counts.Counts.{Counts}
use Rattle.kd_tree.proofs.Actions.{tally-composed}
use Rattle.kd_tree.proofs.Held.{walk_live}
use Rattle.kd_search.proofs.pending.live_under.Goals as goal

pub returns : goal.returns
returns c =
    let pending = c.args.pending in
    let tree = c.args.tree.now in
    let live : Counts → _ = λ x. x.live in
    ap live (c.apply.ensures.value ∙ ap (applied pending) c.counts.ensures.value ∙ sym (tally-composed keep_tag pending tree)) ∙ sym (walk_live pending tree)
