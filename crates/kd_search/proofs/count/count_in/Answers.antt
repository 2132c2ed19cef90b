use Rattle.std.proofs.Common.{sym, ap, ◌∙◌}
use Rattle.node_labels.specs.Labels.{keep_tag}
use Rattle.map_fold.specs.Answers.{count}
use Rattle.kd_tree.specs.Walk.{walk}
use Rattle.kd_search.proofs.Boxed.{count-by_number}
use Rattle.kd_search.proofs.count.count_in.Goals as goal

pub returns : goal.returns
returns c = c.count_under.ensures.value ∙ ap (λ m. count m c.args.c.now) c.whole.ensures ∙ sym (count-by_number c.args.c.now (walk keep_tag c.args.tree.now))
