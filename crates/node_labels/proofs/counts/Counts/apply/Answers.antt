use Rattle.std.proofs.Common.{rules}
use Rattle.node_labels.proofs.Laws.{applied_tally}
use Rattle.node_labels.proofs.counts.Counts.apply.Goals as goal

pub returns-clause-counts : goal.returns-clause-counts
returns-clause-counts c = λ labels e. search (rules, applied_tally c.args.tag c.args.self labels e)
