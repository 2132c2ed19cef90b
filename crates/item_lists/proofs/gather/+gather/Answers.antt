use Rattle.std.proofs.Common.{sym, ap, ◌∙◌, append-nil, ◌++◌}
use Rattle.item_lists.proofs.Wanted.{lies_apart, numbered_before, numbered_beyond}
use Rattle.item_lists.proofs.gather.+gather.Goals as goal

pub returns-then-numbers-filter : goal.returns-then-numbers-filter
returns-then-numbers-filter t c =
    let none = numbered_before c.args.filter.now.from c.in-Some.numbers.greatest c.args.filter.now.bound c.args.filter.now.sought.now c.args.pending c.args.tree.now c.if-numbers-filter.true c.in-Some.ensures.range.to in
    sym (ap (λ z. c.args.items.now.items ++ z) none ∙ append-nil c.args.items.now.items)

pub returns-then-not-is_below : goal.returns-then-not-is_below
returns-then-not-is_below t c =
    let beyond = sym c.is_below.ensures ∙ c.if-not-is_below.true in
    let none = numbered_beyond c.args.filter.now.from c.in-Some.numbers.least c.args.filter.now.bound c.args.filter.now.sought.now c.args.pending c.args.tree.now beyond c.in-Some.ensures.range.from in
    sym (ap (λ z. c.args.items.now.items ++ z) none ∙ append-nil c.args.items.now.items)

pub returns-then-not-meets : goal.returns-then-not-meets
returns-then-not-meets t c =
    let none = lies_apart c.args.filter.now.from c.args.filter.now.bound c.args.filter.now.sought.now c.in-Some-extent.extent c.args.pending c.args.tree.now c.in-Some-extent.ensures.value (c.meets.ensures c.if-not-meets.true) in
    sym (ap (λ z. c.args.items.now.items ++ z) none ∙ append-nil c.args.items.now.items)
