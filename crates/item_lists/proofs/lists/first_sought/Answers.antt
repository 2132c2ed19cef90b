use Rattle.std.proofs.Common.{sym, ◌∙◌}
use Rattle.item_lists.proofs.Wanted.{enough}
use Rattle.item_lists.proofs.lists.first_sought.Goals as goal

pub returns-then-len-most : goal.returns-then-len-most
returns-then-len-most c =
    enough c.args.from c.in-Some.bound c.args.sought.now c.args.most c.args.tree.now c.in_ok-page.page c.size-size.ensures.sound c.in_ok-page.ensures (sym c.len.ensures ∙ c.if-len-most.true)
