use Rattle.std.proofs.Common.{ap, take, ◌*◌, ◌∙◌}
use Rattle.kd_tree.specs.Contents.{contents}
use Rattle.item_lists.proofs.Wanted.{wanted-near}
use Rattle.item_lists.proofs.lists.ball_items.Goals as goal

pub returns : goal.returns
returns c = c.in_ok-items.ensures ∙ ap (take c.args.most) (wanted-near c.args.from c.args.place.now (c.args.r * c.args.r) (contents c.args.tree.now))
