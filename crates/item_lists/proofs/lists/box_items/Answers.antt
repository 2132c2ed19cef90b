use Rattle.std.proofs.Common.{ap, take, ◌∙◌}
use Rattle.kd_tree.specs.Contents.{contents}
use Rattle.item_lists.proofs.Wanted.{wanted-box}
use Rattle.item_lists.proofs.lists.box_items.Goals as goal

pub returns : goal.returns
returns c = c.in_ok-items.ensures ∙ ap (take c.args.most) (wanted-box c.args.from c.args.cuboid.now (contents c.args.tree.now))
