use Rattle.std.proofs.lemmas.Slice.Eq.{slice_eq-Decides}
use Rattle.map_items.proofs.Same.{item_Decides}
use Rattle.rebuild_parts.proofs.same_items.are_same.Goals as goal

pub returns : goal.returns
returns c = slice_eq-Decides item_Decides c.args.items.now c.args.others.now c.eq.result c.eq.ensures
