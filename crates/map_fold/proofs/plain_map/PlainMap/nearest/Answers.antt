use Rattle.std.proofs.Common.{subst, sym}
use Rattle.std.proofs.lemmas.Result.{IfOk-weaker}
use Rattle.map_fold.specs.Nearest.{AreNearest}
use Rattle.map_fold.proofs.Found.{nearest_are}
use Rattle.map_items.proofs.Numbered.{contents_rise}
use Rattle.map_fold.proofs.plain_map.PlainMap.nearest.Goals as goal

pub returns-clause-nearest : goal.returns-clause-nearest
returns-clause-nearest c =
    let m = c.self.inside.items.items in
    let law = nearest_are 0 m c.args.k c.args.q.now c.args.within (contents_rise 0 c.self.inside.next m c.self.invariant) in
    rw (← c.self.view_is) (IfOk-weaker _ _ _ (λ hits e. subst (AreNearest m c.args.k c.args.q.now c.args.within) (sym e) law) (rw c.as_slice.ensures.value at c.nearest_of.ensures.found))
