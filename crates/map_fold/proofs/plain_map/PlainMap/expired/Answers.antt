use Rattle.std.proofs.Common.{sym, subst, List}
use Rattle.map_items.specs.declared.item.Item.{Item}
use Rattle.map_items.specs.Contents.{AreContents, chosen_by}
use Rattle.map_items.proofs.Numbered.{contents_mark}
use Rattle.map_fold.proofs.plain_map.PlainMap.expired.Goals as goal

pub invariant_of-result : goal.invariant_of-result
invariant_of-result c =
    let m = c.self.inside.items.items in
    let n = c.self.inside.next in
    subst (λ (xs : List Item). AreContents 0 n xs) (sym c.mark_items.ensures) (contents_mark 0 n m (chosen_by c.below.result) _ c.self.invariant)
