use Rattle.std.proofs.Common.{rules}
use Rattle.std.proofs.lemmas.Fn.{always_returns_same}
use Rattle.map_items.specs.declared.item.Item.{Item}
use Rattle.item_lists.proofs.Front.{parted}
use Rattle.item_lists.proofs.page.front.Goals as goal

pub returns : goal.returns
returns c =
    let s = c.select_nth_unstable_by_key-front.ensures in
    let around = s.partitioned (λ (i : Item). i.number) (always_returns_same _ _ _ (λ a r g h. search rules)) in
    parted c.args.most c.args.items.now _ _ _ s.permutation c.requires.distinct s.front_len around.0 around.1
