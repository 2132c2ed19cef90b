use Rattle.std.proofs.Common.{sym, ◌∙◌, rules}
use Rattle.std.proofs.lemmas.List.Sorted.{IsNonDecreasingBy-from_sort_by_key}
use Rattle.map_items.specs.declared.item.Item.{Item}
use Rattle.kd_tree.proofs.Numbered.{by_number_sorted}
use Rattle.item_lists.proofs.page.page.Goals as goal

pub returns : goal.returns
returns c =
    let front = c.front-front.ensures in
    let rising = IsNonDecreasingBy-from_sort_by_key (λ (i : Item). i.number) _ c.sort_unstable_by_key.ensures.sorted (λ a r f k. search rules) in
    c.from.ensures ∙ c.in_ok-from_slice.ensures.items ∙ sym (by_number_sorted _ _ c.sort_unstable_by_key.ensures.permutation front.distinct rising) ∙ front.first
