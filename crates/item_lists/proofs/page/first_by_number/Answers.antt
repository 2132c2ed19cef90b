use Rattle.std.proofs.Common.{◌≤◌, length, sym, ◌∙◌, arith, rules}
use Rattle.std.proofs.lemmas.List.{take_all}
use Rattle.std.proofs.lemmas.List.Sorted.{IsNonDecreasingBy-from_sort_by_key, length_permutation}
use Rattle.map_items.specs.declared.item.Item.{Item}
use Rattle.kd_tree.specs.Contents.{by_number}
use Rattle.kd_tree.proofs.Numbered.{by_number_moves, by_number_sorted}
use Rattle.item_lists.proofs.page.first_by_number.Goals as goal

pub returns : goal.returns
returns c =
    let items = c.args.items.items in
    let rising = IsNonDecreasingBy-from_sort_by_key (λ (i : Item). i.number) _ c.sort_unstable_by_key.ensures.sorted (λ a r f k. search rules) in
    let few : length (by_number items) ≤ c.args.most = omega (arith, c.if-most-len.false, c.len.ensures, length_permutation items (by_number items) (by_number_moves items)) in
    c.from.ensures ∙ sym (by_number_sorted items _ c.sort_unstable_by_key.ensures.permutation c.requires.distinct rising) ∙ sym (take_all c.args.most (by_number items) few)
