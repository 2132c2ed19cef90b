-- Items from a number on.
use Rattle.std.specs.Prelude.{ℕ, List, filter, nat_le}
use Rattle.map_items.specs.declared.item.Item.{Item}

-- the items whose number is this one or a greater
abbrev pub numbered_from : ℕ → List Item → List Item
numbered_from n m = filter (λ i. nat_le n i.number) m
