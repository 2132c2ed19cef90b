-- Items that a search by number has met so far. Cited by private functions alone.
use Rattle.std.specs.Prelude.{◌≡◌, ℕ, ◌≤◌, List, [], ◌∷◌, length}
use Rattle.std.specs.List.{AllByRecursion}
use Rattle.map_items.specs.declared.item.Item.{Item}

-- each number is at least n
abbrev pub AreFrom : ℕ → List Item → Type 0
AreFrom n m = AllByRecursion (λ i. n ≤ i.number) m

-- no number is above n
abbrev pub AreTo : ℕ → List Item → Type 0
AreTo n m = AllByRecursion (λ i. i.number ≤ n) m

-- no number is below one that comes before it
abbrev pub Ascend : List Item → Type 0
Ascend [] = Unit {0}
Ascend (i ∷ m) = AreFrom i.number m × Ascend m

-- at most k items, in the order of their numbers
pub record AreFirst (k : ℕ) (items : List Item) : Type 0 where
  pub few : length items ≤ k
  pub order : Ascend items

-- k items are held, and none has a number above n
pub record AreFullTo (k : ℕ) (items : List Item) (n : ℕ) : Type 0 where
  pub all : length items ≡ k
  pub to : AreTo n items
