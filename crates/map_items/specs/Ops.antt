-- Single operations on what a map holds.
use Rattle.std.specs.Prelude.{◌≡◌, ℕ, ◌<◌, List, [], ◌∷◌, ◌++◌, length, count_by, ◌==◌}
use Rattle.map_items.specs.declared.item.Item.{Item}
use Rattle.map_items.specs.declared.op.Op.{Op}
use Rattle.map_items.specs.declared.op.Op.TheVariants.{Mark, Put}
use Rattle.map_items.specs.Contents.{put, mark, chosen_by}
use Rattle.map_items.specs.declared.limits.TheConstants.{MAX_POINTS}

-- what one operation makes of the items: an action on the chosen ones, or a point put under its number
abbrev pub perform : List Item → Op → List Item
perform m (Mark choice a) = mark m (chosen_by choice) a
perform m (Put n p) = put m n p

-- one operation after the other
abbrev pub replay : List Item → List Op → List Item
replay m [] = m
replay m (op ∷ ops) = replay (perform m op) ops

-- no item has the number
abbrev pub IsUnheld : ℕ → List Item → Type 0
IsUnheld n m = count_by (λ i. n == i.number) m ≡ 0

-- The operations fit what is held: at its turn, the number of each point that is put isn't held, and there is room for the point.
abbrev pub Fit : List Item → List Op → Type 0
Fit m [] = Unit {0}
Fit m (Mark choice a ∷ ops) = Fit (mark m (chosen_by choice) a) ops
Fit m (Put n p ∷ ops) = IsUnheld n m × (length m < MAX_POINTS) × Fit (put m n p) ops

-- the numbers that are put
abbrev pub numbers_put : List Op → List ℕ
numbers_put [] = []
numbers_put (Mark choice a ∷ ops) = numbers_put ops
numbers_put (Put n p ∷ ops) = n ∷ numbers_put ops

-- the second list begins with the first
abbrev pub Extends : List Op → List Op → Type 0
Extends before after = (more : List Op) × (after ≡ before ++ more)
