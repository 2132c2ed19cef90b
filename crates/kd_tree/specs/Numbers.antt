-- The least and the greatest number of a tree's nodes.
use Rattle.std.specs.Prelude.{ℕ, ◌≤◌, min, max, List, All, Contains, Option, Some, None}
use Rattle.kd_tree.specs.Shape.{Shape, leaf, fork}
use Rattle.kd_tree.specs.declared.numbers.Numbers.{Numbers}

-- the range of one number alone: it is the least and the greatest
abbrev pub one_number : ℕ → Numbers
one_number n = record { least = n; greatest = n }

-- the least range that covers both, where there is a second one
abbrev pub widened : Numbers → Option Numbers → Numbers
widened a None = a
widened a (Some b) = record { least = min a.least b.least; greatest = max a.greatest b.greatest }

-- the least and the greatest number of all nodes, dropped ones too
abbrev pub range : Shape → Option Numbers
range leaf = None
range (fork h l r) = Some (widened (widened (one_number h.item.number) (range l)) (range r))

-- they are two of the numbers, and all lie between them
pub record IsRangeOf (ns : List ℕ) (r : Numbers) : Type 0 where
  pub least : Contains ns r.least
  pub greatest : Contains ns r.greatest
  pub from : All (λ n. r.least ≤ n) ns
  pub to : All (λ n. n ≤ r.greatest) ns
