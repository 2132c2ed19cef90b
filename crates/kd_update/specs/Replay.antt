-- Operations done on a tree, and the runs of points among them. Cited by private functions alone.
use Rattle.std.specs.Prelude.{◌≡◌, ℕ, ◌+◌, ◌<◌, ◌≤◌, max, Bool, true, false, List, [], ◌∷◌, ◌++◌, length, All}
use Rattle.map_items.specs.declared.item.Item.{Item}
use Rattle.map_items.specs.declared.op.Op.{Op}
use Rattle.map_items.specs.declared.op.Op.TheVariants.{Mark, Put}
use Rattle.map_items.specs.Contents.{live_at}
use Rattle.map_items.specs.Ops.{numbers_put, replay}
use Rattle.kd_tree.specs.Shape.{Shape, levels, nodes, numbers}
use Rattle.kd_tree.specs.Contents.{contents}
use Rattle.kd_mark.specs.Refresh.{AreAmong}
use Rattle.kd_mark.specs.Update.{IsBalancedBelow}
use Rattle.kd_tree.specs.declared.limits.TheConstants.{MAX_NODES}
use Rattle.kd_update.specs.declared.limits.TheConstants.{MAX_PASS_LEVELS}

-- The second tree is the first with the operations done: each point that they put adds a level and a node at most, and it stays balanced.
pub record IsPerformed (large : ℕ) (s : Shape) (ops : List Op) (t : Shape) : Type 0 where
  pub held : contents t ≡ replay (contents s) ops
  pub from : AreAmong (numbers t) (numbers_put ops ++ numbers s)
  pub balanced : IsBalancedBelow large s → IsBalancedBelow large t
  pub low : levels t ≤ levels s + length (numbers_put ops)
  pub few : nodes t ≤ nodes s + length (numbers_put ops)

-- the operation puts a point, and marks nothing
abbrev pub is_put : Op → Bool
is_put (Mark choice a) = false
is_put (Put n p) = true

-- each of the operations puts a point
abbrev pub ArePuts : List Op → Type 0
ArePuts ops = All (λ op. is_put op ≡ true) ops

-- the items that are put
abbrev pub items_put : List Op → List Item
items_put [] = []
items_put (Mark choice a ∷ ops) = items_put ops
items_put (Put n p ∷ ops) = live_at n p ∷ items_put ops

-- The operations are points that may be put in one pass: they are fewer than large nodes are, the tree's bounds aren't near, and
-- they are at least as many as a pass may add levels.
pub record IsRun (large : ℕ) (ops : List Op) (s : Shape) : Type 0 where
  pub puts : ArePuts ops
  pub many : 22 ≤ length ops
  pub small : length ops < max 2 large
  pub short : length ops < MAX_NODES
  pub low : levels s ≤ MAX_PASS_LEVELS
  pub few : nodes s + length ops ≤ MAX_NODES
