-- Subtrees that are rebuilt elsewhere.
use Rattle.std.specs.Prelude.{◌≡◌, ℕ, ◌++◌, List, [], map}
use Rattle.map_items.specs.declared.item.Item.{Item}
use Rattle.map_items.specs.declared.op.Op.{Op}
use Rattle.map_items.specs.Ops.{Fit, numbers_put, replay}
use Rattle.kd_tree.specs.Shape.{Shape, numbers}
use Rattle.kd_tree.specs.Contents.{contents}
use Rattle.kd_tree.specs.Criteria.{AllMeetCriteria}
use Rattle.kd_mark.specs.Refresh.{AreAmong}

-- the items of a subtree that was detached with this ticket
pub record JobAt : Type 0 where
  pub ticket : ℕ
  pub items : List Item

-- a tree that was built of the items, the operations that were done on it since, and the `large` that it is balanced for
pub record BuiltAt : Type 0 where
  pub ticket : ℕ
  pub items : List Item
  pub done : List Op
  pub tree : Shape
  pub large : ℕ

-- each node's number is an item's
abbrev pub AreNumbersOf : List Item → Shape → Type 0
AreNumbersOf items t = AreAmong (numbers t) (map (λ i. i.number) items)

-- the tree holds what the operations, which fit the items, make of them, and each node's number is an item's or was put
pub record IsLawfulBuilt (b : BuiltAt) : Type 0 where
  pub fit : Fit b.items b.done
  pub replayed : contents b.tree ≡ replay b.items b.done
  pub numbers : AreAmong (numbers b.tree) (numbers_put b.done ++ map (λ i. i.number) b.items)

-- the value was just built of the job
pub record IsBuiltOf (j : JobAt) (b : BuiltAt) : Type 0 where
  pub ticket : b.ticket ≡ j.ticket
  pub items : b.items ≡ j.items
  pub done : b.done ≡ []
  pub held : contents b.tree ≡ j.items
  pub criteria : AllMeetCriteria 10 b.tree

-- the second value is the first, with these operations done too
pub record IsReplayOf (b : BuiltAt) (ops : List Op) (c : BuiltAt) : Type 0 where
  pub ticket : c.ticket ≡ b.ticket
  pub items : c.items ≡ b.items
  pub done : c.done ≡ b.done ++ ops
  pub held : contents c.tree ≡ replay (contents b.tree) ops

-- the operations can be done on the value's tree
abbrev pub CanBeDoneOn : BuiltAt → List Op → Type 0
CanBeDoneOn b ops = Fit (contents b.tree) ops
