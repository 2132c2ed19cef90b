-- A node's children by side.
use Rattle.kd_tree.specs.Shape.{Shape}
use Rattle.kd_tree.specs.Parts.{child}
use Rattle.kd_tree.specs.declared.change.Fork.{Fork}
use Rattle.kd_tree.specs.declared.path.Side.{Side}

-- the child on this side
abbrev pub near : Side → Fork → Shape
near side f = child side f.left f.right
