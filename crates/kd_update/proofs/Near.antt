-- A node with another child on one side.
use Rattle.std.proofs.Common.{◌≡◌, ◌<◌, ◌∙◌, Some}
use Rattle.kd_tree.specs.Shape.{Shape, fork, nodes}
use Rattle.kd_tree.specs.Sound.{IsTopSound}
use Rattle.kd_tree.specs.Parts.{joined, pushed, with_child, child}
use Rattle.kd_tree.specs.declared.change.Fork.{Fork}
use Rattle.kd_tree.specs.declared.path.Side.{Side}
use Rattle.kd_tree.specs.declared.path.Side.TheVariants.{Left, Right}
use Rattle.kd_mark.specs.Refresh.{IsRefresh}
use Rattle.kd_mark.proofs.Trees.{pushed_smaller}
use Rattle.kd_mark.proofs.Refresh.{head, refresh_same, refresh_sound}
use Rattle.kd_mark.proofs.Update.{children_alike}
use Rattle.kd_mark.proofs.Near.{near}

-- the node with another child there
abbrev pub with_near : Side → Fork → Shape → Shape
with_near side f t = with_child side t (joined f)

pub near_smaller : (side : Side) (s : Shape) (f : Fork) → Some f ≡ pushed s → nodes (near side f) < nodes s
near_smaller Left s f x = (pushed_smaller s f x).0
near_smaller Right s f x = (pushed_smaller s f x).1

-- a sound node stays sound where that child is rebuilt in part
pub near_sound : (side : Side) (f : Fork) (t t' : Shape) → IsTopSound (with_near side f t) → IsRefresh t t' → IsTopSound (with_near side f t')
near_sound Left f t t' k u = refresh_sound f.item f.axis t f.right t' f.right k u (refresh_same f.right)
near_sound Right f t t' k u = refresh_sound f.item f.axis f.left t f.left t' k (refresh_same f.left) u

-- children that were put in the order of the side, and back
pub sides_back : (side : Side) (f : Fork) (t far l r : Shape) → far ≡ child side f.right f.left → l ≡ child side t far → r ≡ child side far t → fork (head f.item f.axis) l r ≡ with_near side f t
sides_back Left f t far l r a b d = children_alike (head f.item f.axis) t f.right l r b (d ∙ a)
sides_back Right f t far l r a b d = children_alike (head f.item f.axis) f.left t l r (b ∙ a) d
