-- What is known of the first breach of a tree that is to be settled. Cited by private functions alone.
use Rattle.std.specs.Prelude.{◌≡◌, Some, None}
use Rattle.kd_tree.specs.Shape.{Shape}
use Rattle.kd_tree.specs.Criteria.{first_breach}
use Rattle.kd_tree.specs.declared.change.Fork.{Fork}
use Rattle.kd_update.specs.declared.replacing.settle.Known.{Known}
use Rattle.kd_update.specs.declared.replacing.settle.Known.TheVariants.{Nothing, Clean, At}
use Rattle.kd_update.specs.declared.replacing.settle.BothKnown.{BothKnown}

-- it has no breach, or its first one is at the end of the path
abbrev pub IsKnown : Known → Shape → Type 0
IsKnown Nothing t = Unit {0}
IsKnown Clean t = first_breach 10 t ≡ None
IsKnown (At path) t = first_breach 10 t ≡ Some path.now

-- so it is of both children
pub record AreKnown (k : BothKnown) (f : Fork) : Type 0 where
  pub left : IsKnown k.left f.left
  pub right : IsKnown k.right f.right
