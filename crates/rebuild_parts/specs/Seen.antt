-- What queries see.
use Rattle.std.specs.Prelude.{ℕ}
use Rattle.kd_tree.specs.Shape.{Shape}

-- what queries see: a tree, how many points were submitted, and how many entries the history had
pub record VersionAt : Type 0 where
  pub tree : Shape
  pub next : ℕ
  pub len : ℕ
