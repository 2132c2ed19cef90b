-- A subtree that was rebuilt, as a handle holds it.
use Rattle.std.specs.Prelude.{ℕ, List}
use Rattle.map_items.specs.declared.op.Op.{Op}
use Rattle.rebuild_parts.specs.Built.{BuiltAt}

-- the subtree, the operations that are to be done on it next, and its map's `large`
pub record BuiltSubtreeAt : Type 0 where
  pub built : BuiltAt
  pub left : List Op
  pub large : ℕ
