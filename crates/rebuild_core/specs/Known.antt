-- Built values, and the parts that they are of.
use Rattle.std.specs.Prelude.{◌≡◌, ◌≤◌, List, length, take, drop, Some}
use Rattle.map_items.specs.declared.op.Op.{Op}
use Rattle.kd_tree.specs.Shape.{Shape}
use Rattle.kd_update.specs.Detached.{PartAt, part_of}
use Rattle.op_logger.specs.declared.log.TheConstants.{MAX_LOGGED}
use Rattle.rebuild_parts.specs.Built.{BuiltAt, CanBeDoneOn, IsLawfulBuilt}

-- the value is of this part: of the parts it has the ticket, the items are equal, and its log begins with what is done
pub record IsPartOf (b : BuiltAt) (ps : List PartAt) (p : PartAt) : Type 0 where
  pub found : part_of b.ticket ps ≡ Some p
  pub items : b.items ≡ p.items
  pub begins : take (length b.done) p.log ≡ b.done

-- the value is of none of the parts
abbrev pub IsStale : BuiltAt → List PartAt → Type 0
IsStale b ps = (p : PartAt) → IsPartOf b ps p → ⊥

-- the operations of the part's log that the value hasn't done
abbrev pub undone : BuiltAt → PartAt → List Op
undone b p = drop (length b.done) p.log

-- The value is of this part. The log, which is no longer than a log may be, has all that the value has done, and the rest of it can be
-- done on the value's tree.
pub record IsFoundPart (b : BuiltAt) (ps : List PartAt) (p : PartAt) : Type 0 where
  pub of : IsPartOf b ps p
  pub done : length b.done ≤ length p.log
  pub few : length p.log ≤ MAX_LOGGED
  pub fit : CanBeDoneOn b (undone b p)

-- the tree is that of a value of this part, and these are the operations that the value hasn't done
pub record IsTreeOf (b : BuiltAt) (p : PartAt) (ps : List PartAt) (t : Shape) (ops : List Op) : Type 0 where
  pub of : IsPartOf b ps p
  pub lawful : IsLawfulBuilt b
  pub tree : b.tree ≡ t
  pub undone : ops ≡ undone b p
