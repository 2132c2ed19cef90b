-- Why a value isn't swapped into a shared map, and how far behind it may be. Cited by private functions alone.
use Rattle.std.specs.Prelude.{◌≡◌, ℕ, ◌<◌, ◌≤◌, ⊤, Bool, length, if◌then◌else◌}
use Rattle.map_items.specs.Ops.{Fit}
use Rattle.kd_tree.specs.Contents.{contents}
use Rattle.rebuild_parts.specs.Built.{BuiltAt}
use Rattle.rebuild_core.specs.Lawful.{StateAt}
use Rattle.rebuild_core.specs.Swap.{IsLate}
use Rattle.rebuild_parts.specs.declared.fault.Late.{Late}
use Rattle.rebuild_parts.specs.declared.fault.Late.TheVariants.{Stale, Behind, NoMemory}
use Rattle.op_logger.specs.declared.log.TheConstants.{MAX_LOGGED}
use Rattle.rebuild_parts.specs.declared.fault.TheConstants.{MAX_UNFORCED}

-- Where at most `most` operations are done: except on `NoMemory` the value is returned, and one that is further behind with the
-- operations that it lacks. They can be done on its tree, and are at most as many as a log has.
abbrev pub IsLateCause : BuiltAt → ℕ → Late → Type 0
IsLateCause b most (Stale built) = built ≡ b
IsLateCause b most (Behind built ops) = (built ≡ b) × Fit (contents b.tree) ops × (most < length ops) × (length ops ≤ MAX_LOGGED)
IsLateCause b most NoMemory = ⊤

-- Where the state is seen too: a value that is further behind is of a part, and lacks exactly these operations. One that is stale
-- may be of a part that was detached anew.
abbrev pub IsLateThere : BuiltAt → ℕ → StateAt → Late → Type 0
IsLateThere b most s (Stale built) = ⊤
IsLateThere b most s (Behind built ops) = IsLate b most s (Behind built ops)
IsLateThere b most s NoMemory = ⊤

-- at most how many operations are done in a swap: where it is forced, as many as a log has
abbrev pub most_done : Bool → ℕ
most_done force = if force then MAX_LOGGED else MAX_UNFORCED
