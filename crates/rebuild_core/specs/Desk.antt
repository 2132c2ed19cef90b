-- What a refusal says of the value that was handed in, where nobody sees the state.
use Rattle.std.specs.Prelude.{◌≡◌, ◌<◌, ⊤, Bool, false}
use Rattle.map_items.specs.Ops.{Fit}
use Rattle.kd_tree.specs.Contents.{contents}
use Rattle.rebuild_parts.specs.Built.{BuiltAt}
use Rattle.rebuild_parts.specs.declared.fault.LogAsk.{LogAsk}
use Rattle.rebuild_parts.specs.declared.fault.LogAsk.TheVariants as ask_of
use Rattle.rebuild_parts.specs.declared.fault.SwapFault.{SwapFault}
use Rattle.rebuild_parts.specs.declared.fault.SwapFault.TheVariants as fault_of
use Rattle.rebuild_parts.specs.declared.fault.Late.{Late}
use Rattle.rebuild_parts.specs.declared.fault.Late.TheVariants as late_of
use Rattle.rebuild_parts.specs.declared.fault.TheConstants.{MAX_UNFORCED}

-- a stale value's ticket is returned
abbrev pub IsAskCause : BuiltAt → LogAsk → Type 0
IsAskCause b (ask_of.Stale ticket) = ticket ≡ b.ticket
IsAskCause b ask_of.NoMemory = ⊤

-- and a value is behind only where the swap isn't forced and more operations are pending than are done then
abbrev pub IsSwapCause : BuiltAt → Bool → SwapFault → Type 0
IsSwapCause b force (fault_of.Stale ticket) = ticket ≡ b.ticket
IsSwapCause b force (fault_of.Behind left) = (force ≡ false) × (MAX_UNFORCED < left)
IsSwapCause b force fault_of.NoMemory = ⊤

-- and one that is handed back is the value that was handed in: its pending operations can be done on its tree
abbrev pub IsHandedBack : BuiltAt → Late → Type 0
IsHandedBack b (late_of.Stale built) = built ≡ b
IsHandedBack b (late_of.Behind built ops) = (built ≡ b) × Fit (contents b.tree) ops
IsHandedBack b late_of.NoMemory = ⊤
