-- What swapping a built subtree in does to a state.
use Rattle.std.specs.Prelude.{◌≡◌, ℕ, ◌+◌, ◌<◌, ◌≤◌, ◌⊎◌, Bool, false, List, [], length, None}
use Rattle.map_items.specs.declared.op.Op.{Op}
use Rattle.map_items.specs.Ops.{Fit, numbers_put, replay}
use Rattle.kd_tree.specs.Shape.{Shape, levels, nodes}
use Rattle.kd_tree.specs.Contents.{contents}
use Rattle.kd_tree.specs.Parts.{replaced_at}
use Rattle.kd_update.specs.Replace.{HasRoomAt, RebuildsNoneAbove}
use Rattle.kd_mark.specs.Update.{IsBalancedBelow}
use Rattle.rebuild_parts.specs.declared.fault.SwapFault.{SwapFault}
use Rattle.rebuild_parts.specs.declared.fault.SwapFault.TheVariants.{Stale, Behind, NoMemory}
use Rattle.rebuild_parts.specs.declared.fault.Late.{Late}
use Rattle.rebuild_parts.specs.declared.fault.Late.TheVariants as late_of
use Rattle.rebuild_parts.specs.Built.{BuiltAt}
use Rattle.rebuild_core.specs.Known.{IsPartOf, IsStale, undone}
use Rattle.rebuild_core.specs.Detach.{IsLogAfter}
use Rattle.rebuild_core.specs.Lawful.{IsLawful, StateAt}
use Rattle.rebuild_parts.specs.Logs.{planned_parts}
use Rattle.kd_update.specs.Detached.{PartAt, without}
use Rattle.rebuild_core.specs.Steps.{PlannedAt, entered}
use Rattle.rebuild_parts.specs.declared.fault.TheConstants.{MAX_UNFORCED}

-- the value is of one of the parts, and where the swap isn't forced it lacks at most `MAX_UNFORCED` operations
abbrev pub MaySwap : BuiltAt → Bool → StateAt → Type 0
MaySwap b force s = (p : PartAt) × IsPartOf b s.parts p × (force ≡ false → length (undone b p) ≤ MAX_UNFORCED)

-- why a value isn't swapped in
abbrev pub IsSwapFault : BuiltAt → Bool → StateAt → SwapFault → Type 0
IsSwapFault b force s (Stale ticket) = (ticket ≡ b.ticket) × IsStale b s.parts
IsSwapFault b force s (Behind n) = (force ≡ false) × (p : PartAt) × IsPartOf b s.parts p × (n ≡ length (undone b p)) × (MAX_UNFORCED < n)
IsSwapFault b force s NoMemory = MaySwap b force s

-- the value is of one of the parts, and at most `most` operations behind
abbrev pub IsNear : BuiltAt → ℕ → StateAt → Type 0
IsNear b most s = (p : PartAt) × IsPartOf b s.parts p × (length (undone b p) ≤ most)

-- Why a value isn't swapped in where at most `most` operations are done. It is handed back, and where it is further behind
-- with its pending operations. On `NoMemory` the value is of a part.
abbrev pub IsLate : BuiltAt → ℕ → StateAt → Late → Type 0
IsLate b most s (late_of.Stale built) = (built ≡ b) × IsStale b s.parts
IsLate b most s (late_of.Behind built ops) = (built ≡ b) × Fit (contents b.tree) ops × IsLogAfter b s ops × (most < length ops)
IsLate b most s late_of.NoMemory = (p : PartAt) × IsPartOf b s.parts p

-- The tree is the value's after these operations: each point that they put adds a level and a node at most. It is the value's own
-- where there is none, and that is balanced.
pub record IsReplayedOnto (large : ℕ) (b : BuiltAt) (ops : List Op) (with : Shape) : Type 0 where
  pub held : contents with ≡ replay (contents b.tree) ops
  pub low : levels with ≤ levels b.tree + length (numbers_put ops)
  pub few : nodes with ≤ nodes b.tree + length (numbers_put ops)
  pub same : ops ≡ [] → IsBalancedBelow large b.tree → with ≡ b.tree

-- The remaining parts. The value's tree after its pending operations was put in the place of its part's
-- subtree: then the others stay. Where there was no room for it, none remains.
pub record IsLeftBySwap (b : BuiltAt) (s : StateAt) (ps : List PartAt) : Type 0 where
  pub part : PartAt
  pub of : IsPartOf b s.parts part
  pub with : Shape
  pub caught : IsReplayedOnto s.settings.large b (undone b part) with
  pub left : (HasRoomAt part.path with s.tree × (ps ≡ without b.ticket s.parts)) ⊎ ((HasRoomAt part.path with s.tree → ⊥) × (ps ≡ []))

-- The plan swaps the value in: what the map holds stays.
pub record IsSwapPlan (b : BuiltAt) (s : StateAt) (p : PlannedAt) : Type 0 where
  pub lawful : IsLawful (entered p s)
  pub held : contents p.tree ≡ contents s.tree
  pub next : p.next ≡ s.next
  pub none : p.entry ≡ None
  pub parts : IsLeftBySwap b s (planned_parts p.logs s.parts)

-- the second state is the first with the value swapped in
pub record IsSwapStep (b : BuiltAt) (s t : StateAt) : Type 0 where
  pub settings : t.settings ≡ s.settings
  pub held : contents t.tree ≡ contents s.tree
  pub next : t.next ≡ s.next
  pub history : t.history ≡ s.history
  pub parts : IsLeftBySwap b s t.parts
  pub last : t.last ≡ s.last

-- The swap rebuilds nothing: the value has no pending operation, its tree is balanced, there is room for it, and no node
-- above it is to be rebuilt.
pub record IsUnrebuiltSwap (b : BuiltAt) (p : PartAt) (s : StateAt) : Type 0 where
  pub of : IsPartOf b s.parts p
  pub done : undone b p ≡ []
  pub balanced : IsBalancedBelow s.settings.large b.tree
  pub room : HasRoomAt p.path b.tree s.tree
  pub criteria : RebuildsNoneAbove s.settings.large p.path (replaced_at p.path b.tree s.tree)

-- This is the tree that a swap leaves: one that rebuilds nothing puts the value's at the path of its part.
abbrev pub IsLeftUnrebuilt : BuiltAt → StateAt → Shape → Type 0
IsLeftUnrebuilt b s t = (p : PartAt) → IsUnrebuiltSwap b p s → t ≡ replaced_at p.path b.tree s.tree

-- A swap that rebuilds nothing makes at most a node for each side of the path: the counter rises from the one number to the other.
abbrev pub MakesPath : BuiltAt → StateAt → ℕ → ℕ → Type 0
MakesPath b s before after = (p : PartAt) → IsUnrebuiltSwap b p s → after ≤ before + length p.path
