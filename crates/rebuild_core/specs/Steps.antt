-- What steps make of a state.
use Rattle.std.specs.Prelude.{◌≡◌, ℕ, ◌+◌, ◌<◌, ◌≤◌, List, [], ◌∷◌, ◌++◌, length, All, Option, Some, None}
use Rattle.map_items.specs.Fold.{step, points_in}
use Rattle.map_items.specs.declared.op.Op.{Op}
use Rattle.map_items.specs.declared.update.Update.{Update}
use Rattle.kd_tree.specs.Shape.{Shape, numbers}
use Rattle.kd_tree.specs.Contents.{contents}
use Rattle.kd_tree.specs.Criteria.{AllMeetCriteria}
use Rattle.kd_mark.specs.Several.{IsBalancedClear}
use Rattle.map_items.specs.declared.entry.Entry.{Entry}
use Rattle.rebuild_parts.specs.declared.fault.StateFault.{StateFault}
use Rattle.rebuild_parts.specs.declared.fault.StateFault.TheVariants.{TooManyUpdates, TooManyPoints, NoMemory}
use Rattle.rebuild_parts.specs.History.{entry_by, listed}
use Rattle.rebuild_core.specs.Lawful.{IsLawful, StateAt}
use Rattle.rebuild_parts.specs.Seen.{VersionAt}
use Rattle.kd_tree.specs.Maps.{map_of}
use Rattle.rebuild_parts.specs.Logs.{LogPlan, planned_parts}
use Rattle.kd_update.specs.Detached.{AreLawfulParts, AreLeft, HaveLogRoom, paths}
use Rattle.rebuild_core.specs.declared.plan.PlanDraft.{PlanDraft}
use Rattle.map_update.specs.Single.{RebuildsNothing, only_op}
use Rattle.map_items.specs.declared.limits.TheConstants.{MAX_POINTS}
use Rattle.rebuild_core.specs.declared.plan.TheConstants.{MAX_UPDATES}

-- what a step stores
pub record PlannedAt : Type 0 where
  pub tree : Shape
  pub next : ℕ
  pub version : VersionAt
  pub entry : Option Entry
  pub logs : List LogPlan

-- the plan of a step that is no update: this tree and these logs, with the next number and the length of the history as they are
abbrev pub plan_with : Shape → List LogPlan → StateAt → PlannedAt
plan_with t logs s = record { tree = t; next = s.next; version = record { tree = t; next = s.next; len = length s.history }; entry = None; logs = logs }

-- the state after the planned step
abbrev pub entered : PlannedAt → StateAt → StateAt
entered p s = record s { tree = p.tree; next = p.next; version = p.version; history = s.history ++ listed p.entry; parts = planned_parts p.logs s.parts }

-- there is room for one more update, and for its points
pub record HasRoom (u : Update) (s : StateAt) : Type 0 where
  pub updates : length s.history < MAX_UPDATES
  pub points : s.next + points_in u ≤ MAX_POINTS

-- why an update is refused
abbrev pub IsFault : Update → StateAt → StateFault → Type 0
IsFault u s (TooManyUpdates len) = (length s.history ≡ MAX_UPDATES) × (len ≡ length s.history)
IsFault u s (TooManyPoints next asked) = (length s.history < MAX_UPDATES) × (MAX_POINTS < s.next + points_in u) × (next ≡ s.next) × (asked ≡ points_in u)
IsFault u s NoMemory = HasRoom u s

-- The draft is the tree after the update, which is balanced outside the remaining parts, and they are lawful in it.
pub record IsPlanDraft (u : Update) (s : StateAt) (d : PlanDraft) : Type 0 where
  pub stepped : map_of d.tree (s.next + points_in u) ≡ step s.settings.voxel u (map_of s.tree s.next)
  pub left : AreLeft s.parts (planned_parts d.logs.items s.parts)
  pub parts : AreLawfulParts s.settings.large (s.next + points_in u) s.last d.tree (planned_parts d.logs.items s.parts)
  pub balanced : IsBalancedClear s.settings.large (paths (planned_parts d.logs.items s.parts)) d.tree
  pub below : All (λ n. n < s.next + points_in u) (numbers d.tree)

-- the plan is that of this caller's update
pub record IsUpdatePlan (caller : ℕ) (u : Update) (s : StateAt) (p : PlannedAt) : Type 0 where
  pub lawful : IsLawful (entered p s)
  pub stepped : map_of p.tree p.next ≡ step s.settings.voxel u (map_of s.tree s.next)
  pub entry : p.entry ≡ Some (entry_by caller u s.history)
  pub parts : AreLeft s.parts (planned_parts p.logs s.parts)

-- the second state is the first after this caller's update
pub record IsUpdateStep (caller : ℕ) (u : Update) (s t : StateAt) : Type 0 where
  pub settings : t.settings ≡ s.settings
  pub stepped : map_of t.tree t.next ≡ step s.settings.voxel u (map_of s.tree s.next)
  pub history : t.history ≡ s.history ++ entry_by caller u s.history ∷ []
  pub parts : AreLeft s.parts t.parts
  pub last : t.last ≡ s.last

-- the update is this one operation, and rebuilds nothing
pub record IsUnrebuiltUpdate (u : Update) (op : Op) (s : StateAt) : Type 0 where
  pub only : only_op s.next u ≡ Some op
  pub unrebuilt : RebuildsNothing s.settings.large op s.tree
  pub room : HaveLogRoom s.parts

-- The plan leaves no node from 10 nodes on that breaches a criterion, no part, and what the map holds.
pub record IsSettlePlan (s : StateAt) (p : PlannedAt) : Type 0 where
  pub lawful : IsLawful (entered p s)
  pub held : contents p.tree ≡ contents s.tree
  pub next : p.next ≡ s.next
  pub none : p.entry ≡ None
  pub parts : planned_parts p.logs s.parts ≡ []
  pub criteria : AllMeetCriteria 10 p.tree

-- the second state is the first, settled
pub record IsSettleStep (s t : StateAt) : Type 0 where
  pub settings : t.settings ≡ s.settings
  pub held : contents t.tree ≡ contents s.tree
  pub next : t.next ≡ s.next
  pub history : t.history ≡ s.history
  pub parts : t.parts ≡ []
  pub last : t.last ≡ s.last
  pub criteria : AllMeetCriteria 10 t.tree
