-- What detaching a subtree does to a state.
use Rattle.std.specs.Prelude.{◌≡◌, ℕ, ◌+◌, ◌<◌, ◌≤◌, ◌⊎◌, ◌↔◌, List, [], ◌∷◌, Option, Some, None, Result, IfOk, IfSome, IsNone, OnErr, nat_lt, ◌==◌, if◌then◌else◌}
use Rattle.kd_tree.specs.Shape.{Shape}
use Rattle.kd_tree.specs.Sound.{IsSound}
use Rattle.kd_tree.specs.Contents.{contents}
use Rattle.kd_tree.specs.Parts.{at}
use Rattle.kd_tree.specs.Apart.{AllClearMeetCriteria, IsFirstFree}
use Rattle.kd_tree.specs.declared.path.Side.{Side}
use Rattle.map_items.specs.declared.memory.NoMemory as memory
use Rattle.map_items.specs.declared.op.Op.{Op}
use Rattle.rebuild_parts.specs.Built.{BuiltAt, JobAt}
use Rattle.rebuild_core.specs.Known.{IsPartOf, IsStale, undone}
use Rattle.rebuild_core.specs.Lawful.{StateAt, Stored}
use Rattle.rebuild_parts.specs.declared.fault.LogAsk.{LogAsk}
use Rattle.rebuild_parts.specs.declared.fault.LogAsk.TheVariants.{Stale, NoMemory}
use Rattle.kd_update.specs.Detached.{PartAt, part_in, paths}

-- a subtree is detached again where its part is, and else where the first node that is clear of the parts breaches a criterion
abbrev pub IsDetachedAt : Option PartAt → StateAt → List Side → Type 0
IsDetachedAt (Some p) s path = path ≡ p.path
IsDetachedAt None s path = IsFirstFree s.settings.large (paths s.parts) s.tree path

-- there is no part, and no node that is clear of the parts is to be rebuilt
abbrev pub IsNoneToDetach : Option PartAt → StateAt → Type 0
IsNoneToDetach (Some p) s = ⊥
IsNoneToDetach None s = AllClearMeetCriteria s.settings.large (paths s.parts) s.tree

-- nothing is detached into the slot: all tickets were given, or there is nothing to be detached
abbrev pub IsNoDetach : ℕ → StateAt → Type 0
IsNoDetach slot s = (s.last ≡ 18446744073709551615) ⊎ IsNoneToDetach (part_in slot s.parts) s

-- the parts with this one in its slot
abbrev pub with_part : PartAt → List PartAt → List PartAt
with_part q [] = q ∷ []
with_part q (p ∷ ps) = if q.slot == p.slot then q ∷ ps else (if nat_lt q.slot p.slot then q ∷ p ∷ ps else p ∷ with_part q ps)

-- the subtree at the path can be detached into the slot next, with this ticket, and holds these items
pub record IsDetachable (slot : ℕ) (s : StateAt) (path : List Side) (job : JobAt) : Type 0 where
  pub node : Shape
  pub left : s.last < 18446744073709551615
  pub chosen : IsDetachedAt (part_in slot s.parts) s path
  pub there : at path s.tree ≡ Some node
  pub sound : IsSound node
  pub ticket : job.ticket ≡ s.last + 1
  pub items : job.items ≡ contents node

-- The second state is the first with a subtree detached into the slot: it has the next ticket, what the subtree holds by itself,
-- and an empty log. All else stays.
pub record IsDetachStep (slot : ℕ) (s : StateAt) (job : JobAt) (t : StateAt) : Type 0 where
  pub path : List Side
  pub node : Shape
  pub chosen : IsDetachedAt (part_in slot s.parts) s path
  pub there : at path s.tree ≡ Some node
  pub ticket : job.ticket ≡ s.last + 1
  pub items : job.items ≡ contents node
  pub state : t ≡ record s { last = s.last + 1; parts = with_part (record { slot = slot; path = path; ticket = s.last + 1; items = contents node; log = [] }) s.parts }

-- the slots are four
pub record IsSlot (slot : ℕ) : Type 0 where
  pub slot_from : 1 ≤ slot
  pub slot_to : slot ≤ 4

-- What detaching into the slot returns, and makes of a state: a refusal leaves it as it was, and so does None, where there is
-- nothing to be detached.
pub record Detaches (slot : ℕ) (s : Stored) (found : Result (Option JobAt) memory.NoMemory) (t : Stored) : Type 0 where
  pub none : IfOk found (λ o. IsNone o ↔ IsNoDetach slot s.state)
  pub detached : IfOk found (λ o. IfSome o (λ job. IsDetachStep slot s.state job t.state))
  pub stays : IfOk found (λ o. IsNone o → t.state ≡ s.state)
  pub same : OnErr found (t.state ≡ s.state)
  pub spare : t.spare ≡ s.spare

-- these are the operations that the value, which is of one of the state's parts, hasn't done
pub record IsLogAfter (b : BuiltAt) (s : StateAt) (ops : List Op) : Type 0 where
  pub part : PartAt
  pub of : IsPartOf b s.parts part
  pub after : ops ≡ undone b part

-- why they aren't given
abbrev pub IsLogFault : BuiltAt → StateAt → LogAsk → Type 0
IsLogFault b s (Stale ticket) = (ticket ≡ b.ticket) × IsStale b s.parts
IsLogFault b s NoMemory = (p : PartAt) × IsPartOf b s.parts p
