-- What a step makes of the logs of detached subtrees.
use Rattle.std.specs.Prelude.{◌≡◌, ℕ, List, [], ◌∷◌, ◌++◌, Option, Some, None, ◌==◌, if◌then◌else◌}
use Rattle.map_items.specs.declared.op.Op.{Op}
use Rattle.kd_update.specs.Detached.{IsNewTicket, PartAt}

-- what a plan says of the part of a ticket: the log that it is to have, or none where it is forgotten
pub record LogPlan : Type 0 where
  pub ticket : ℕ
  pub log : Option (List Op)

-- the part with this log as a list, or an empty list where it is forgotten
abbrev pub with_log : Option (List Op) → PartAt → List PartAt
with_log None p = []
with_log (Some log) p = record p { log = log } ∷ []

-- no plan names the ticket
abbrev pub IsUnnamed : ℕ → List LogPlan → Type 0
IsUnnamed ticket [] = Unit {0}
IsUnnamed ticket (x ∷ plans) = (x.ticket ≡ ticket → ⊥) × IsUnnamed ticket plans

-- the parts, that of the plan's ticket with its log or forgotten
abbrev pub relogged : LogPlan → List PartAt → List PartAt
relogged x [] = []
relogged x (p ∷ ps) = if x.ticket == p.ticket then with_log x.log p ++ ps else p ∷ relogged x ps

-- the parts as the plans leave them, one plan after the other; a part that none names stays
abbrev pub planned_parts : List LogPlan → List PartAt → List PartAt
planned_parts [] ps = ps
planned_parts (x ∷ plans) ps = planned_parts plans (relogged x ps)

-- plans were added that leave these of the parts
pub record AddsLogs (old : List LogPlan) (ps qs : List PartAt) (new : List LogPlan) : Type 0 where
  pub plans : List LogPlan
  pub added : new ≡ old ++ plans
  pub left : planned_parts plans ps ≡ qs
  -- and name no other part
  pub own : (ticket : ℕ) → IsNewTicket ticket ps → IsUnnamed ticket plans
