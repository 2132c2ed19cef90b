-- Detached subtrees as their state sees them: what it keeps of each, and which a step leaves. Here, since `map_update` and
-- `rebuild_parts`, neither of which uses the other, both cite it.
use Rattle.std.specs.Prelude.{◌≡◌, ℕ, ◌+◌, ◌<◌, ◌≤◌, ◌⊎◌, List, [], ◌∷◌, ◌++◌, length, map, All, Option, ◌==◌, if◌then◌else◌}
use Rattle.std.specs.List.{find}
use Rattle.map_items.specs.declared.item.Item.{Item}
use Rattle.map_items.specs.declared.op.Op.{Op}
use Rattle.map_items.specs.Contents.{AreContents}
use Rattle.map_items.specs.Ops.{Extends, Fit, numbers_put, replay}
use Rattle.kd_tree.specs.Shape.{Shape}
use Rattle.kd_tree.specs.Contents.{contents}
use Rattle.kd_tree.specs.Apart.{AreAllApart}
use Rattle.kd_tree.specs.declared.path.Side.{Side}
use Rattle.kd_mark.specs.declared.watch.Watch.{Watch}
use Rattle.kd_mark.specs.Watch.{IsLargeAt}
use Rattle.op_logger.specs.declared.log.TheConstants.{MAX_LOGGED}

-- a detached subtree: its slot, its path, its ticket, what it held when it was detached, and the operations since
pub record PartAt : Type 0 where
  pub slot : ℕ
  pub path : List Side
  pub ticket : ℕ
  pub items : List Item
  pub log : List Op

-- The part is lawful in a tree, where `next` points were submitted and `last` tickets given.
pub record IsLawfulPart (large next last : ℕ) (t : Shape) (p : PartAt) : Type 0 where
  pub there : IsLargeAt large p.path t
  pub few : length p.log ≤ MAX_LOGGED
  pub items : AreContents 0 next p.items
  pub fit : Fit p.items p.log
  pub below : All (λ n. n < next) (numbers_put p.log)
  -- the subtree's own contents are what the operations make of the items
  pub replayed : contents there.node ≡ replay p.items p.log
  pub ticket_from : 1 ≤ p.ticket
  pub ticket_to : p.ticket ≤ last

-- each of the parts is lawful in the tree
abbrev pub AreEachLawful : ℕ → ℕ → ℕ → Shape → List PartAt → Type 0
AreEachLawful large next last t [] = Unit {0}
AreEachLawful large next last t (p ∷ ps) = IsLawfulPart large next last t p × AreEachLawful large next last t ps

-- the slots rise, from this one on, up to 4
abbrev pub AreInSlots : ℕ → List PartAt → Type 0
AreInSlots from [] = Unit {0}
AreInSlots from (p ∷ ps) = (from ≤ p.slot) × (p.slot ≤ 4) × AreInSlots (p.slot + 1) ps

-- no part has the ticket
abbrev pub IsNewTicket : ℕ → List PartAt → Type 0
IsNewTicket ticket [] = Unit {0}
IsNewTicket ticket (p ∷ ps) = (ticket ≡ p.ticket → ⊥) × IsNewTicket ticket ps

-- each part of the ticket held these items
abbrev pub AreItemsOf : ℕ → List Item → List PartAt → Type 0
AreItemsOf ticket items [] = Unit {0}
AreItemsOf ticket items (p ∷ ps) = (p.ticket ≡ ticket → p.items ≡ items) × AreItemsOf ticket items ps

-- no two parts have the same ticket
abbrev pub HaveOwnTickets : List PartAt → Type 0
HaveOwnTickets [] = Unit {0}
HaveOwnTickets (p ∷ ps) = IsNewTicket p.ticket ps × HaveOwnTickets ps

-- the paths of the parts
abbrev pub paths : List PartAt → List (List Side)
paths ps = map (λ p. p.path) ps

-- none is in another, and each has a ticket of its own
pub record AreOwn (ps : List PartAt) : Type 0 where
  pub apart : AreAllApart (paths ps)
  pub tickets : HaveOwnTickets ps

-- The parts of a state: each lawful, none in another, in the order of their slots, each with a ticket of its own.
pub record AreLawfulParts (large next last : ℕ) (t : Shape) (ps : List PartAt) : Type 0 where
  pub each : AreEachLawful large next last t ps
  pub apart : AreAllApart (paths ps)
  pub slots : AreInSlots 1 ps
  pub tickets : HaveOwnTickets ps

-- the part in the slot, if there is one
abbrev pub part_in : ℕ → List PartAt → Option PartAt
part_in slot ps = find (λ p. slot == p.slot) ps

-- the part of the ticket, if there is one
abbrev pub part_of : ℕ → List PartAt → Option PartAt
part_of ticket ps = find (λ p. ticket == p.ticket) ps

-- the parts without that of the ticket
abbrev pub without : ℕ → List PartAt → List PartAt
without ticket [] = []
without ticket (p ∷ ps) = if ticket == p.ticket then ps else p ∷ without ticket ps

-- The part of the ticket, the first of it, has this index.
pub record IsPlaceOf (ticket i : ℕ) (ps : List PartAt) : Type 0 where
  pub front : List PartAt
  pub part : PartAt
  pub back : List PartAt
  pub all : ps ≡ front ++ part ∷ back
  pub place : i ≡ length front
  pub is : ticket ≡ part.ticket
  pub new : IsNewTicket ticket front

-- some of the parts were forgotten, and the logs of the others have grown
abbrev pub AreLeft : List PartAt → List PartAt → Type 0
AreLeft [] qs = qs ≡ []
AreLeft (p ∷ ps) qs = AreLeft ps qs ⊎ ((log : List Op) × (rest : List PartAt) × (qs ≡ record p { log = log } ∷ rest) × Extends p.log log × AreLeft ps rest)

-- each log has room for two operations more
abbrev pub HaveLogRoom : List PartAt → Type 0
HaveLogRoom [] = Unit {0}
HaveLogRoom (p ∷ ps) = (length p.log + 2 ≤ MAX_LOGGED) × HaveLogRoom ps

-- a part as it is watched
abbrev pub watch_of : PartAt → Watch
watch_of p = record { path = p.path; log = p.log }

-- the parts as they are watched, in their order
abbrev pub watches_of : List PartAt → List Watch
watches_of ps = map watch_of ps
