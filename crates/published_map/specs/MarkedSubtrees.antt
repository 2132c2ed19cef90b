-- What detached subtrees held, as the lock keeps it. Cited by private functions alone.
use Rattle.std.specs.Prelude.{ℕ, ◌≤◌, List, [], ◌∷◌, Option, ◌==◌, if◌then◌else◌}
use Rattle.std.specs.List.{find}
use Rattle.map_items.specs.declared.item.Item.{Item}
use Rattle.rebuild_core.specs.Lawful.{StateAt}
use Rattle.kd_update.specs.Detached.{AreItemsOf}

-- what a subtree held that was detached into this slot with this ticket
pub record MarkedSubtreeAt : Type 0 where
  pub slot : ℕ
  pub ticket : ℕ
  pub items : List Item

-- What is marked is true of the state: its ticket was given, and if the subtree of that ticket is still there, it held these items.
pub record IsTrueOf (s : StateAt) (h : MarkedSubtreeAt) : Type 0 where
  pub given : h.ticket ≤ s.last
  pub items : AreItemsOf h.ticket h.items s.parts

-- each of these is true of the state
abbrev pub AreTrueOf : StateAt → List MarkedSubtreeAt → Type 0
AreTrueOf s [] = Unit {0}
AreTrueOf s (h ∷ hs) = IsTrueOf s h × AreTrueOf s hs

-- what has the ticket, if anything has
abbrev pub marked_subtree_of : ℕ → List MarkedSubtreeAt → Option MarkedSubtreeAt
marked_subtree_of ticket hs = find (λ h. ticket == h.ticket) hs

-- these, with this one in the place of that of its slot
abbrev pub with_marked_subtree : MarkedSubtreeAt → List MarkedSubtreeAt → List MarkedSubtreeAt
with_marked_subtree k [] = k ∷ []
with_marked_subtree k (h ∷ hs) = if k.slot == h.slot then k ∷ hs else h ∷ with_marked_subtree k hs
