-- The live points of a ball.
use Rattle.std.specs.Prelude.{◌≡◌, ◌<◌, ◌≤◌, ◌⊎◌, ℕ, ℤ, List, map, length, take, Option, None, Some}
use Rattle.map_items.specs.declared.limits.TheConstants.{MAX_FOUND, MAX_WITHIN}
use Rattle.map_fold.specs.Neighbours.{ball}
use Rattle.kd_tree.specs.Contents.{contents}
use Rattle.rebuild_parts.specs.Seen.{VersionAt}
use Rattle.map_c.specs.Answers.{c_item, shown_in}
use Rattle.map_c.specs.Forms.{IsRightPlace, place_at}
use Rattle.map_c.specs.Status.{bad_number, empty, no_memory, no_room, out_of_range}
use Rattle.map_c.specs.declared.handles.content.Content.{Content}
use Rattle.map_c.specs.declared.handles.forms.Item.{Item}
use Rattle.map_c.specs.declared.handles.forms.Place.{Place}

-- a ball may be asked for to r millimetres, and `most` points of it
pub record IsBallAsked (r most : ℕ) : Type 0 where
  pub from : 1 ≤ most
  pub to : most ≤ MAX_FOUND
  pub r_to : r ≤ MAX_WITHIN

-- the live points of what is shown at most r millimetres from a place, by number, the first `most` of them, as C has them
abbrev pub ball_items : VersionAt → Place → ℕ → ℕ → List Item
ball_items v p r most = map c_item (take most (ball (contents v.tree) (place_at p) r))

-- The first `count` items are the live points in the ball of what the handle shows.
pub record IsBall (c : Option Content) (p : Place) (r most : ℕ) (items : List Item) (count : ℕ) : Type 0 where
  pub version : VersionAt
  pub shown : shown_in c ≡ Some version
  pub asked : IsBallAsked r most
  pub room : most ≤ length items
  pub range : IsRightPlace p
  pub list : take count items ≡ ball_items version p r most
  pub number : count ≡ length (ball_items version p r most)

-- why nothing within r millimetres is looked for
abbrev pub IsAskRefusal : Option Content → ℕ → ℕ → ℕ → ℤ → Type 0
IsAskRefusal c r most room status =
    ((status ≡ empty) × (shown_in c ≡ None))
    ⊎ ((status ≡ bad_number) × (IsBallAsked r most → ⊥))
    ⊎ ((status ≡ no_room) × (room < most))

-- why they aren't listed
abbrev pub IsBallRefusal : Option Content → Place → ℕ → ℕ → ℕ → ℤ → Type 0
IsBallRefusal c p r most room status =
    ((status ≡ empty) × (shown_in c ≡ None))
    ⊎ ((status ≡ bad_number) × (IsBallAsked r most → ⊥))
    ⊎ ((status ≡ no_room) × (room < most))
    ⊎ ((status ≡ out_of_range) × (IsRightPlace p → ⊥))
    ⊎ (status ≡ no_memory)
