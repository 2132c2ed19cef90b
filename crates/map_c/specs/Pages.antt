-- Lists that begin at a number and end with the room.
use Rattle.std.specs.Prelude.{◌≡◌, ◌≤◌, ◌⊎◌, ℕ, ℤ, List, map, length, take, Option, None, Some}
use Rattle.map_items.specs.declared.item.Item as held
use Rattle.map_items.specs.declared.limits.TheConstants.{MAX_WITHIN}
use Rattle.map_fold.specs.Answers.{inside_all}
use Rattle.map_fold.specs.Neighbours.{ball}
use Rattle.kd_tree.specs.Contents.{contents}
use Rattle.rebuild_parts.specs.Seen.{VersionAt}
use Rattle.item_lists.specs.Listed.{numbered_from}
use Rattle.map_c.specs.Answers.{c_item, shown_in}
use Rattle.map_c.specs.Forms.{IsRightBox, IsRightPlace, bounds_at, place_at}
use Rattle.map_c.specs.Status.{bad_box, bad_number, empty, no_memory, out_of_range}
use Rattle.map_c.specs.declared.handles.content.Content.{Content}
use Rattle.map_c.specs.declared.handles.forms.Bounds.{Bounds}
use Rattle.map_c.specs.declared.handles.forms.Item.{Item}
use Rattle.map_c.specs.declared.handles.forms.Place.{Place}

-- of these items those under the numbers from this one on, as many as there is room for, as C has them
abbrev pub page : ℕ → ℕ → List held.Item → List Item
page from room m = map c_item (take room (numbered_from from m))

-- The first `count` items are a page of what the handle shows, live and suspended.
pub record IsPage (c : Option Content) (from : ℕ) (items : List Item) (count : ℕ) : Type 0 where
  pub version : VersionAt
  pub shown : shown_in c ≡ Some version
  pub list : take count items ≡ page from (length items) (contents version.tree)
  pub number : count ≡ length (page from (length items) (contents version.tree))

-- why there is none
abbrev pub IsPageRefusal : Option Content → ℤ → Type 0
IsPageRefusal c status = ((status ≡ empty) × (shown_in c ≡ None)) ⊎ (status ≡ no_memory)

-- The first `count` items are a page of the live points in the box.
pub record IsBoxPage (c : Option Content) (b : Bounds) (from : ℕ) (items : List Item) (count : ℕ) : Type 0 where
  pub version : VersionAt
  pub shown : shown_in c ≡ Some version
  pub range : IsRightBox b
  pub list : take count items ≡ page from (length items) (inside_all (contents version.tree) (bounds_at b))
  pub number : count ≡ length (page from (length items) (inside_all (contents version.tree) (bounds_at b)))

-- why there is none of a box
abbrev pub IsBoxPageRefusal : Option Content → Bounds → ℤ → Type 0
IsBoxPageRefusal c b status =
    ((status ≡ empty) × (shown_in c ≡ None))
    ⊎ ((status ≡ bad_box) × (IsRightBox b → ⊥))
    ⊎ (status ≡ no_memory)

-- The first `count` items are a page of the live points in the ball.
pub record IsBallPage (c : Option Content) (p : Place) (r from : ℕ) (items : List Item) (count : ℕ) : Type 0 where
  pub version : VersionAt
  pub shown : shown_in c ≡ Some version
  pub asked : r ≤ MAX_WITHIN
  pub range : IsRightPlace p
  pub list : take count items ≡ page from (length items) (ball (contents version.tree) (place_at p) r)
  pub number : count ≡ length (page from (length items) (ball (contents version.tree) (place_at p) r))

-- why there is none of a ball
abbrev pub IsBallPageRefusal : Option Content → Place → ℕ → ℤ → Type 0
IsBallPageRefusal c p r status =
    ((status ≡ empty) × (shown_in c ≡ None))
    ⊎ ((status ≡ bad_number) × (r ≤ MAX_WITHIN → ⊥))
    ⊎ ((status ≡ out_of_range) × (IsRightPlace p → ⊥))
    ⊎ (status ≡ no_memory)
