-- Frozen indexes.
use Rattle.std.specs.Prelude.{◌≡◌, ◌≢◌, ◌⊎◌, ℕ, ℤ, List, Option, None, Some}
use Rattle.point_geom.specs.Place.{Place}
use Rattle.map_fold.specs.Answers.{nearest}
use Rattle.map_items.specs.Contents.{live_items}
use Rattle.map_items.specs.declared.item.Item.{Item}
use Rattle.kd_tree.specs.Contents.{contents}
use Rattle.rebuild_parts.specs.Seen.{VersionAt}
use Rattle.map_c.specs.Answers.{shown_in}
use Rattle.map_c.specs.Forms.{IsRightBox}
use Rattle.map_c.specs.Status.{bad_box, done, empty, full, no_memory}
use Rattle.map_c.specs.declared.handles.content.Content.{Content}
use Rattle.map_c.specs.declared.handles.content.Content.TheVariants as content
use Rattle.map_c.specs.declared.handles.forms.Bounds.{Bounds}

-- the items of the frozen index that a handle holds, if it holds one
abbrev pub frozen_in : Option Content → Option (List Item)
frozen_in None = None
frozen_in (Some (content.Map s)) = None
frozen_in (Some (content.View v)) = None
frozen_in (Some (content.Job w)) = None
frozen_in (Some (content.Built b)) = None
frozen_in (Some (content.Frozen m)) = Some m
frozen_in (Some content.Nothing) = None

-- The content is a frozen index of the live items of the version, so that whatever is searched for is found as in the version.
pub record IsFrozenOf (v : VersionAt) (c : Content) : Type 0 where
  pub items : List Item
  pub is : c ≡ content.Frozen items
  pub live : items ≡ live_items (contents v.tree)
  pub asked : (k : ℕ) (q : Place) (r : Option ℕ) → nearest items k q r ≡ nearest (contents v.tree) k q r

-- The first handle shows a version, and the second holds a frozen index of it.
pub record IsFrozen (c d : Option Content) : Type 0 where
  pub version : VersionAt
  pub shown : shown_in c ≡ Some version
  pub made : Content
  pub holds : d ≡ Some made
  pub frozen : IsFrozenOf version made

-- `IsFrozen`, where the points in a box are laid, and there is such a box
pub record IsBoxFrozen (b : Bounds) (c d : Option Content) : Type 0 where
  pub range : IsRightBox b
  pub whole : IsFrozen c d

-- why that isn't made into a handle that held this
abbrev pub IsBoxRefusal : Bounds → Option Content → Option Content → ℤ → Type 0
IsBoxRefusal b c was status =
    ((status ≡ full) × (was ≡ None → ⊥))
    ⊎ ((status ≡ empty) × (shown_in c ≡ None))
    ⊎ ((status ≡ bad_box) × (IsRightBox b → ⊥))
    ⊎ (status ≡ no_memory)

-- the second handle holds the index that the first holds
abbrev pub IsCopyOf : Option Content → Option Content → Type 0
IsCopyOf c d = (m : List Item) × (frozen_in c ≡ Some m) × (d ≡ Some (content.Frozen m))

-- why an index isn't copied into a handle that held this
abbrev pub IsCopyRefusal : Option Content → Option Content → ℤ → Type 0
IsCopyRefusal c was status =
    ((status ≡ full) × (was ≡ None → ⊥))
    ⊎ ((status ≡ empty) × (frozen_in c ≡ None))
    ⊎ (status ≡ no_memory)

-- Something is made into the second handle, which was empty, or a status says why not, and the second holds what it held. The first
-- holds what it held, whichever it is.
pub record IsMadeInto (Made : Type 0) (Refused : ℤ → Type 0) (old new was into : Option Content) (status : ℤ) : Type 0 where
  pub made : status ≡ done → Made
  pub none : status ≡ done → was ≡ None
  pub refused : status ≢ done → Refused status
  pub same : new ≡ old
  pub into_same : status ≢ done → into ≡ was
