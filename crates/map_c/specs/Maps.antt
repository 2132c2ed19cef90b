-- What calls leave of a map.
use Rattle.std.specs.Prelude.{◌≡◌, ◌≢◌, ◌<◌, ◌+◌, ◌⊎◌, ℕ, ℤ, List, All, length, Option, None, Some}
use Rattle.map_items.specs.Fold.{points_in}
use Rattle.map_items.specs.declared.update.Update.{Update}
use Rattle.rebuild_core.specs.Lawful.{StateAt, new_state}
use Rattle.rebuild_core.specs.Steps.{HasRoom, IsUpdateStep}
use Rattle.map_c.specs.declared.handles.content.Content.{Content}
use Rattle.map_c.specs.declared.handles.content.Content.TheVariants as content
use Rattle.map_items.specs.Sizes.{AreSizes}
use Rattle.map_c.specs.declared.handles.forms.Bounds.{Bounds}
use Rattle.map_c.specs.declared.handles.forms.Point.{Point}
use Rattle.map_c.specs.Forms.{HasWrongBox, HasWrongPoint, IsRightBox, IsRightPoint}
use Rattle.map_c.specs.Status.{IsNoList, bad_box, bad_number, done, empty, full, no_memory, out_of_range, too_many_points, too_many_updates}
use Rattle.map_items.specs.declared.limits.TheConstants.{MAX_POINTS}
use Rattle.rebuild_core.specs.declared.plan.TheConstants.{MAX_UPDATES}

-- the map that a handle holds, if it holds one
abbrev pub map_in : Option Content → Option StateAt
map_in None = None
map_in (Some (content.Map s)) = Some s
map_in (Some (content.View v)) = None
map_in (Some (content.Job w)) = None
map_in (Some (content.Built b)) = None
map_in (Some (content.Frozen m)) = None
map_in (Some content.Nothing) = None

-- the handle holds a new map of these sizes
abbrev pub IsNew : ℕ → ℕ → Option Content → Type 0
IsNew voxel large c = map_in c ≡ Some (new_state (record { voxel = voxel; large = large }))

-- The handle held a map, which had room for the update, and holds it after that.
pub record IsUpdated (u : Update) (old new : Option Content) : Type 0 where
  pub before : StateAt
  pub after : StateAt
  pub held : map_in old ≡ Some before
  pub holds : map_in new ≡ Some after
  pub room : HasRoom u before
  pub step : IsUpdateStep 1 u before after

-- the handle holds a map that has all the updates that a map may have
abbrev pub HasAllUpdates : Option Content → Type 0
HasAllUpdates c = (s : StateAt) × (map_in c ≡ Some s) × (length s.history ≡ MAX_UPDATES)

-- the handle holds a map for which the points of the update would be too many
abbrev pub HasTooMany : Update → Option Content → Type 0
HasTooMany u c = (s : StateAt) × (map_in c ≡ Some s) × (length s.history < MAX_UPDATES) × (MAX_POINTS < s.next + points_in u)

-- why an update is refused
abbrev pub IsUpdateRefusal : Update → Option Content → ℤ → Type 0
IsUpdateRefusal u c status =
    ((status ≡ empty) × (map_in c ≡ None))
    ⊎ ((status ≡ too_many_updates) × HasAllUpdates c)
    ⊎ ((status ≡ too_many_points) × HasTooMany u c)
    ⊎ (status ≡ no_memory)

-- why no map is made
abbrev pub IsNewRefusal : ℕ → ℕ → Option Content → ℤ → Type 0
IsNewRefusal voxel large c status =
    ((status ≡ full) × (c ≡ None → ⊥))
    ⊎ ((status ≡ bad_number) × (AreSizes (record { voxel = voxel; large = large }) → ⊥))
    ⊎ (status ≡ no_memory)

-- why an update by these points is refused: one of them is out of range, or the update is refused
abbrev pub IsPointsRefusal : Update → List Point → Option Content → ℤ → Type 0
IsPointsRefusal u ps c status = IsNoList out_of_range (HasWrongPoint ps) status ⊎ IsUpdateRefusal u c status

-- why an update by these boxes is refused: one of them is none, or the update is refused
abbrev pub IsBoxesRefusal : Update → List Bounds → Option Content → ℤ → Type 0
IsBoxesRefusal u bs c status = IsNoList bad_box (HasWrongBox bs) status ⊎ IsUpdateRefusal u c status

-- The update is made, or a status says why not, and then the handle holds what it held.
pub record IsAnswer (u : Update) (old new : Option Content) (status : ℤ) : Type 0 where
  pub made : status ≡ done → IsUpdated u old new
  pub refused : status ≢ done → IsUpdateRefusal u old status
  pub same : status ≢ done → new ≡ old

-- `IsAnswer`, of an update by these points
pub record IsPointsAnswer (u : Update) (ps : List Point) (old new : Option Content) (status : ℤ) : Type 0 where
  pub made : status ≡ done → IsUpdated u old new
  pub range : status ≡ done → All IsRightPoint ps
  pub refused : status ≢ done → IsPointsRefusal u ps old status
  pub same : status ≢ done → new ≡ old

-- `IsAnswer`, of an update by these boxes
pub record IsBoxesAnswer (u : Update) (bs : List Bounds) (old new : Option Content) (status : ℤ) : Type 0 where
  pub made : status ≡ done → IsUpdated u old new
  pub range : status ≡ done → All IsRightBox bs
  pub refused : status ≢ done → IsBoxesRefusal u bs old status
  pub same : status ≢ done → new ≡ old
