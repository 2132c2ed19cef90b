-- Maps that are renewed.
use Rattle.std.specs.Prelude.{◌≡◌, ◌⊎◌, ℕ, ℤ, length, Option, None, Some}
use Rattle.map_items.specs.Sizes.{Sizes, AreSizes}
use Rattle.map_items.specs.Contents.{live_items}
use Rattle.kd_tree.specs.Contents.{contents}
use Rattle.rebuild_parts.specs.Seen.{VersionAt}
use Rattle.rebuild_core.specs.Lawful.{StateAt}
use Rattle.map_renewal.specs.Renewed.{points_of, renewed_items, suspended_items}
use Rattle.map_c.specs.Answers.{shown_in}
use Rattle.map_c.specs.Status.{bad_number, empty, full, no_memory}
use Rattle.map_c.specs.declared.handles.content.Content.{Content}
use Rattle.map_c.specs.declared.handles.content.Content.TheVariants as content

-- the content is a map of these sizes that holds what the version holds, renewed
pub record IsRenewedOf (sizes : Sizes) (v : VersionAt) (c : Content) : Type 0 where
  pub state : StateAt
  pub is : c ≡ content.Map state
  pub settings : state.settings ≡ sizes
  pub held : contents state.tree ≡ renewed_items (contents v.tree)
  pub next : state.next ≡ length (contents v.tree)
  pub live : points_of (live_items (contents state.tree)) ≡ points_of (live_items (contents v.tree))
  pub suspended : points_of (suspended_items (contents state.tree)) ≡ points_of (suspended_items (contents v.tree))

-- The first handle shows a version, and the second holds a map of these sizes that holds the same points.
pub record IsRenewed (voxel large : ℕ) (c new : Option Content) : Type 0 where
  pub version : VersionAt
  pub shown : shown_in c ≡ Some version
  pub sizes : AreSizes (record { voxel = voxel; large = large })
  pub made : Content
  pub holds : new ≡ Some made
  pub renewed : IsRenewedOf (record { voxel = voxel; large = large }) version made

-- why it isn't made into a handle that held this
abbrev pub IsRenewRefusal : ℕ → ℕ → Option Content → Option Content → ℤ → Type 0
IsRenewRefusal voxel large c was status =
    ((status ≡ full) × (was ≡ None → ⊥))
    ⊎ ((status ≡ empty) × (shown_in c ≡ None))
    ⊎ ((status ≡ bad_number) × (AreSizes (record { voxel = voxel; large = large }) → ⊥))
    ⊎ (status ≡ no_memory)
