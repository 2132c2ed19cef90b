-- What detaching and swapping leave in handles.
use Rattle.std.specs.Prelude.{◌≡◌, ◌<◌, ◌⊎◌, ℕ, ℤ, Bool, false, length, Option, None, Some}
use Rattle.rebuild_core.specs.Known.{IsPartOf, IsStale, undone}
use Rattle.rebuild_core.specs.Detach.{IsDetachStep, IsNoDetach, IsSlot}
use Rattle.rebuild_core.specs.Lawful.{StateAt}
use Rattle.kd_update.specs.Detached.{PartAt}
use Rattle.rebuild_core.specs.Swap.{IsSwapStep, MaySwap}
use Rattle.rebuild_parts.specs.declared.fault.SwapFault.{SwapFault}
use Rattle.rebuild_parts.specs.declared.fault.SwapFault.TheVariants as fault
use Rattle.map_c.specs.declared.handles.content.Content.{Content}
use Rattle.map_c.specs.declared.handles.content.Content.TheVariants as content
use Rattle.map_c.specs.declared.handles.detached_job.DetachedJob.{DetachedJob}
use Rattle.map_c.specs.Building.{built_in}
use Rattle.map_c.specs.BuiltSubtree.{BuiltSubtreeAt}
use Rattle.map_c.specs.Status.{bad_number, behind, empty, full, no_memory, nothing_to_detach, stale}
use Rattle.map_c.specs.Maps.{map_in}
use Rattle.rebuild_parts.specs.declared.fault.TheConstants.{MAX_UNFORCED}

-- The handle held a map, and holds it with a subtree detached into the slot, of which the other handle holds the job.
pub record IsDetached (slot : ℕ) (old new job : Option Content) : Type 0 where
  pub before : StateAt
  pub after : StateAt
  pub held : map_in old ≡ Some before
  pub holds : map_in new ≡ Some after
  pub detached : DetachedJob
  pub out : job ≡ Some (content.Job detached)
  pub large : detached.large ≡ before.settings.large
  pub step : IsDetachStep slot before detached.job after

-- the handle holds a map of which nothing is to be detached into the slot
abbrev pub HasNoDetach : ℕ → Option Content → Type 0
HasNoDetach slot c = (s : StateAt) × (map_in c ≡ Some s) × IsNoDetach slot s

-- why nothing is detached into a handle that held this
abbrev pub IsDetachRefusal : ℕ → Option Content → Option Content → ℤ → Type 0
IsDetachRefusal slot c was status =
    ((status ≡ full) × (was ≡ None → ⊥))
    ⊎ ((status ≡ bad_number) × (IsSlot slot → ⊥))
    ⊎ ((status ≡ empty) × (map_in c ≡ None))
    ⊎ ((status ≡ nothing_to_detach) × HasNoDetach slot c)
    ⊎ (status ≡ no_memory)

-- The handle held a map, and holds it with the built subtree swapped in that the other held.
pub record IsSwapped (force : Bool) (old new built : Option Content) : Type 0 where
  pub before : StateAt
  pub after : StateAt
  pub held : map_in old ≡ Some before
  pub holds : map_in new ≡ Some after
  pub value : BuiltSubtreeAt
  pub given : built_in built ≡ Some value
  pub may : MaySwap value.built force before
  pub step : IsSwapStep value.built before after

-- the built subtree is of no detached subtree of the map
abbrev pub IsStaleIn : Option Content → Option Content → Type 0
IsStaleIn c built = (s : StateAt) × (map_in c ≡ Some s) × (d : BuiltSubtreeAt) × (built_in built ≡ Some d) × IsStale d.built s.parts

-- The swap wasn't forced, and more than 64 operations are pending on the built subtree.
pub record IsBehindIn (force : Bool) (c built : Option Content) : Type 0 where
  pub state : StateAt
  pub held : map_in c ≡ Some state
  pub value : BuiltSubtreeAt
  pub given : built_in built ≡ Some value
  pub unforced : force ≡ false
  pub part : PartAt
  pub of : IsPartOf value.built state.parts part
  pub many : MAX_UNFORCED < length (undone value.built part)

-- The handle keeps the built subtree, with the remaining operations pending.
pub record IsLeft (c old new : Option Content) : Type 0 where
  pub state : StateAt
  pub held : map_in c ≡ Some state
  pub value : BuiltSubtreeAt
  pub given : built_in old ≡ Some value
  pub part : PartAt
  pub of : IsPartOf value.built state.parts part
  pub holds : new ≡ Some (content.Built (record value { left = undone value.built part }))

-- why it isn't swapped in
abbrev pub IsSwapRefusal : Bool → Option Content → Option Content → ℤ → Type 0
IsSwapRefusal force c built status =
    ((status ≡ empty) × ((map_in c ≡ None) ⊎ (built_in built ≡ None)))
    ⊎ ((status ≡ stale) × IsStaleIn c built)
    ⊎ ((status ≡ behind) × IsBehindIn force c built)
    ⊎ (status ≡ no_memory)

-- the value is refused for being behind
abbrev pub IsBehind : SwapFault → Type 0
IsBehind (fault.Stale ticket) = ⊥
IsBehind (fault.Behind n) = Unit {0}
IsBehind fault.NoMemory = ⊥

-- the value is refused for being stale
abbrev pub IsStaleAs : SwapFault → Type 0
IsStaleAs (fault.Stale ticket) = Unit {0}
IsStaleAs (fault.Behind n) = ⊥
IsStaleAs fault.NoMemory = ⊥
