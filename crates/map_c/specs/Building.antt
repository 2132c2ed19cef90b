-- What building and replaying leave in handles.
use Rattle.std.specs.Prelude.{◌≡◌, ◌⊎◌, ℤ, [], Option, None, Some}
use Rattle.rebuild_parts.specs.Built.{BuiltAt, IsBuiltOf, IsReplayOf}
use Rattle.map_c.specs.declared.handles.content.Content.{Content}
use Rattle.map_c.specs.declared.handles.content.Content.TheVariants as content
use Rattle.map_c.specs.declared.handles.detached_job.DetachedJob.{DetachedJob}
use Rattle.map_c.specs.BuiltSubtree.{BuiltSubtreeAt}
use Rattle.map_c.specs.Status.{empty, full, no_memory}

-- the job that a handle holds, if it holds one
abbrev pub job_in : Option Content → Option DetachedJob
job_in None = None
job_in (Some (content.Map s)) = None
job_in (Some (content.View v)) = None
job_in (Some (content.Job w)) = Some w
job_in (Some (content.Built b)) = None
job_in (Some (content.Frozen m)) = None
job_in (Some content.Nothing) = None

-- the built subtree that a handle holds, if it holds one
abbrev pub built_in : Option Content → Option BuiltSubtreeAt
built_in None = None
built_in (Some (content.Map s)) = None
built_in (Some (content.View v)) = None
built_in (Some (content.Job w)) = None
built_in (Some (content.Built b)) = Some b
built_in (Some (content.Frozen m)) = None
built_in (Some content.Nothing) = None

-- The handle held a job, and the other holds the subtree that was built of it, with nothing to be done on it next.
pub record IsJobBuilt (job built : Option Content) : Type 0 where
  pub detached : DetachedJob
  pub of : BuiltAt
  pub held : job_in job ≡ Some detached
  pub holds : built ≡ Some (content.Built (record { built = of; left = []; large = detached.large }))
  pub made : IsBuiltOf detached.job of

-- why it isn't built into a handle that held this
abbrev pub IsBuildRefusal : Option Content → Option Content → ℤ → Type 0
IsBuildRefusal job was status =
    ((status ≡ full) × (was ≡ None → ⊥))
    ⊎ ((status ≡ empty) × (job_in job ≡ None))
    ⊎ (status ≡ no_memory)

-- The handle held a built subtree, and what was to be done on it next is done.
pub record IsReplayed (old new : Option Content) : Type 0 where
  pub before : BuiltSubtreeAt
  pub after : BuiltAt
  pub held : built_in old ≡ Some before
  pub holds : new ≡ Some (content.Built (record { built = after; left = []; large = before.large }))
  pub done : IsReplayOf before.built before.left after

-- why it isn't done
abbrev pub IsReplayRefusal : Option Content → ℤ → Type 0
IsReplayRefusal c status = ((status ≡ empty) × (built_in c ≡ None)) ⊎ (status ≡ no_memory)
