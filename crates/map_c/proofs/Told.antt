-- What a refused question returns.
use Rattle.std.proofs.Common.{◌≡◌, ℤ, Option, to_z, of_z, w32, rules}
use Rattle.map_c.specs.declared.handles.content.Content.{Content}
use Rattle.map_c.specs.declared.handles.refusal.Refusal.{Refusal}
use Rattle.map_c.specs.Answers.{IsTold}
use Rattle.map_c.specs.Status.{code}

-- A question that is refused so, with nothing counted. No refusal's status is that of a call that is done, and each crosses to C as
-- it is: the search sees both, refusal by refusal.
pub refused_told : (Found : Type 0) (Refused : ℤ → Type 0) (old new : Option Content) (r : Refusal) (s : ℤ) → s ≡ code r → Refused (code r) → new ≡ old
    → IsTold Found Refused old new 0 (to_z w32 (of_z w32 s))
refused_told Found Refused old new r s e why same = search rules
