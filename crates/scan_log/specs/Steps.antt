-- Steps that may be refused.
use Rattle.std.specs.Prelude.{Bool, if◌then◌else◌}
use Rattle.std.specs.declared.result.Result.{Result}
use Rattle.std.specs.declared.result.Result.TheVariants.{Ok, Err}

-- a step, and then one that takes its value
infixl 10 ◌>>=◌
abbrev pub ◌>>=◌ : {A B E : Type 0} → Result A E → (A → Result B E) → Result B E
(Ok x) >>= next = next x
(Err e) >>= next = Err e

-- a step that is refused for this cause, unless the test passes
abbrev pub given : {A E : Type 0} → Bool → E → Result A E → Result A E
given test cause step = if test then step else Err cause
