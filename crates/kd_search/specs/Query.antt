-- What may be asked for.
use Rattle.std.specs.Prelude.{ℕ, ◌≤◌, Option}
use Rattle.map_items.specs.declared.limits.TheConstants.{MAX_FOUND, MAX_WITHIN}
use Rattle.std.specs.Option.{ForSome}

-- 1 to 256 points or groups of them, and a distance, if there is one, of at most 2^42 millimetres
pub record IsQuery (k : ℕ) (within : Option ℕ) : Type 0 where
  pub some : 1 ≤ k
  pub most : k ≤ MAX_FOUND
  pub near : ForSome within (λ r. r ≤ MAX_WITHIN)
