-- What a counter of nodes is begun with.
use Rattle.std.specs.Prelude.{◌≡◌, ℕ, ◌<◌}
use Rattle.std.specs.declared.sync.ledger.Blank.{Blank}

-- the blank is that of a ledger of the name n and of m parts, and there is at least one part
pub record IsBlankOf (n m : ℕ) (blank : Blank) : Type 0 where
  pub name : blank.name ≡ n
  pub parts : blank.parts ≡ m
  pub some : 0 < blank.parts
