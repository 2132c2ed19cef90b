-- The last marks of all callers.
use Rattle.std.proofs.Common.{◌≡◌, ℕ, ◌≤◌, Bool, true, false, List, ◌∷◌, ◌++◌, Option, Some, None, refl, arith}
use Rattle.map_items.specs.declared.update.Update.{Update}
use Rattle.scan_log.specs.Commands.{Concerns, command_update, is_for}
use Rattle.scan_log.specs.declared.command.Command.{Command}
use Rattle.scan_log.proofs.Whose.{for_concerns}
use Rattle.mapper_core.specs.Mine.{keep_made, updates_by}
use Rattle.mapper_core.specs.Told.{raised}

pub raised_own : (lows : ℕ → ℕ) (c : Command) (m x : ℕ) → is_for x c ≡ true → raised lows c m x ≡ m
raised_own lows c m x is = rw is refl

pub raised_other : (lows : ℕ → ℕ) (c : Command) (m x : ℕ) → is_for x c ≡ false → raised lows c m x ≡ lows x
raised_other lows c m x is = rw is refl

-- marks are raised, or stay
pub raises : (lows : ℕ → ℕ) (c : Command) (m x : ℕ) → (Concerns x c → lows x ≤ m) → lows x ≤ raised lows c m x
raises lows c m x le = by_case (is_for x c) refl
  where
    by_case : (b : Bool) → is_for x c ≡ b → lows x ≤ raised lows c m x
    by_case true is = rw (raised_own lows c m x is) (le (for_concerns x c is))
    by_case false is = rw (raised_other lows c m x is) (omega arith)

-- a command that makes no update is passed over
pub passed_by : (x : ℕ) (c : Command) (cs : List Command) → command_update c ≡ None → updates_by x (c ∷ cs) ≡ updates_by x cs
passed_by x c cs none = rw none refl

-- what is kept comes first
pub keep_append : (b : Bool) (made : Option Update) (us vs : List Update) → keep_made b made (us ++ vs) ≡ keep_made b made us ++ vs
keep_append true (Some u) us vs = refl
keep_append false (Some u) us vs = refl
keep_append b None us vs = refl
