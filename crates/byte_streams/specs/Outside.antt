-- What reads and writes do to a source and a sink, and when they may fail.
use Rattle.std.specs.Prelude.{◌≤◌, ◌+◌, ◌-◌, ◌^◌, ℕ, min, Bool, false, ◌&&◌, ◌==◌, nat_lt, List, length, take, Result, Ok, Err, IsErrOf}
use Rattle.std.specs.declared.option.Option.{Option}
use Rattle.std.specs.Io.KnownBytes.{Appends, Consumes}

-- a count that is one higher, or stays at its type's end
abbrev pub one_higher : ℕ → ℕ
one_higher n = min (n + 1) (2 ^ 64 - 1)

-- a count rose, or is at its type's end
abbrev pub Rose : ℕ → ℕ → Type 0
Rose before now = one_higher before ≤ now

-- no failure came between: the count didn't rise, and is below its type's end
abbrev pub NoFault : ℕ → ℕ → Type 0
NoFault before now = Rose before now → ⊥

-- a count never falls, and a failure comes only where it rose
pub record HasCause {T E : Type 0} (failed : E) (before now : ℕ) (result : Result T E) : Type 0 where
  pub later : before ≤ now
  pub rose : IsErrOf result failed → Rose before now

-- a read with room that gave nothing
abbrev pub is_end : {E : Type 0} → Result ℕ E → ℕ → Bool
is_end (Ok n) room = (n == 0) && nat_lt 0 room
is_end (Err e) room = false

-- `many` holds of how many bytes were read, where they are shown
abbrev pub HasRead : Option (List ℕ) → Option (List ℕ) → (ℕ → Type 0) → Type 0
HasRead left left_after many = (bytes : List ℕ) × Consumes left left_after bytes × many (length bytes)

-- a prefix of the bytes was appended
abbrev pub AppendsFront : Option (List ℕ) → Option (List ℕ) → List ℕ → Type 0
AppendsFront old new bytes = (n : ℕ) × Appends old new (take n bytes)
