-- What a call returns.
use Rattle.std.specs.Prelude.{◌≡◌, ◌⊎◌, ℤ, pos, Result, Ok, Err}
use Rattle.map_c.specs.declared.handles.refusal.Refusal.{Refusal}
use Rattle.map_c.specs.declared.handles.refusal.Refusal.TheVariants as refusal
use Rattle.rebuild_parts.specs.declared.fault.StateFault.{StateFault}
use Rattle.rebuild_parts.specs.declared.fault.StateFault.TheVariants as fault

-- the call did what it promises
abbrev pub done : ℤ
done = pos 0

-- there was no memory
abbrev pub no_memory : ℤ
no_memory = pos 1

-- a handle doesn't hold what it should
abbrev pub empty : ℤ
empty = pos 2

-- a handle that should be empty holds something
abbrev pub full : ℤ
full = pos 3

-- a number is not one that the call takes
abbrev pub bad_number : ℤ
bad_number = pos 4

-- an array is too short
abbrev pub no_room : ℤ
no_room = pos 5

-- a number of a place is out of range
abbrev pub out_of_range : ℤ
out_of_range = pos 6

-- a number of a box is out of range, or one of hi is below that of lo
abbrev pub bad_box : ℤ
bad_box = pos 7

-- the map has 1,048,576 updates, and gets no more
abbrev pub too_many_updates : ℤ
too_many_updates = pos 8

-- more than 4,194,304 points would have been submitted
abbrev pub too_many_points : ℤ
too_many_points = pos 9

-- no subtree is to be rebuilt
abbrev pub nothing_to_detach : ℤ
nothing_to_detach = pos 10

-- the built subtree's place in the map is there no more
abbrev pub stale : ℤ
stale = pos 11

-- more than 64 operations are pending on the built subtree
abbrev pub behind : ℤ
behind = pos 12

-- the status of each refusal
abbrev pub code : Refusal → ℤ
code refusal.NoMemory = no_memory
code refusal.Empty = empty
code refusal.Full = full
code refusal.BadNumber = bad_number
code refusal.NoRoom = no_room
code refusal.OutOfRange = out_of_range
code refusal.BadBox = bad_box
code refusal.TooManyUpdates = too_many_updates
code refusal.TooManyPoints = too_many_points
code refusal.NothingToDetach = nothing_to_detach
code refusal.Stale = stale
code refusal.Behind = behind

-- the status of a call that did what it promises, or was refused
abbrev pub c_status : Result (Unit {0}) Refusal → ℤ
c_status (Ok ended) = done
c_status (Err r) = code r

-- how a call says why an update is refused
abbrev pub refusal_of : StateFault → Refusal
refusal_of fault.NoMemory = refusal.NoMemory
refusal_of (fault.TooManyUpdates len) = refusal.TooManyUpdates
refusal_of (fault.TooManyPoints next asked) = refusal.TooManyPoints

-- a list isn't read: it has a wrong one, and the status says so, or there is no memory
abbrev pub IsNoList : ℤ → Type 0 → ℤ → Type 0
IsNoList wrong cause status = ((status ≡ wrong) × cause) ⊎ (status ≡ no_memory)
