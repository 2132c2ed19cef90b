-- The lines that spell an update.
use Rattle.std.specs.Prelude.{ℕ, zero, suc, ◌+◌, ◌*◌, ◌/◌, min, List, [], ◌∷◌, ◌++◌, length, map, take, drop}
use Rattle.std.specs.List.{AllByRecursion, flat_map}
use Rattle.map_items.specs.Fold.{points_in}
use Rattle.map_items.specs.declared.entry.Entry.{Entry}
use Rattle.map_items.specs.declared.limits.TheConstants.{MAX_POINTS}
use Rattle.map_items.specs.declared.update.Update.{Update}
use Rattle.map_items.specs.declared.update.Update.TheVariants.{Add, Thin, Delete, Suspend, Restore, Expire}
use Rattle.scan_log.specs.Scripts.{IsCaller, IsCallerBox, IsScannedPlace}
use Rattle.scan_log.specs.declared.command.Command.{Command}
use Rattle.scan_log.specs.declared.command.Command.TheVariants.{Change}
use Rattle.scan_log.specs.declared.format.Format.TheVariants.{Two}

-- how many pieces of at most 262,144 a list of this length is cut into
abbrev pub piece_count : ℕ → ℕ
piece_count n = (n + 262143) / 262144

-- the piece with this number, from 0
abbrev pub piece : {X : Type 0} → ℕ → List X → List X
piece number xs = take 262144 (drop (number * 262144) xs)

-- how many lines spell the update: one for each piece of its points or boxes, none where it has none, and one for a number
abbrev pub line_count : Update → ℕ
line_count (Add ps) = piece_count (length ps)
line_count (Thin ps) = piece_count (length ps)
line_count (Delete cs) = piece_count (length cs)
line_count (Suspend cs) = piece_count (length cs)
line_count (Restore cs) = piece_count (length cs)
line_count (Expire n) = 1

-- what the line with this number spells. A number above those that points may have drops what the greatest of them drops.
abbrev pub part_of : Update → ℕ → Update
part_of (Add ps) number = Add (piece number ps)
part_of (Thin ps) number = Thin (piece number ps)
part_of (Delete cs) number = Delete (piece number cs)
part_of (Suspend cs) number = Suspend (piece number cs)
part_of (Restore cs) number = Restore (piece number cs)
part_of (Expire n) number = Expire (min n MAX_POINTS)

-- the parts before this number, in order
abbrev pub first_parts : ℕ → Update → List Update
first_parts zero u = []
first_parts (suc number) u = first_parts number u ++ part_of u number ∷ []

-- an entry's lines: the parts of its update, each as the caller's
abbrev pub line_of : Entry → List Command
line_of e = map (λ u. Change e.caller u) (first_parts (line_count e.update) e.update)

-- the lines of the entries, in order
abbrev pub lines_of : List Entry → List Command
lines_of h = flat_map line_of h

-- each point or box is one that a log has
abbrev pub HasLines : Update → Type 0
HasLines (Add ps) = AllByRecursion (IsScannedPlace Two) ps
HasLines (Thin ps) = AllByRecursion (IsScannedPlace Two) ps
HasLines (Delete cs) = AllByRecursion (IsCallerBox Two) cs
HasLines (Suspend cs) = AllByRecursion (IsCallerBox Two) cs
HasLines (Restore cs) = AllByRecursion (IsCallerBox Two) cs
HasLines (Expire n) = Unit {0}

-- how many points the entries submit
abbrev pub submitted_by : List Entry → ℕ
submitted_by [] = 0
submitted_by (e ∷ es) = points_in e.update + submitted_by es

-- an entry is a caller's
abbrev pub IsByCaller : Entry → Type 0
IsByCaller e = IsCaller e.caller
