-- The lines of a log, and the fields of a line.
use Rattle.std.specs.Prelude.{ℕ, ◌+◌, Bool, false, not, ◌==◌, List, [], ◌∷◌, filter, if◌then◌else◌}
use Rattle.std.specs.List.{onto_first, slice_split}

-- what is before each line feed, and after the last one where that isn't empty
abbrev pub lines_of : List ℕ → List (List ℕ)
lines_of [] = []
lines_of (b ∷ bytes) = if b == 10 then [] ∷ lines_of bytes else onto_first b (lines_of bytes)

-- a line is kept unless it is empty or begins with #
abbrev pub is_kept_line : List ℕ → Bool
is_kept_line [] = false
is_kept_line (b ∷ bytes) = not (b == 35)

-- the lines that are kept, each with its number, where the first has the number n
abbrev pub kept_from : ℕ → List (List ℕ) → List (ℕ × List ℕ)
kept_from n [] = []
kept_from n (line ∷ lines) = if is_kept_line line then (n, line) ∷ kept_from (n + 1) lines else kept_from (n + 1) lines

-- the lines that are kept
abbrev pub kept_lines : List ℕ → List (List ℕ)
kept_lines bytes = filter is_kept_line (lines_of bytes)

-- what is before, between and after the spaces
abbrev pub fields_of : List ℕ → List (List ℕ)
fields_of line = slice_split (λ b. b == 32) line
