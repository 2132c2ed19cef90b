-- How the lines of a transcript begin, and the marks that they spell.
use Rattle.std.specs.Prelude.{◌≡◌, ℕ, ◌≤◌, List, [], ◌∷◌, ◌++◌, codes, decimal}
use Rattle.std.specs.List.{AllByRecursion}
use Rattle.std.specs.declared.option.Option.{Option}
use Rattle.std.specs.declared.option.Option.TheVariants.{None, Some}
use Rattle.log_numbers.specs.Numerals.{first_field}
use Rattle.scan_log.specs.declared.command.Command.{Command}
use Rattle.scan_log.specs.declared.command.Command.TheVariants.{Change, Near, Nears, Inside, Ball, Lonely, Clusters, Pose, Sync}
use Rattle.scan_log.specs.declared.commands.TheConstants.{MAX_COMMANDS}
use Rattle.scan_log.specs.Spelling.{caller_field}

-- how the line of the reply to a command begins, or the one at the end
abbrev pub head : Option Command → List ℕ
head (Some (Change caller u)) = caller_field caller ++ codes " ok "
head (Some (Near caller k p within)) = caller_field caller ++ codes " near "
head (Some (Nears caller k ps)) = caller_field caller ++ codes " nears "
head (Some (Inside caller k c)) = caller_field caller ++ codes " box "
head (Some (Ball caller k r p)) = caller_field caller ++ codes " ball "
head (Some (Lonely caller k r)) = caller_field caller ++ codes " lonely "
head (Some (Clusters caller k r)) = caller_field caller ++ codes " clusters "
head (Some (Pose caller rules p)) = caller_field caller ++ codes " ok "
head (Some Sync) = codes "sync "
head None = codes "end "

-- how each line begins, in order: that of each command, and that of the end
abbrev pub heads : List Command → List (List ℕ)
heads [] = head None ∷ []
heads (c ∷ cs) = head (Some c) ∷ heads cs

-- The line begins with the head, and the field behind is the one spelling of a mark.
pub record SpellsMark (head line : List ℕ) (m : ℕ) : Type 0 where
  pub behind : List ℕ
  pub begun : line ≡ head ++ behind
  pub number : first_field behind ≡ decimal m
  pub few : m ≤ MAX_COMMANDS

-- the byte is no line feed
abbrev pub IsNoFeed : ℕ → Type 0
IsNoFeed b = b ≡ 10 → ⊥

-- The bytes are one line, ended by its line feed, and it spells the mark.
pub record IsMarked (head bytes : List ℕ) (m : ℕ) : Type 0 where
  pub line : List ℕ
  pub ended : bytes ≡ line ++ 10 ∷ []
  pub one : AllByRecursion IsNoFeed line
  pub spelled : SpellsMark head line m

-- each line is there, begins with the head in its place, and spells the mark there
abbrev pub SpellMarks : List (List ℕ) → List (List ℕ) → List ℕ → Type 0
SpellMarks (head ∷ heads) (line ∷ lines) (m ∷ marks) = IsMarked head line m × SpellMarks heads lines marks
SpellMarks [] [] [] = Unit {0}
SpellMarks heads lines marks = ⊥
