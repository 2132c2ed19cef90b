-- What the words ask for.
use Rattle.std.specs.Prelude.{◌≡◌, ◌≤◌, ◌+◌, ◌⊎◌, ℕ, List, [], ◌∷◌, map, codes, decimal, take, String}
use Rattle.std.specs.String.{string_bytes}
use Rattle.mapper_base.specs.declared.command_line.words.Ask.{Ask}
use Rattle.mapper_base.specs.declared.command_line.words.Ask.TheVariants.{Run, Serial, Make, Drive, Check}

-- the bytes of each word
abbrev pub texts : {A : Type 0} → List (String A) → List (List ℕ)
texts words = map (λ w. string_bytes w) words

-- the words that ask for it
abbrev pub spelled : Ask → List (List ℕ)
spelled Run = codes "run" ∷ []
spelled Serial = codes "run" ∷ codes "--serial" ∷ []
spelled (Make n) = codes "make" ∷ decimal n ∷ []
spelled (Drive n) = codes "drive" ∷ decimal n ∷ []
spelled (Check n) = codes "check" ∷ decimal n ∷ []

-- from 1 to 200 scans are generated
abbrev pub IsScanCount : ℕ → Type 0
IsScanCount n = (1 ≤ n) × (n ≤ 200)

-- a log may have n bytes
abbrev pub IsLogLength : ℕ → Type 0
IsLogLength n = n ≤ 268435456

-- n scans can be generated, or n bytes can be a log
abbrev pub CanBeDone : Ask → Type 0
CanBeDone Run = Unit {0}
CanBeDone Serial = Unit {0}
CanBeDone (Make n) = IsScanCount n
CanBeDone (Drive n) = IsScanCount n
CanBeDone (Check n) = IsLogLength n

-- the words ask for it, and it can be done
abbrev pub Asks : Ask → List (List ℕ) → Type 0
Asks a words = CanBeDone a × (words ≡ spelled a)

-- a log is read for it
abbrev pub IsOfLog : Ask → Type 0
IsOfLog Run = Unit {0}
IsOfLog Serial = Unit {0}
IsOfLog (Make n) = ⊥
IsOfLog (Drive n) = ⊥
IsOfLog (Check n) = Unit {0}

-- the words ask for it, and a log is read for it
abbrev pub AskOfLog : Ask → List (List ℕ) → Type 0
AskOfLog a words = Asks a words × IsOfLog a

-- the words ask for something for which a log is read
abbrev pub AskForLog : List (List ℕ) → Type 0
AskForLog words = (a : Ask) × AskOfLog a words

-- the words ask for a run of the log
abbrev pub AskForRun : List (List ℕ) → Type 0
AskForRun words = Asks Run words ⊎ Asks Serial words

-- the words ask for generated scans, for which no log is read
abbrev pub AskForScans : List (List ℕ) → Type 0
AskForScans words = (n : ℕ) × (Asks (Make n) words ⊎ Asks (Drive n) words)

-- the words ask for nothing that can be done
abbrev pub AskNothing : List (List ℕ) → Type 0
AskNothing words = (a : Ask) → Asks a words → ⊥

-- the part of the input that is the log: all of it, or the first bytes, of which there may be fewer
abbrev pub log_of : Ask → List ℕ → List ℕ
log_of Run input = input
log_of Serial input = input
log_of (Make n) input = input
log_of (Drive n) input = input
log_of (Check n) input = take n input

-- the most bytes that the input may have: those of a log, and behind the first ones as many of a transcript
abbrev pub most_of : Ask → ℕ
most_of Run = 268435456
most_of Serial = 268435456
most_of (Make n) = 268435456
most_of (Drive n) = 268435456
most_of (Check n) = n + 268435456
