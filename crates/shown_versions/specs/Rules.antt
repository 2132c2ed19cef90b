-- The rule, and what its steps show. A place's view is the list that it knows. Cited by private functions alone.
use Rattle.std.specs.Prelude.{◌≡◌, ℕ, List}
use mathlib.Core.List.{IsPrefix}
use mathlib.Core.Option.{some}
use lib.ListN.{get_elem?}
use Rattle.map_items.specs.declared.entry.Entry.{Entry}

-- what is published begins with what each place knows
abbrev pub Keeps : List Entry → List (List Entry) → Type 0
Keeps x views = (seat : ℕ) (v : List Entry) → get_elem? views seat ≡ some v → IsPrefix v x

-- the writer knows what it published
abbrev pub PublishStep : List Entry → List Entry → List Entry → List Entry → Type 0
PublishStep v x y w = w ≡ y

-- the reader knows what it gets, which begins with what it knew
abbrev pub EnterStep : List Entry → List Entry → List Entry → List Entry → Type 0
EnterStep v x y w = IsPrefix v x × (w ≡ x)

-- the writer knows this history, and it is what is published
abbrev pub IsPublishedAs : List Entry → List Entry → List Entry → Type 0
IsPublishedAs v x h = (v ≡ h) × (x ≡ h)
