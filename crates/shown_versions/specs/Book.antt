-- The book of marks: its pages, and, cited by private functions alone, its rule and what its step shows.
use Rattle.std.specs.Prelude.{ℕ, ◌≡◌, ◌==◌, true, List, [], ◌∷◌, ◌++◌, length, fold, MatchBool, Option, Some, None}
use Rattle.logbook.specs.Pages.{Cell, Step, View, Book, Named}
use Rattle.map_items.specs.declared.entry.Entry.{Entry}
use Rattle.map_items.specs.declared.item.Item.{Item}

-- what a mark is of: a version, which has a history, or a detached subtree, which held items. Either leaves the other list empty.
pub record PageAt : Type 0 where
  pub history : List Entry
  pub items : List Item

-- the list of a value, if there is one
abbrev pub told : {A B : Type 0} → (A → List B) → Option A → List B
told f None = []
told f (Some x) = f x

-- the first word is the number of entries. A book has two words, of which this one leaves the second at 0
abbrev pub IsBookOf : List Cell → List PageAt → Type 0
IsBookOf cells log = cells ≡ (length log, true) ∷ (0, true) ∷ []

-- the name of the book's first word
abbrev pub book_name : Book → Named
book_name b = record { tracked = true; key = 0; book = b }

-- the page was added to all that had been seen; or there were more, and they were seen
abbrev pub Adds : Step PageAt → View PageAt ℕ → ℕ → View PageAt ℕ → Type 0
Adds s v found w = MatchBool (found == s.old) (w.0 ≡ v.0 ++ s.ask ∷ []) (length w.0 ≡ found)

-- a page of no entries and no items; the last page where there is none
abbrev pub blank : PageAt
blank = record { history = []; items = [] }

-- the page that was added last
abbrev pub last_of : List PageAt → PageAt
last_of log = fold (λ _ page. page) blank log
