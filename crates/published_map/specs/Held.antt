-- What a pass, a map that isn't shared yet, and what the lock guards keep true of themselves.
use Rattle.std.specs.Prelude.{◌≡◌, ℕ, ◌≤◌, List, [], length}
use mathlib.Core.List.{IsPrefix}
use Rattle.std.specs.declared.sync.ledger.Blank.{Blank}
use Rattle.logbook.specs.Pages.{Book}
use Rattle.map_items.specs.declared.entry.Entry.{Entry}
use Rattle.map_items.specs.declared.item.Item.{Item}
use Rattle.shown_versions.specs.Marks.{AreOwnPlaces}
use Rattle.rebuild_core.specs.declared.plan.TheConstants.{MAX_UPDATES}

-- A pass keeps the history of one version, and its reader knows that or more. The marks are the indices of its caller's entries. It
-- has one part of the share, whose amount is how many these are.
pub record IsPass (caller : ℕ) (kept known : List Entry) (marks : List ℕ) (parts amount : ℕ) : Type 0 where
  pub caller_from : 1 ≤ caller
  pub caller_to : caller ≤ 8
  pub reader : IsPrefix kept known
  pub marked : AreOwnPlaces caller kept 0 marks
  pub few : length marks ≤ MAX_UPDATES
  pub part : parts ≡ 1
  pub counted : amount ≡ length marks

-- a map that isn't shared yet: the book that its versions are to be marked in, its callers, its voxels' edge, from how many nodes
-- on a subtree is large, and what it holds
pub record OpenedAt : Type 0 where
  pub marks : Book
  pub callers : ℕ
  pub voxel : ℕ
  pub large : ℕ
  pub held : List Item

-- it has 1 to 8 callers, and no entry
pub record IsOpened (callers : ℕ) (history : List Entry) : Type 0 where
  pub callers_from : 1 ≤ callers
  pub callers_to : callers ≤ 8
  pub none : history ≡ []

-- The blank is that of the ledger of this name and these parts, one for each caller of the map, and the map is the one of these
-- callers, these marks and this edge of voxels.
pub record IsOpenedAs (n m c : ℕ) (b : Book) (v : ℕ) (blank : Blank) (o : OpenedAt) : Type 0 where
  pub name : blank.name ≡ n
  pub parts : blank.parts ≡ m
  pub one_each : blank.parts ≡ o.callers
  pub callers : o.callers ≡ c
  pub marks : o.marks ≡ b
  pub voxel : o.voxel ≡ v

-- Under the lock the published version is that of the stored history, which the writer knows, and all updates are counted. The
-- audit_share has no part, and so nothing.
pub record IsWhole (known shown history : List Entry) (total parts amount : ℕ) : Type 0 where
  pub writer : known ≡ history
  pub published : shown ≡ history
  pub counted : total ≡ length history
  pub no_part : parts ≡ 0
  pub nothing : amount ≡ 0
