-- Live points without others near them, and clusters.
use Rattle.std.specs.Prelude.{◌≡◌, ◌<◌, ◌≤◌, ◌⊎◌, ℕ, ℤ, List, map, length, take, Option, None, Some}
use Rattle.map_fold.specs.Clusters.{clusters}
use Rattle.map_fold.specs.Neighbours.{lonely}
use Rattle.map_fold.specs.declared.group.Group.{Group}
use Rattle.kd_tree.specs.Contents.{contents}
use Rattle.rebuild_parts.specs.Seen.{VersionAt}
use Rattle.map_c.specs.Answers.{c_item, shown_in}
use Rattle.map_c.specs.Balls.{IsBallAsked}
use Rattle.map_c.specs.Status.{bad_number, empty, no_memory, no_room}
use Rattle.map_c.specs.declared.handles.content.Content.{Content}
use Rattle.map_c.specs.declared.handles.forms.Cluster.{Cluster}
use Rattle.map_c.specs.declared.handles.forms.Item.{Item}

-- the live points that have no other live one within r millimetres, by number, the first `most` of them, as C has them
abbrev pub lonely_items : VersionAt → ℕ → ℕ → List Item
lonely_items v r most = map c_item (take most (lonely (contents v.tree) r))

-- There are `found` such points, and the first `count` items are the first of them.
pub record AreLonely (c : Option Content) (r most found : ℕ) (items : List Item) (count : ℕ) : Type 0 where
  pub version : VersionAt
  pub shown : shown_in c ≡ Some version
  pub asked : IsBallAsked r most
  pub room : most ≤ length items
  pub all : found ≡ length (lonely (contents version.tree) r)
  pub list : take count items ≡ lonely_items version r most
  pub number : count ≡ length (lonely_items version r most)

-- why they aren't counted
abbrev pub AreLonelyRefusal : Option Content → ℕ → ℕ → ℕ → ℤ → Type 0
AreLonelyRefusal c r most room status =
    ((status ≡ empty) × (shown_in c ≡ None))
    ⊎ ((status ≡ bad_number) × (IsBallAsked r most → ⊥))
    ⊎ ((status ≡ no_room) × (room < most))
    ⊎ (status ≡ no_memory)

-- a cluster as C has it
abbrev pub c_cluster : Group → Cluster
c_cluster g = record { number = g.least; points = g.size }

-- the clusters by steps of r millimetres, by their least numbers, the first `most` of them, as C has them
abbrev pub first_clusters : VersionAt → ℕ → ℕ → List Cluster
first_clusters v r most = map c_cluster (take most (clusters (contents v.tree) r))

-- There are `found` clusters, and the first `count` of the list are the first of them.
pub record AreClusters (c : Option Content) (r most found : ℕ) (groups : List Cluster) (count : ℕ) : Type 0 where
  pub version : VersionAt
  pub shown : shown_in c ≡ Some version
  pub asked : IsBallAsked r most
  pub room : most ≤ length groups
  pub all : found ≡ length (clusters (contents version.tree) r)
  pub list : take count groups ≡ first_clusters version r most
  pub number : count ≡ length (first_clusters version r most)

-- why they aren't counted, as for lonely points
abbrev pub AreClustersRefusal : Option Content → ℕ → ℕ → ℕ → ℤ → Type 0
AreClustersRefusal = AreLonelyRefusal
