-- Several watches at once, and what is logged for them of an action.
use Rattle.std.specs.Prelude.{◌≡◌, ℕ, ◌+◌, ◌≤◌, List, [], ◌∷◌, ◌++◌, length}
use Rattle.map_items.specs.declared.choice.Choice.{Choice}
use Rattle.node_labels.specs.declared.tag.Tag.{Tag}
use Rattle.map_items.specs.Ops.{Extends}
use Rattle.kd_tree.specs.Shape.{Shape}
use Rattle.kd_tree.specs.declared.path.Side.{Side}
use Rattle.kd_mark.specs.declared.watch.Watch.{Watch}
use Rattle.kd_mark.specs.Watch.{logged_mark}
use Rattle.op_logger.specs.declared.log.TheConstants.{MAX_LOGGED}

-- the paths of the watches
abbrev pub paths_in : List Watch → List (List Side)
paths_in [] = []
paths_in (w ∷ ws) = w.path ∷ paths_in ws

-- each log has room for two operations more
abbrev pub HaveRoom : List Watch → Type 0
HaveRoom [] = Unit {0}
HaveRoom (w ∷ ws) = (length w.log + 2 ≤ MAX_LOGGED) × HaveRoom ws

-- the same watches, each log with what the action in the box does to its subtree
abbrev pub with_marks : Choice → Tag → Shape → List Watch → List Watch
with_marks c a t [] = []
with_marks c a t (w ∷ ws) = record w { log = w.log ++ logged_mark c a w.path t } ∷ with_marks c a t ws

-- the same watches in the same order: the paths are the same, and each log begins with what it was
abbrev pub AreExtended : List Watch → List Watch → Type 0
AreExtended [] vs = vs ≡ []
AreExtended (w ∷ ws) [] = ⊥
AreExtended (w ∷ ws) (v ∷ vs) = (v.path ≡ w.path) × Extends w.log v.log × AreExtended ws vs

-- no log has more than n operations more than it had
abbrev pub AreMore : ℕ → List Watch → List Watch → Type 0
AreMore n [] vs = Unit {0}
AreMore n (w ∷ ws) [] = Unit {0}
AreMore n (w ∷ ws) (v ∷ vs) = (length v.log ≤ length w.log + n) × AreMore n ws vs

-- no log has more than two operations more than it had
abbrev pub AreFewMore : List Watch → List Watch → Type 0
AreFewMore ws vs = AreMore 2 ws vs
