-- What is logged for several watches of a point that is put.
use Rattle.std.specs.Prelude.{ℕ, List, [], ◌∷◌, ◌++◌}
use Rattle.point_geom.specs.Place.{Place}
use Rattle.kd_tree.specs.Shape.{Shape}
use Rattle.kd_mark.specs.declared.watch.Watch.{Watch}
use Rattle.kd_update.specs.Watch.{logged_put}

-- the watches, each log with what the point that is put does to its subtree
abbrev pub with_puts : ℕ → Place → Shape → List Watch → List Watch
with_puts n p t [] = []
with_puts n p t (w ∷ ws) = record w { log = w.log ++ logged_put n p w.path t } ∷ with_puts n p t ws
