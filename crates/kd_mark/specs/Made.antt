-- How many nodes an action makes, where nothing is rebuilt.
use Rattle.std.specs.Prelude.{ℕ, ◌+◌, if◌then◌else◌}
use Rattle.map_items.specs.declared.choice.Choice.{Choice}
use Rattle.kd_mark.specs.Reach.{covers, meets, reach_of}
use Rattle.kd_tree.specs.Shape.{Shape, leaf, fork}
use Rattle.kd_mark.specs.Mark.{is_entered}

-- the nodes that the box enters: it meets what is there and doesn't cover it, and so it is with each node above
unfoldable pub entered_mark : Choice → Shape → ℕ
entered_mark c leaf = 0
entered_mark c (fork h l r) = if is_entered c (reach_of h l r) then 1 + (entered_mark c l + entered_mark c r) else 0

-- the nodes that an action in the box makes at most: three for each that is entered, and one for each that is covered
unfoldable pub made_mark : Choice → Shape → ℕ
made_mark c leaf = 0
made_mark c (fork h l r) = if meets c (reach_of h l r) then (if covers c (reach_of h l r) then 1 else 3 + (made_mark c l + made_mark c r)) else 0
