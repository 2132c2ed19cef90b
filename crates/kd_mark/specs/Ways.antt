-- At most four paths, as the code has them.
use Rattle.std.specs.Prelude.{List, [], ◌∷◌, ◌++◌, Option, Some, None}
use Rattle.std.specs.Borrow.{Bor}
use Rattle.kd_tree.specs.declared.path.Side.{Side}
use Rattle.kd_mark.specs.declared.ways.Watched.{Watched}

-- the path as a list, or an empty list where there is none
abbrev pub way_of : Option (Bor (List Side)) → List (List Side)
way_of None = []
way_of (Some p) = p.now ∷ []

-- the paths that there are, in order
abbrev pub paths_of : Watched → List (List Side)
paths_of w = way_of w.first ++ (way_of w.second ++ (way_of w.third ++ way_of w.fourth))
