use Rattle.std.proofs.Common.{◌≡◌, ◌++◌, drop}
use Rattle.kd_mark.specs.Watches.{paths_in}
use Rattle.map_update.proofs.draft.paths_of.Given as goal

abbrev pub invariant-loop-watch : goal.invariant-loop-watch
invariant-loop-watch l = l.paths.items ++ paths_in (drop l.watch-index l.watches) ≡ paths_in l.watches
