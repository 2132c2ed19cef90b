use Rattle.std.proofs.Common.{◌≡◌, All, map, take}
use Rattle.map_c.proofs.handles.reading.read_all.Given as goal

abbrev pub invariant-loop-one : goal.invariant-loop-one
invariant-loop-one g l = (l.made ≡ map g.T.FromC.of_c (take l.one-index l.all)) × All g.T.FromC.is_right (take l.one-index l.all)
