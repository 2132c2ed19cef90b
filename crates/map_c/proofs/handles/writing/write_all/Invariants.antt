use Rattle.std.proofs.Common.{◌≡◌, map, take}
use Rattle.map_c.proofs.handles.writing.write_all.Given as goal

abbrev pub invariant-loop-i : goal.invariant-loop-i
invariant-loop-i g l = take l.i l.out ≡ map g.T.ToC.in_c (take l.i l.found)
