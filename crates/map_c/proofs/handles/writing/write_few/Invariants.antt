use Rattle.std.proofs.Common.{◌≡◌, ◌+◌, ◌++◌, map, take}
use Rattle.map_c.specs.Answers.{c_hit}
use Rattle.map_c.proofs.handles.writing.write_few.Given as goal

abbrev pub invariant-loop-i : goal.invariant-loop-i
invariant-loop-i l = take (l.at + l.i) l.hits ≡ take l.at l.fn.hits ++ map c_hit (take l.i l.found)
