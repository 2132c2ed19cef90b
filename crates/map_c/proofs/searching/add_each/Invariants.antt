use Rattle.std.proofs.Common.{◌≡◌, ◌*◌, ◌≤◌, All, length, take}
use Rattle.map_c.specs.Answers.{all_hits, hit_counts}
use Rattle.map_c.specs.Forms.{IsRightPlace}
use Rattle.map_c.proofs.searching.add_each.Given as goal

abbrev pub invariant-loop-i : goal.invariant-loop-i
invariant-loop-i g l =
    (take l.at l.hits ≡ all_hits (g.S.Searched.items l.searched) l.k l.within (take l.i l.places))
    × (l.at ≡ length (all_hits (g.S.Searched.items l.searched) l.k l.within (take l.i l.places)))
    × (take l.i l.counts ≡ hit_counts (g.S.Searched.items l.searched) l.k l.within (take l.i l.places))
    × (l.at ≤ l.i * l.k)
    × All IsRightPlace (take l.i l.places)
