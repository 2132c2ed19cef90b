-- Cells that were found, as hits. Cited by private functions alone.
use Rattle.std.specs.Prelude.{List, map}
use Rattle.map_fold.specs.declared.hits.Hit.{Hit}
use Rattle.kd_frozen.specs.declared.shortlist.Near.{Near}

-- a hit at the cell, as far as that is
abbrev pub hit_at : Near → Hit
hit_at n = record { number = n.cell.number; point = n.cell.point; dist2 = n.dist2 }

abbrev pub hits_of : List Near → List Hit
hits_of m = map hit_at m
