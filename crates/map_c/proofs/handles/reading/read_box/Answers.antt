use Rattle.std.proofs.Common.{refl}
use Rattle.map_c.proofs.Made.{box_is}
use Rattle.map_c.proofs.handles.reading.read_box.Goals as goal

pub returns-in-Ok-clause-ok : goal.returns-in-Ok-clause-ok
returns-in-Ok-clause-ok c = rw (box_is c.read_corner.result c.read_corner-2.result _ _ c.new.ensures.exact c.in-Ok.is, c.read_corner.ensures, c.read_corner-2.ensures) refl
