use Rattle.byte_streams.proofs.Pieces.{front_either}
use Rattle.mapper_base.proofs.notes.tell_line.Goals as goal

pub returns : goal.returns
returns g c = front_either c.write_all.result _ _ _ c.write_all.ensures.all c.write_all.ensures.front
