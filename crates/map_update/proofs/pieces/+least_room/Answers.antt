use Rattle.std.proofs.Common.{arith, subst, sym}
use Rattle.kd_update.specs.Crossing.{HaveRoomAtOnce}
use Rattle.map_update.proofs.pieces.+least_room.Goals as goal

pub returns : goal.returns
returns t c = λ n some le.
    subst (HaveRoomAtOnce n) (sym c.in-Some.ensures.cases.0)
    (omega (arith, some, le, c.min.ensures, c.saturating_sub.ensures, c.room.ensures.sum), c.least_room.ensures n some (omega (arith, le, c.min.ensures)))
