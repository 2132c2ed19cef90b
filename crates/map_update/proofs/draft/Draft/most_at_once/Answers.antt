use Rattle.std.proofs.Common.{arith, subst}
use Rattle.kd_update.specs.Crossing.{HaveRoomAtOnce}
use Rattle.map_update.proofs.draft.Draft.most_at_once.Goals as goal

pub returns-clause-pass : goal.returns-clause-pass
returns-clause-pass c = λ big. record {
  many = omega arith;
  small = omega arith;
  short = omega arith;
  low = omega arith;
  few = omega arith;
  room = subst (HaveRoomAtOnce c.min-count.result) c.as_slice.ensures.value (c.least_room-room.ensures c.min-count.result (omega arith) (omega arith));
}
