use Rattle.std.proofs.Common.{length}
use Rattle.base_tests.proofs.tests.beside.+have_room_at_once.Given as goal

abbrev pub decreases-have_room_at_once : goal.decreases-have_room_at_once
decreases-have_room_at_once l = length l.watches.now
