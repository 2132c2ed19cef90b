use Rattle.std.proofs.Common.{length}
use Rattle.map_update.proofs.pieces.+least_room.Given as goal

abbrev pub decreases-least_room : goal.decreases-least_room
decreases-least_room l = length l.watches.now
