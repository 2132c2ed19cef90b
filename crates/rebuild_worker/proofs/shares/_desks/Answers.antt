use denote.Param.Send.{sendable}
use Rattle.std.proofs.Crossing as std
use Rattle.rebuild_core.proofs.Crossing.{state_send}
use Rattle.rebuild_worker.proofs.shares._desks.Goals as goal

pub share-requires-send-T : goal.share-requires-send-T
share-requires-send-T c κs = search (state_send, std.crosses, sendable) depth 40 fits 20000

pub share-requires-sync-T : goal.share-requires-sync-T
share-requires-sync-T c κs = search (state_send, std.crosses, sendable) depth 40 fits 20000
