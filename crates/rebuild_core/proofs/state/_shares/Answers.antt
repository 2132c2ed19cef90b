use denote.Param.Send.{sendable}
use Rattle.rebuild_core.proofs.Crossing.{state_send, state_sync}
use Rattle.rebuild_core.proofs.state._shares.Goals as goal

pub share-requires-send-T : goal.share-requires-send-T
share-requires-send-T c κs = search (state_send, sendable)

pub share-requires-sync-T : goal.share-requires-sync-T
share-requires-sync-T c κs = search (state_sync, sendable)
