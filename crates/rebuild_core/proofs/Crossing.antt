-- States go to other threads, and are read by several at once.
use denote.Param.Send.{IsSend, IsSync}
use Rattle.kd_tree.specs.contracts.scratch.Scratch as scratch
use Rattle.rebuild_core.specs.contracts.state.MapState as state
use Rattle.rebuild_parts.proofs.Handing.{crosses, part_send, part_sync, version_send, version_sync}

scratch_send : IsSend (scratch.the_field).row
scratch_send = search crosses depth 40 fits 20000

scratch_sync : IsSync (scratch.the_field).row
scratch_sync = search crosses depth 40 fits 20000

pub state_send : IsSend state.the_row
state_send = search (version_send, version_sync, part_send, scratch_send, crosses) depth 40 fits 20000

pub state_sync : IsSync state.the_row
state_sync = search (version_send, version_sync, part_sync, scratch_sync, crosses) depth 40 fits 20000
