-- What callers' threads share and are sent: what `search` lists for it.
use denote.Param.Send.{sendable}
use Rattle.std.proofs.Crossing as std
use Rattle.std.proofs.alloc.Global.TheSendSync as heap
use Rattle.core.proofs.option.Option.TheSendSync as option
use Rattle.core.proofs.result.Result.TheSendSync as result
use Rattle.core.proofs.rt.Memory.TheSendSync as memory
use Rattle.core.proofs.marker.PhantomData.TheSendSync as phantom
use Rattle.map_items.proofs.memory.NoMemory.TheSendSync as none
use Rattle.published_map.proofs.Crossing as map
use Rattle.scan_log.proofs.command.Command.TheSendSync as command
use Rattle.mapper_core.proofs.callers.alarm.Post.TheSendSync as post
use Rattle.mapper_core.proofs.callers.alarm.Signals.TheSendSync as signals
use Rattle.mapper_core.proofs.callers.queue.Queue.TheSendSync as queue

-- to a worker's thread
pub ruleset to_worker = (sendable, std.crosses, map.shared_sync, heap.the_send, post.the_send)

-- to a caller's thread
pub ruleset to_caller = (sendable, std.crosses, map.shared_sync, map.pass_send, heap.the_send, signals.the_sync, command.the_sync)

-- and back
pub ruleset from_caller = (
  sendable,
  std.crosses,
  map.crosses,
  option.the_send,
  option.the_field_send,
  option.the_sync,
  option.the_field_sync,
  result.the_send,
  result.the_field_send,
  memory.the_send,
  memory.the_field_send,
  memory.the_sync,
  memory.the_field_sync,
  phantom.the_send,
  phantom.the_field_send,
  none.the_send,
  none.the_field_send,
  queue.the_send,
)
