use denote.Param.Send.{sendable}
use Rattle.std.proofs.Crossing as std
use Rattle.core.proofs.rt.Memory.TheSendSync as memory
use Rattle.published_map.proofs.Crossing.{crosses}
use Rattle.shared_tests.proofs.tests.threads.both.Goals as goal

pub join-requires-send-F : goal.join-requires-send-F
join-requires-send-F g c κs within = search (sendable, std.crosses, crosses, memory.the_field_sync) depth 40 fits 20000
