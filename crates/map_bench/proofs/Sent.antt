-- What the threads that share a map are sent, and what they share.
use denote.Param.Send.{sendable}
use Rattle.std.proofs.Crossing as std
use Rattle.std.proofs.alloc.Global.TheSendSync as heap
use Rattle.core.proofs.option.Option.TheSendSync as option
use Rattle.core.proofs.rt.Memory.TheSendSync as memory
use Rattle.core.proofs.atomic.AtomicBool.TheSendSync as flag
use Rattle.core.proofs.time.Duration.TheSendSync as duration
use Rattle.point_geom.proofs.point.Point.TheSendSync as point
use Rattle.point_geom.proofs.cuboid.Corner.TheSendSync as corner
use Rattle.point_geom.proofs.cuboid.Cuboid.TheSendSync as cuboid
use Rattle.map_items.proofs.sequence.Sequence.TheSendSync as sequence
use Rattle.rebuild_worker.proofs.bell.Bell.TheSendSync as bell
use Rattle.rebuild_worker.proofs.bell.Rest.TheSendSync as rest
use Rattle.published_map.proofs.Crossing as map
use Rattle.map_bench.proofs.course.Scan.TheSendSync as scan
use Rattle.map_bench.proofs.threads.company.Company.TheSendSync as company
use Rattle.map_bench.proofs.threads.plan.Plan.TheSendSync as plan
use Rattle.map_bench.proofs.threads.roles.Role.TheSendSync as role

-- what `search` lists for it
pub ruleset to_thread = (
  sendable,
  std.crosses,
  map.shared_sync,
  map.pass_send,
  heap.the_send,
  heap.the_sync,
  memory.the_send,
  memory.the_field_send,
  memory.the_sync,
  memory.the_field_sync,
  option.the_sync,
  option.the_field_sync,
  flag.the_sync,
  flag.the_field_sync,
  duration.the_sync,
  duration.the_field_sync,
  point.the_sync,
  corner.the_sync,
  corner.the_field_sync,
  cuboid.the_sync,
  sequence.the_sync,
  scan.the_sync,
  scan.the_field_sync,
  company.the_sync,
  company.the_field_sync,
  plan.the_sync,
  plan.the_field_sync,
  bell.the_sync,
  rest.the_send,
  role.the_send,
  role.the_field_send,
)
