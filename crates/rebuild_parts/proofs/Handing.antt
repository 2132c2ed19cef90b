-- Versions, parts and what subtrees held go to other threads, and are read by several at once.
use denote.Param.Send.{IsSend, IsSync, sendable}
use Rattle.std.proofs.Crossing as std
use Rattle.kd_tree.proofs.node.Tree.TheLaws.TheKnot as knot
use Rattle.rebuild_parts.specs.contracts.detached_items.Listing as held
use Rattle.rebuild_parts.specs.contracts.detached_items.DetachedItems as detached_items
use Rattle.rebuild_parts.specs.contracts.part.Part as part
use Rattle.rebuild_parts.specs.contracts.version.Version as version
use Rattle.std.proofs.option.Option.TheSendSync as o
use Rattle.kd_tree.proofs.path.Path.TheSendSync as s0
use Rattle.kd_tree.proofs.path.Side.TheSendSync as s1
use Rattle.map_items.proofs.choice.Choice.TheSendSync as s3
use Rattle.map_items.proofs.entry.Entry.TheSendSync as s4
use Rattle.map_items.proofs.item.Item.TheSendSync as s5
use Rattle.map_items.proofs.op.Op.TheSendSync as s6
use Rattle.map_items.proofs.sequence.Sequence.TheSendSync as s7
use Rattle.map_items.proofs.settings.Settings.TheSendSync as s8
use Rattle.map_items.proofs.update.Update.TheSendSync as s9
use Rattle.node_labels.proofs.label.Label.TheSendSync as s10
use Rattle.op_logger.proofs.log.OpLog.TheSendSync as s11
use Rattle.point_geom.proofs.cuboid.Corner.TheSendSync as s12
use Rattle.point_geom.proofs.cuboid.Cuboid.TheSendSync as s13
use Rattle.point_geom.proofs.point.Point.TheSendSync as s14

-- what is in them
pub ruleset crosses = (
  sendable,
  std.crosses,
  knot.crosses,
  o.the_field_send,
  o.the_field_sync,
  o.the_send,
  o.the_sync,
  s1.the_field_send,
  s1.the_field_sync,
  s3.the_field_send,
  s3.the_field_sync,
  s4.the_field_send,
  s4.the_field_sync,
  s5.the_field_send,
  s5.the_field_sync,
  s6.the_field_send,
  s6.the_field_sync,
  s9.the_field_send,
  s9.the_field_sync,
  s10.the_field_send,
  s10.the_field_sync,
  s0.the_send,
  s0.the_sync,
  s1.the_send,
  s1.the_sync,
  s3.the_send,
  s3.the_sync,
  s4.the_send,
  s4.the_sync,
  s5.the_send,
  s5.the_sync,
  s6.the_send,
  s6.the_sync,
  s7.the_send,
  s7.the_sync,
  s8.the_send,
  s8.the_sync,
  s9.the_send,
  s9.the_sync,
  s10.the_send,
  s10.the_sync,
  s11.the_send,
  s11.the_sync,
  s12.the_send,
  s12.the_sync,
  s13.the_send,
  s13.the_sync,
  s14.the_send,
  s14.the_sync,
)

pub version_send : IsSend version.the_row
version_send = search crosses depth 40 fits 20000

pub version_sync : IsSync version.the_row
version_sync = search crosses depth 40 fits 20000

held_send : IsSend (held.the_field).row
held_send = search crosses depth 40 fits 20000

held_sync : IsSync (held.the_field).row
held_sync = search crosses depth 40 fits 20000

pub detached_items_send : IsSend detached_items.the_row
detached_items_send = search (held_send, held_sync, crosses) depth 40 fits 20000

pub detached_items_sync : IsSync detached_items.the_row
detached_items_sync = search (held_send, held_sync, crosses) depth 40 fits 20000

pub part_send : IsSend part.the_row
part_send = search (detached_items_send, detached_items_sync, crosses) depth 40 fits 20000

pub part_sync : IsSync part.the_row
part_sync = search (detached_items_send, detached_items_sync, crosses) depth 40 fits 20000
