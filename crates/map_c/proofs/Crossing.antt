-- What a handle holds may go to another thread.
use denote.Param.Send.{IsSend, sendable}
use Rattle.std.proofs.Crossing as std
use Rattle.std.proofs.option.Option.TheSendSync as o
use Rattle.kd_frozen.proofs.cell.Cell.TheSendSync as cell
use Rattle.kd_frozen.proofs.frozen.Frozen.TheSendSync as frozen
use Rattle.kd_tree.proofs.node.Tree.TheLaws.TheKnot as knot
use Rattle.map_items.proofs.choice.Choice.TheSendSync as s3
use Rattle.map_items.proofs.item.Item.TheSendSync as s5
use Rattle.map_items.proofs.op.Op.TheSendSync as s6
use Rattle.map_items.proofs.sequence.Sequence.TheSendSync as s7
use Rattle.node_labels.proofs.label.Label.TheSendSync as s10
use Rattle.point_geom.proofs.axis.Axis.TheSendSync as axis
use Rattle.point_geom.proofs.cuboid.Corner.TheSendSync as s12
use Rattle.point_geom.proofs.cuboid.Cuboid.TheSendSync as s13
use Rattle.point_geom.proofs.point.Point.TheSendSync as s14
use Rattle.rebuild_core.proofs.Crossing.{state_send}
use Rattle.rebuild_parts.proofs.Handing.{version_send, version_sync}
use Rattle.map_c.specs.contracts.handles.content.Content.{the_row}
use Rattle.map_c.specs.contracts.handles.content.Around as around
use Rattle.map_c.specs.contracts.handles.content.Index as index
use Rattle.map_c.specs.contracts.handles.content.Map as kept
use Rattle.map_c.specs.contracts.handles.content.View as seen
use Rattle.map_c.specs.contracts.handles.built_subtree.BuiltSubtree as done
use Rattle.map_c.specs.contracts.handles.detached_job.DetachedJob as job

ruleset items = (
  sendable,
  std.crosses,
  knot.crosses,
  o.the_field_send,
  o.the_field_sync,
  o.the_send,
  o.the_sync,
  s3.the_field_send,
  s3.the_field_sync,
  s5.the_field_send,
  s5.the_field_sync,
  s6.the_field_send,
  s6.the_field_sync,
  s10.the_field_send,
  s10.the_field_sync,
  s3.the_send,
  s3.the_sync,
  s5.the_send,
  s5.the_sync,
  s6.the_send,
  s6.the_sync,
  s7.the_send,
  s7.the_sync,
  s10.the_send,
  s10.the_sync,
  s12.the_send,
  s12.the_sync,
  s13.the_send,
  s13.the_sync,
  s14.the_send,
  s14.the_sync,
)

kept_send : IsSend kept.the_row
kept_send = search (state_send, sendable, std.crosses) depth 40 fits 20000

seen_send : IsSend seen.the_row
seen_send = search (version_send, version_sync, sendable, std.crosses) depth 40 fits 20000

job_send : IsSend job.the_row
job_send = search items depth 40 fits 20000

done_send : IsSend done.the_row
done_send = search items depth 40 fits 20000

around_send : IsSend around.the_row
around_send = search (version_send, version_sync, s12.the_send, s12.the_sync, s13.the_send, s13.the_sync, sendable, std.crosses) depth 40 fits 20000

index_send : IsSend index.the_row
index_send =
    search (
      around_send,
      o.the_field_send,
      o.the_field_sync,
      o.the_send,
      o.the_sync,
      frozen.the_send,
      frozen.the_sync,
      cell.the_send,
      cell.the_sync,
      axis.the_field_send,
      axis.the_field_sync,
      axis.the_send,
      axis.the_sync,
      s14.the_send,
      s14.the_sync,
      sendable,
      std.crosses,
    ) depth 40 fits 20000

pub content_send : IsSend the_row
content_send = search (kept_send, seen_send, job_send, done_send, index_send, sendable, std.crosses) depth 40 fits 20000
