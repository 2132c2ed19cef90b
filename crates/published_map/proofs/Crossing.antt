-- A shared map and its passes go to other threads, and its map is used by several at once.
use denote.RattleType.{RattleType}
use denote.Param.Send.{IsSend, IsSync, sendable}
use Rattle.std.proofs.Crossing as std
use Rattle.kd_tree.proofs.node.Tree.TheLaws.TheKnot as knot
use Rattle.core.specs.declared.ledger.Ledger as ledger
use Rattle.shown_versions.specs.declared.name.MapName as name
use Rattle.rebuild_core.proofs.Crossing.{state_send}
use Rattle.rebuild_parts.proofs.Handing.{version_send, version_sync}
use Rattle.shown_versions.specs.contracts.published.Published as shown
use Rattle.shown_versions.specs.contracts.published.PublishedAbsorb.TheImpl as absorb
use Rattle.published_map.specs.contracts.locked.Locked as locked
use Rattle.published_map.specs.contracts.shared.Shared as shared
use Rattle.published_map.specs.contracts.pass.Pass as pass
use Rattle.atomic_table.proofs.owned.Table.TheSendSync as s0
use Rattle.atomic_table.proofs.send_lease.SendLease.TheSendSync as s1
use Rattle.atomic_table.proofs.shared.Seat.TheSendSync as s2
use Rattle.atomic_table.proofs.shared.Shared.TheSendSync as s3
use Rattle.core.proofs.ledger.Book.TheSendSync as s4
use Rattle.core.proofs.ledger.Share.TheSendSync as s5
use Rattle.core.proofs.marker.PhantomData.TheSendSync as s6
use Rattle.core.proofs.option.Option.TheSendSync as s7
use Rattle.core.proofs.rt.Memory.TheSendSync as s8
use Rattle.core.proofs.sync.Mutex.TheSendSync as s9
use Rattle.kd_tree.proofs.path.Path.TheSendSync as s10
use Rattle.kd_tree.proofs.path.Side.TheSendSync as s11
use Rattle.left_right.proofs.board.Doing.TheSendSync as s12
use Rattle.left_right.proofs.board.Plan.TheSendSync as s13
use Rattle.left_right.proofs.board.Role.TheSendSync as s14
use Rattle.left_right.proofs.board.Sides.TheSendSync as s15
use Rattle.left_right.proofs.desk.Desk.TheSendSync as s16
use Rattle.left_right.proofs.part.Deed.TheSendSync as s17
use Rattle.left_right.proofs.part.Part.TheSendSync as s18
use Rattle.left_right.proofs.reader.Factory.TheSendSync as s19
use Rattle.left_right.proofs.reader.Reader.TheSendSync as s20
use Rattle.left_right.proofs.writer.Writer.TheSendSync as s21
use Rattle.logbook.proofs.tokens.Seen.TheSendSync as s22
use Rattle.logbook.proofs.word.Word.TheSendSync as s23
use Rattle.map_items.proofs.entry.Entry.TheSendSync as s24
use Rattle.map_items.proofs.item.Item.TheSendSync as s25
use Rattle.map_items.proofs.op.Op.TheSendSync as s26
use Rattle.map_items.proofs.sequence.Sequence.TheSendSync as s27
use Rattle.map_items.proofs.settings.Settings.TheSendSync as s28
use Rattle.map_items.proofs.update.Update.TheSendSync as s29
use Rattle.node_labels.proofs.counts.Counts.TheSendSync as s30
use Rattle.node_labels.proofs.label.Label.TheSendSync as s31
use Rattle.node_labels.proofs.tag.Tag.TheSendSync as s32
use Rattle.rebuild_core.below.op_logger.proofs.log.OpLog.TheSendSync as s33
use Rattle.point_geom.proofs.axis.Axis.TheSendSync as s34
use Rattle.point_geom.proofs.cuboid.Corner.TheSendSync as s35
use Rattle.point_geom.proofs.cuboid.Cuboid.TheSendSync as s36
use Rattle.point_geom.proofs.extent.Extent.TheSendSync as s37
use Rattle.point_geom.proofs.point.Point.TheSendSync as s38
use Rattle.shown_versions.proofs.mark.MarkRule.TheSendSync as s39
use Rattle.shown_versions.proofs.mark.Mark.TheSendSync as s40
use Rattle.shown_versions.proofs.mark.MarkList.TheSendSync as s41
use Rattle.shown_versions.proofs.rule.Follows.TheSendSync as s42
use Rattle.published_map.proofs.marked_subtree.MarkedSubtree.TheSendSync as s43

ruleset all = (
  sendable,
  std.crosses,
  knot.crosses,
  s0.the_field_send,
  s0.the_field_sync,
  s0.the_send,
  s0.the_sync,
  s1.the_send,
  s1.the_sync,
  s2.the_send,
  s3.the_send,
  s3.the_sync,
  s4.the_send,
  s5.the_send,
  s6.the_field_send,
  s6.the_field_sync,
  s6.the_send,
  s6.the_sync,
  s7.the_field_send,
  s7.the_field_sync,
  s7.the_send,
  s7.the_sync,
  s8.the_field_send,
  s8.the_field_sync,
  s8.the_send,
  s8.the_sync,
  s9.the_send,
  s9.the_sync,
  s10.the_send,
  s10.the_sync,
  s11.the_field_send,
  s11.the_field_sync,
  s11.the_send,
  s11.the_sync,
  s12.the_field_send,
  s12.the_field_sync,
  s12.the_send,
  s12.the_sync,
  s13.the_field_send,
  s13.the_field_sync,
  s13.the_send,
  s13.the_sync,
  s14.the_field_send,
  s14.the_field_sync,
  s14.the_send,
  s14.the_sync,
  s15.the_field_send,
  s15.the_field_sync,
  s15.the_send,
  s15.the_sync,
  s16.the_field_send,
  s16.the_send,
  s17.the_send,
  s18.the_send,
  s18.the_sync,
  s19.the_field_send,
  s19.the_field_sync,
  s19.the_send,
  s19.the_sync,
  s20.the_field_send,
  s20.the_send,
  s21.the_field_send,
  s21.the_send,
  s22.the_send,
  s22.the_sync,
  s23.the_send,
  s23.the_sync,
  s24.the_field_send,
  s24.the_field_sync,
  s24.the_send,
  s24.the_sync,
  s25.the_field_send,
  s25.the_field_sync,
  s25.the_send,
  s25.the_sync,
  s26.the_field_send,
  s26.the_field_sync,
  s26.the_send,
  s26.the_sync,
  s27.the_send,
  s27.the_sync,
  s28.the_send,
  s28.the_sync,
  s29.the_field_send,
  s29.the_field_sync,
  s29.the_send,
  s29.the_sync,
  s30.the_field_send,
  s30.the_field_sync,
  s30.the_send,
  s30.the_sync,
  s31.the_field_send,
  s31.the_field_sync,
  s31.the_send,
  s31.the_sync,
  s32.the_field_send,
  s32.the_field_sync,
  s32.the_send,
  s32.the_sync,
  s33.the_send,
  s33.the_sync,
  s34.the_field_send,
  s34.the_field_sync,
  s34.the_send,
  s34.the_sync,
  s35.the_field_send,
  s35.the_field_sync,
  s35.the_send,
  s35.the_sync,
  s36.the_send,
  s36.the_sync,
  s37.the_send,
  s37.the_sync,
  s38.the_send,
  s38.the_sync,
  s39.the_field_send,
  s39.the_field_sync,
  s39.the_send,
  s39.the_sync,
  s40.the_send,
  s40.the_sync,
  s41.the_send,
  s41.the_sync,
  s42.the_field_send,
  s42.the_field_sync,
  s42.the_send,
  s42.the_sync,
  s43.the_send,
  s43.the_sync,
)

shown_send : (L : RattleType) (m : name.Ghosts L.Denot) (l : ledger.Ghosts L.Denot) → IsSend L → IsSync L → IsSend (shown.the_row L m l)
shown_send L m l s y = search (version_send, version_sync, all) depth 40 fits 20000

shown_sync : (L : RattleType) (m : name.Ghosts L.Denot) (l : ledger.Ghosts L.Denot) → IsSend L → IsSync L → IsSync (shown.the_row L m l)
shown_sync L m l s y = search (version_send, version_sync, all) depth 40 fits 20000

locked_send : (L : RattleType) (m : name.Ghosts L.Denot) (l : ledger.Ghosts L.Denot) → IsSend L → IsSync L → IsSend (locked.the_row L (absorb.ghosts L m absorb.no_dict l absorb.no_dict) m l)
locked_send L m l s y = search (state_send, version_send, version_sync, shown_send, shown_sync, all) depth 40 fits 20000

pub shared_sync : (L : RattleType) (m : name.Ghosts L.Denot) (l : ledger.Ghosts L.Denot) → IsSend L → IsSync L → IsSync (shared.the_row L m l)
shared_sync L m l s y = search (locked_send, all) depth 40 fits 20000

pub shared_send : (L : RattleType) (m : name.Ghosts L.Denot) (l : ledger.Ghosts L.Denot) → IsSend L → IsSync L → IsSend (shared.the_row L m l)
shared_send L m l s y = search (locked_send, all) depth 40 fits 20000

pub pass_send : (L : RattleType) (m : name.Ghosts L.Denot) (l : ledger.Ghosts L.Denot) → IsSend L → IsSync L → IsSend (pass.the_row L m l)
pass_send L m l s y = search (shown_send, shown_sync, all) depth 40 fits 20000

-- what `search` lists, as well as `sendable`, where a shared map or a pass crosses
pub ruleset crosses = (shared_sync, shared_send, pass_send)
