use Rattle.std.proofs.Common.{◌≡◌, ◌+◌, ◌∷◌, List, ap, length, refl, sym, subst, arith}
use Rattle.std.proofs.lemmas.List.{nil_from_length}
use Rattle.node_labels.specs.Labels.{keep_tag}
use Rattle.map_items.specs.declared.item.Item.{Item}
use Rattle.kd_tree.specs.Walk.{tagged}
use Rattle.kd_mark.specs.declared.watch.Watch.{Watch}
use Rattle.kd_mark.specs.Watches.{AreExtended, AreMore}
use Rattle.kd_update.specs.Crossing.{HaveRoomAtOnce, with_scan}
use Rattle.kd_update.proofs.Crossing.{logged_scan_few}
use Rattle.kd_mark.proofs.ManyLogs.{extended_itself, extended_front, more_front, more_itself}
use Rattle.kd_update.proofs.watching.log_scan.+log_each_scan.Goals as goal

pub returns-in_err-items_there-clause-begins : goal.returns-in_err-items_there-clause-begins
returns-in_err-items_there-clause-begins t c =
    subst (λ (ws : List Watch). AreExtended ws (c.in-Some.watch.now ∷ c.in-Some.rest.now))
    (sym c.in-Some.ensures.cases.0) (extended_itself (c.in-Some.watch.now ∷ c.in-Some.rest.now))

pub returns-in_err-items_there-clause-few : goal.returns-in_err-items_there-clause-few
returns-in_err-items_there-clause-few t c =
    subst (λ (ws : List Watch). AreMore (length c.args.items.now + 1) ws (c.in-Some.watch.now ∷ c.in-Some.rest.now))
    (sym c.in-Some.ensures.cases.0)
    (more_itself (length c.args.items.now + 1) (c.in-Some.watch.now ∷ c.in-Some.rest.now))

pub log_scan-requires : goal.log_scan-requires
log_scan-requires t c =
    let room = subst (HaveRoomAtOnce (length c.args.items.now)) c.in-Some.ensures.cases.0 c.requires in
    omega (
      arith,
      room.0,
      logged_scan_few c.as_slice.result.now c.in_ok-items_there.items_there.items (tagged keep_tag c.args.tree.now),
      ap (λ (xs : List Item). length xs) c.in_ok-items_there.ensures.items,
    )

pub returns-in_err-log_scan-clause-begins : goal.returns-in_err-log_scan-clause-begins
returns-in_err-log_scan-clause-begins t c = extended_front _ c.in-Some.rest.now _ _ _ c.in-Some.ensures.cases.0 c.log_scan.ensures.begins (extended_itself c.in-Some.rest.now)

pub returns-in_err-log_scan-clause-few : goal.returns-in_err-log_scan-clause-few
returns-in_err-log_scan-clause-few t c =
    more_front (length c.args.items.now + 1) _ c.in-Some.rest.now _ _ c.log_scan.new.log c.in-Some.ensures.cases.0
    (omega (
      arith,
      c.log_scan.ensures.few,
      logged_scan_few c.as_slice.result.now c.in_ok-items_there.items_there.items
          (tagged keep_tag c.args.tree.now),
      ap (λ (xs : List Item). length xs) c.in_ok-items_there.ensures.items,
    ))
    (more_itself (length c.args.items.now + 1) c.in-Some.rest.now)

pub returns-clause-few : goal.returns-clause-few
returns-clause-few t c =
    more_front (length c.args.items.now + 1) _ c.in-Some.rest.now _ _ c.log_scan.new.log c.in-Some.ensures.cases.0
    (omega (
      arith,
      c.log_scan.ensures.few,
      logged_scan_few c.as_slice.result.now c.in_ok-items_there.items_there.items
          (tagged keep_tag c.args.tree.now),
      ap (λ (xs : List Item). length xs) c.in_ok-items_there.ensures.items,
    ))
    c.log_each_scan.ensures.few

pub returns-clause-begins : goal.returns-clause-begins
returns-clause-begins t c = extended_front _ c.in-Some.rest.now _ _ _ c.in-Some.ensures.cases.0 c.log_scan.ensures.begins c.log_each_scan.ensures.begins

pub log_each_scan-requires : goal.log_each_scan-requires
log_each_scan-requires t c = (omega (arith, c.in-Some.ensures.cases.1), (subst (HaveRoomAtOnce (length c.args.items.now)) c.in-Some.ensures.cases.0 c.requires).1)

pub returns-in_default-clause-logged : goal.returns-in_default-clause-logged
returns-in_default-clause-logged t c = subst (λ (ws : List Watch). ws ≡ with_scan c.args.items.now c.args.tree.now ws) (sym (nil_from_length c.args.watches.now c.in_default.ensures.cases)) refl

pub returns-in_default-clause-begins : goal.returns-in_default-clause-begins
returns-in_default-clause-begins t c = extended_itself c.args.watches.now

pub returns-in_default-clause-few : goal.returns-in_default-clause-few
returns-in_default-clause-few t c = more_itself (length c.args.items.now + 1) c.args.watches.now
