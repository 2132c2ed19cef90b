use Rattle.std.proofs.Common.{length, ap, ◌∙◌, arith}
use Rattle.map_items.specs.Fold.{MapAt}
use Rattle.rebuild_core.specs.Lawful.{StateAt}
use Rattle.map_renewal.proofs.Thrice.{after_third, begun, first, next_of, room_next, second}
use Rattle.map_renewal.proofs.renewing.of_points.Goals as goal

pub add-requires : goal.add-requires
add-requires c =
    let new = begun c.args.settings _ c.in_ok-state.ensures in
    record { few = omega (arith, new.0, c.requires.few); short = omega (arith, new.1) }

pub one_more-requires : goal.one_more-requires
one_more-requires c =
    let s1 = first c.args.suspended.now c.args.settings _ _ c.in_ok-state.ensures c.in_ok-add.ensures in
    record { room = room_next _ _ _ (length c.args.suspended.now) 1 s1.0 s1.1 (omega arith) (omega (arith, c.requires.few)) }

pub add-requires-2 : goal.add-requires-2
add-requires-2 c =
    let s1 = first c.args.suspended.now c.args.settings _ _ c.in_ok-state.ensures c.in_ok-add.ensures in
    let s2 = second c.args.suspended.now _ _ _ c.in_ok-all_of_it.ensures c.look_at.ensures s1.0 s1.1 c.in_ok-one_more.ensures in
    record { few = omega (arith, next_of c.one_more.new.state.state _ _ s2.0, c.requires.few); short = omega (arith, s2.1) }

pub returns : goal.returns
returns c =
    let s1 = first c.args.suspended.now c.args.settings _ _ c.in_ok-state.ensures c.in_ok-add.ensures in
    let s2 = second c.args.suspended.now _ _ _ c.in_ok-all_of_it.ensures c.look_at.ensures s1.0 s1.1 c.in_ok-one_more.ensures in
    let s3 = after_third c.args.suspended.now c.args.live.now _ _ s2.0 c.in_ok-add-2.ensures in
    record {
      held = ap (λ (m : MapAt). m.items) s3;
      next = ap (λ (m : MapAt). m.next) s3;
      settings = c.in_ok-add-2.ensures.settings ∙ c.in_ok-one_more.ensures.settings ∙ c.in_ok-add.ensures.settings ∙ ap (λ (s : StateAt). s.settings) c.in_ok-state.ensures;
      short = omega (arith, s2.1, c.in_ok-add-2.ensures.short);
    }
