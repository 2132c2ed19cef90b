use Rattle.std.proofs.Common.{◌≡◌, ◌<◌, ◌≤◌, List, length, get_or, slice_get, ap, ◌∙◌, arith}
use Rattle.std.proofs.lemmas.List.{get_or_default}
use Rattle.scan_log.specs.declared.command.Command.{Command}
use Rattle.transcript_check.proofs.Places.{blank}
use Rattle.transcript_check.proofs.Replays.{blank_place, given_of, here_at, few_points, held_to, good_at, same_by, so_far_start, so_far_same, so_far_other, all_same, first_is}
use Rattle.transcript_check.proofs.replaying.first_other.Goals.{then-at-first+in_ok-is_right_line+then-not-branch, then-at-first+in_ok-is_right_line+else-not-branch, else-at-first}
use Rattle.transcript_check.proofs.replaying.first_other.Goals as goal

pub loop-at-init : goal.loop-at-init
loop-at-init g c =
    let s = c.args.script.now in
    let marked_lines = c.args.marked_lines.now in
    let us = c.args.updates.now in
    let ats = c.as_slice-at-items.result.now in
    record {
      given = given_of s marked_lines us c.in_ok-places.places.items ats c.commands-commands.ensures.limits c.requires.legal c.requires.many c.requires.updates c.as_slice-at-items.ensures.value
          c.in_ok-places.ensures.order c.in_ok-places.ensures.placed c.in_ok-places.ensures.all;
      far = so_far_start s marked_lines us ats (g.M.HeldMap.holds c.empty-map.result) 0 _ c.empty-map.ensures (λ k. 0) (λ k. length c.args.marked_lines.now);
    }

pub offset_bounds-updates-level : goal.offset_bounds-updates-level
offset_bounds-updates-level g c =
    let here = here_at _ _ _ _ _ _ _ _ c.loop-at.invariant.given c.loop-at.invariant.far (omega arith) in
    omega (arith, here.up, here.mark, here.updates)

pub slice_bounds-advanced-count : goal.slice_bounds-advanced-count
slice_bounds-advanced-count g c =
    let here = here_at _ _ _ _ _ _ _ _ c.loop-at.invariant.given c.loop-at.invariant.far (omega arith) in
    omega (arith, here.up, here.mark, here.updates)

pub slice_bounds-advanced-start : goal.slice_bounds-advanced-start
slice_bounds-advanced-start g c =
    let here = here_at _ _ _ _ _ _ _ _ c.loop-at.invariant.given c.loop-at.invariant.far (omega arith) in
    omega (arith, here.up, here.mark, here.updates)

pub slice_bounds-advanced-end : goal.slice_bounds-advanced-end
slice_bounds-advanced-end g c =
    let here = here_at _ _ _ _ _ _ _ _ c.loop-at.invariant.given c.loop-at.invariant.far (omega arith) in
    omega (arith, here.up, here.mark, here.updates)

pub advanced-requires : goal.advanced-requires
advanced-requires g c = (here_at _ _ _ _ _ _ _ _ c.loop-at.invariant.given c.loop-at.invariant.far (omega arith)).room

pub offset_bounds-marked_lines-at : goal.offset_bounds-marked_lines-at
offset_bounds-marked_lines-at g c =
    let here = here_at _ _ _ _ _ _ _ _ c.loop-at.invariant.given c.loop-at.invariant.far (omega arith) in
    omega (arith, here.place, here.lines)

pub bounds-marked_lines-at : goal.bounds-marked_lines-at
bounds-marked_lines-at g c = (here_at _ _ _ _ _ _ _ _ c.loop-at.invariant.given c.loop-at.invariant.far (omega arith)).place

pub is_right_line-requires-clause-plain : goal.is_right_line-requires-clause-plain
is_right_line-requires-clause-plain g c = rw (c.command_at-command.ensures, c.commands-commands.ensures.all) (good_at _ _ c.loop-at.invariant.given.script.each)

pub is_right_line-requires-clause-points : goal.is_right_line-requires-clause-points
is_right_line-requires-clause-points g c =
    let here = here_at _ _ _ _ _ _ _ _ c.loop-at.invariant.given c.loop-at.invariant.far (omega arith) in
    let map = held_to _ _ _ _ _ _ _ _ _ _ c.loop-at.invariant.far here.up _ c.settings-settings.ensures c.in_ok-map.ensures in
    few_points _ _ _ _ _ _ c.loop-at.invariant.given map

pub loop-at-preserved : goal.loop-at-preserved
loop-at-preserved g c =
    let s = c.args.script.now in
    let marked_lines = c.args.marked_lines.now in
    let us = c.args.updates.now in
    let ats = c.as_slice-at-items.result.now in
    let given = c.loop-at.invariant.given in
    let far = c.loop-at.invariant.far in
    let k = c.loop-at.at-index in
    let p = get_or ats k blank_place in
    let below : k < length ats = omega arith in
    let is : p ≡ get_or ats k p = get_or_default ats k blank_place p below in
    let here = here_at s marked_lines us ats k (g.M.HeldMap.holds c.loop-at.map) c.loop-at.level c.loop-at.first given far below in
    let map =
    held_to s marked_lines us ats k (g.M.HeldMap.holds c.loop-at.map) (g.M.HeldMap.holds c.in_ok-map.map)
    c.loop-at.level c.loop-at.first p.mark far here.up _ c.settings-settings.ensures c.in_ok-map.ensures in
    let t = get_or marked_lines p.place blank in
    let at : t ≡ get_or marked_lines p.place t = get_or_default marked_lines p.place blank t here.place in
    elim c.if-at-first.branch [
      | then-at-first+in_ok-is_right_line+then-not-branch v ↦
          let e = v.command_at-command.ensures ∙ ap (λ (cs : List Command). slice_get cs p.place) c.commands-commands.ensures.all in
          let d =
          same_by s marked_lines us ats (g.M.HeldMap.holds c.in_ok-map.map) p t v.in_ok-is_right_line.field-0
          c.format-format.result given map here.place here.placed at c.format-format.ensures
          (rw e at v.in_ok-is_right_line.ensures) in
          record {
            given = given;
            far =
                rw v.first-is (so_far_other s marked_lines us ats k (g.M.HeldMap.holds c.loop-at.map) (g.M.HeldMap.holds c.in_ok-map.map) c.loop-at.level c.loop-at.first p given far below is map v.if-at-first.true
                (λ same. let yes = d.1 same in let never = v.if-not-branch.true in cc));
          }
      | then-at-first+in_ok-is_right_line+else-not-branch v ↦
          let e = v.command_at-command.ensures ∙ ap (λ (cs : List Command). slice_get cs p.place) c.commands-commands.ensures.all in
          let d =
          same_by s marked_lines us ats (g.M.HeldMap.holds c.in_ok-map.map) p t v.in_ok-is_right_line.field-0
          c.format-format.result given map here.place here.placed at c.format-format.ensures
          (rw e at v.in_ok-is_right_line.ensures) in
          record {
            given = given;
            far =
                rw v.first-is (so_far_same s marked_lines us ats k (g.M.HeldMap.holds c.loop-at.map)
                (g.M.HeldMap.holds c.in_ok-map.map) c.loop-at.level c.loop-at.first p given far below is map
                (λ low. d.0 v.if-not-branch.false));
          }
      | else-at-first v ↦
          record {
            given = given;
            far = rw v.first-is (so_far_same s marked_lines us ats k (g.M.HeldMap.holds c.loop-at.map) (g.M.HeldMap.holds c.in_ok-map.map) c.loop-at.level c.loop-at.first p given far below is map
                (λ low. absurd (let high : c.loop-at.first ≤ p.place = v.if-at-first.false in omega arith)));
          }
    ]

pub returns-then-first-marked_lines : goal.returns-then-first-marked_lines
returns-then-first-marked_lines g c = first_is _ _ _ _ _ _ _ _ c.loop-at.invariant.given c.loop-at.invariant.far (omega arith) (omega arith)

pub returns : goal.returns
returns g c = all_same _ _ _ _ _ _ _ _ c.loop-at.invariant.given c.loop-at.invariant.far (omega arith) (omega arith)
