use Rattle.std.proofs.Common.{◌≡◌, ◌∷◌, ◌+◌, ◌<◌, ◌∙◌, List, ap, arith, drop, length, refl, subst, sym}
use Rattle.std.specs.Prelude.{All}
use Rattle.std.proofs.lemmas.List.Elements.{All-contains}
use Rattle.std.proofs.lemmas.Result.{IfOk-weaker}
use Rattle.map_items.proofs.Numbered.{drop-at}
use Rattle.map_items.specs.declared.item.Item.{Item}
use Rattle.map_items.specs.declared.op.Op.TheVariants.{Put}
use Rattle.map_items.specs.Fold.{MapAt, add_points}
use Rattle.kd_tree.specs.Shape.{numbers}
use Rattle.kd_tree.specs.Contents.{contents}
use Rattle.kd_update.specs.Scan.{MayJoin, live_from, put_each}
use Rattle.kd_mark.specs.Watches.{HaveRoom}
use Rattle.kd_update.proofs.Joins.{add_points-put_each, join_next, live_from-length}
use Rattle.kd_update.proofs.Numbers.{held_below}
use Rattle.map_update.specs.Draft.{KeepsWatched}
use Rattle.kd_tree.specs.Maps.{map_of}
use Rattle.map_update.specs.declared.draft.Draft.{Draft}
use Rattle.map_update.proofs.Detached.{left_itself, left_trans}
use Rattle.map_update.proofs.Drafts.{first_point, only_point, unrebuilt_nodes_made}
use Rattle.map_update.proofs.Passes.{live_from_under}
use Rattle.map_update.proofs.Working.{draft_more}
use Rattle.map_update.proofs.Drafted.{plain_same, worked_itself, worked_kept, worked_then}
use Rattle.map_update.proofs.update.added.Goals as goal

pub loop-point-init : goal.loop-point-init
loop-point-init g c = record {
  draft = λ last ps d. (ps, left_itself ps, d);
  room = refl;
  rest = refl;
  drafted = worked_itself 0 0 c.args.draft;
  first = λ e. (refl, refl, refl);
  second = λ e. absurd (omega (arith, e));
}

pub added_one-requires-clause-few : goal.added_one-requires-clause-few
added_one-requires-clause-few g c =
    let p = c.point-item.result in
    let cut : drop c.loop-point.point-index c.args.points.now ≡ p ∷ drop (c.loop-point.point-index + 1) c.args.points.now =
    drop-at c.args.points.now _ c.loop-point.point-index p (omega arith) (rw c.as_slice-point-items.ensures at c.loop-point-test.true) (rw c.as_slice-point-items.ensures at c.point-item.is) in
    let shorter : length (drop c.loop-point.point-index c.args.points.now) ≡ length (drop (c.loop-point.point-index + 1) c.args.points.now) + 1 = rw cut (omega arith) in
    omega arith

pub loop-point-preserved : goal.loop-point-preserved
loop-point-preserved g c =
    let p = c.point-item.result in
    let ps = c.args.points.now in
    let i = c.loop-point.point-index in
    let cut : drop i ps ≡ p ∷ drop (i + 1) ps = drop-at ps _ i p (omega arith) (rw c.as_slice-point-items.ensures at c.loop-point-test.true) (rw c.as_slice-point-items.ensures at c.point-item.is) in
    let shorter : length (drop i ps) ≡ length (drop (i + 1) ps) + 1 = rw cut (omega arith) in
    record {
      draft = λ last ps d.
          let k = c.loop-point.invariant.draft last ps d in
          let l = c.in_ok-draft.ensures.draft last k.0 k.2 in
          (l.0, left_trans ps k.0 l.0 k.1 l.1, l.2);
      room = omega (arith, c.loop-point.invariant.room);
      rest = rw c.in_ok-draft.ensures.contents (rw cut at c.loop-point.invariant.rest);
      drafted = worked_then i i 1 1 (i + 1) (i + 1) c.args.draft c.loop-point.draft c.in_ok-draft.draft (omega arith) (omega arith) c.loop-point.invariant.drafted c.in_ok-draft.ensures.drafted;
      first = λ e. absurd (omega arith);
      second = λ e op only room unrebuilt.
          let none : i ≡ 0 = omega arith in
          let start = c.loop-point.invariant.first none in
          let same = ap (λ (w : Draft). w.tree) start.0 in
          let with_room = subst (λ (w : Draft). HaveRoom w.watches) (sym start.0) room in
          let is = first_point c.args.next c.loop-point.next i ps p op cut none start.1 only in (
            plain_same c.args.large (Put c.loop-point.next p) op c.loop-point.draft c.args.draft c.in_ok-draft.draft is start.0 (c.in_ok-draft.ensures.unrebuilt with_room) unrebuilt,
            unrebuilt_nodes_made c.args.large (Put c.loop-point.next p) op c.loop-point.draft.tree c.args.draft.tree
                c.loop-point.steps c.args.steps.now c.added_one.new.steps is same start.2
                (c.in_ok-draft.ensures.nodes_made with_room) unrebuilt,
          );
    }

pub returns-in_err-draft-clause-nodes_made : goal.returns-in_err-draft-clause-nodes_made
returns-in_err-draft-clause-nodes_made g c = λ op only room unrebuilt.
    let p = c.point-item.result in
    let ps = c.args.points.now in
    let i = c.loop-point.point-index in
    let below = rw c.as_slice-point-items.ensures at c.loop-point-test.true in
    let cut : drop i ps ≡ p ∷ drop (i + 1) ps = drop-at ps _ i p (omega arith) below (rw c.as_slice-point-items.ensures at c.point-item.is) in
    let none : i ≡ 0 = omega (arith, below, only_point c.args.next ps op only) in
    let start = c.loop-point.invariant.first none in
    let is = first_point c.args.next c.loop-point.next i ps p op cut none start.1 only in
    let with_room = subst (λ (w : Draft). HaveRoom w.watches) (sym start.0) room in
    unrebuilt_nodes_made c.args.large (Put c.loop-point.next p) op c.loop-point.draft.tree c.args.draft.tree
    c.loop-point.steps c.args.steps.now c.added_one.new.steps is (ap (λ (w : Draft). w.tree) start.0) start.2
    (c.in_err-draft.ensures.nodes_made with_room) unrebuilt

pub returns-clause-unrebuilt : goal.returns-clause-unrebuilt
returns-clause-unrebuilt g c = λ op only room unrebuilt.
    let one = only_point c.args.next c.args.points.now op only in
    let all = rw c.as_slice-point-items.ensures at c.loop-point-test.false in
    let most = rw c.as_slice-point-items.ensures at c.loop-point.auto.point-index-end in
    (c.loop-point.invariant.second (omega (arith, one, all, most)) op only room unrebuilt).0

pub returns-clause-nodes_made : goal.returns-clause-nodes_made
returns-clause-nodes_made g c = λ op only room unrebuilt.
    let one = only_point c.args.next c.args.points.now op only in
    let all = rw c.as_slice-point-items.ensures at c.loop-point-test.false in
    let most = rw c.as_slice-point-items.ensures at c.loop-point.auto.point-index-end in
    (c.loop-point.invariant.second (omega (arith, one, all, most)) op only room unrebuilt).1

pub returns-clause-kept : goal.returns-clause-kept
returns-clause-kept g c =
    let i = c.loop-point.point-index in
    let n = length c.args.points.now in
    let most = rw c.as_slice-point-items.ensures at c.loop-point.auto.point-index-end in
    worked_kept i i n n c.args.draft c.loop-point.draft (omega (arith, most)) (omega (arith, most)) c.loop-point.invariant.drafted

pub put_items-requires-clause-fit : goal.put_items-requires-clause-fit
put_items-requires-clause-fit g c =
    let next = c.args.next in
    let t = c.args.draft.tree in
    let d = c.requires.draft.2 in
    let same = sym (c.as_slice-then-len-ge-PASS_FROM.ensures.value ∙ c.in_ok-items.ensures.items ∙ ap (live_from next) c.as_slice.ensures) in
    let held = held_below next t c.size-size.ensures.sound (λ n k. All-contains (λ m. m < next) (numbers t) n d.below k) in
    subst (λ (xs : List Item). MayJoin (contents t) xs) same (join_next next (contents t) c.args.points.now held c.requires.few)

pub put_items-requires-clause-draft : goal.put_items-requires-clause-draft
put_items-requires-clause-draft g c =
    let next = c.args.next in
    let high = next + length c.args.points.now in
    let d = c.requires.draft in
    let same = sym (c.as_slice-then-len-ge-PASS_FROM.ensures.value ∙ c.in_ok-items.ensures.items ∙ ap (live_from next) c.as_slice.ensures) in
    (high, (d.0, d.1, draft_more c.args.large next high d.0 d.1 c.args.draft (omega arith) d.2), subst (All (λ i. i.number < high)) same (live_from_under high next c.args.points.now (omega arith)))

pub returns-then-len-ge-PASS_FROM-clause-stepped : goal.returns-then-len-ge-PASS_FROM-clause-stepped
returns-then-len-ge-PASS_FROM-clause-stepped g c =
    let next = c.args.next in
    let ps = c.args.points.now in
    let m = contents c.args.draft.tree in
    let high = next + length ps in
    let same = c.as_slice-then-len-ge-PASS_FROM.ensures.value ∙ c.in_ok-items.ensures.items ∙ ap (live_from c.args.next) c.as_slice.ensures in
    IfOk-weaker c.put_items.result _ (λ w. map_of w.tree high ≡ add_points ps (map_of c.args.draft.tree next))
    (λ w e. ap (λ (xs : List Item). let a : MapAt = record { items = xs; next = high } in a) (e ∙ ap (put_each m) same) ∙ sym (add_points-put_each next m ps)) c.put_items.ensures.contents

pub returns-then-len-ge-PASS_FROM-clause-draft : goal.returns-then-len-ge-PASS_FROM-clause-draft
returns-then-len-ge-PASS_FROM-clause-draft g c = λ last ps d.
    let next = c.args.next in
    let high = next + length c.args.points.now in
    let same = sym (c.as_slice-then-len-ge-PASS_FROM.ensures.value ∙ c.in_ok-items.ensures.items ∙ ap (live_from next) c.as_slice.ensures) in
    c.put_items.ensures.draft high last ps
    (subst (All (λ i. i.number < high)) same (live_from_under high next c.args.points.now (omega arith)))
    (draft_more c.args.large next high last ps c.args.draft (omega arith) d)

pub returns-then-len-ge-PASS_FROM-clause-kept : goal.returns-then-len-ge-PASS_FROM-clause-kept
returns-then-len-ge-PASS_FROM-clause-kept g c =
    let same = c.as_slice-then-len-ge-PASS_FROM.ensures.value ∙ c.in_ok-items.ensures.items ∙ ap (live_from c.args.next) c.as_slice.ensures in
    let many = ap length same ∙ live_from-length c.args.next c.args.points.now in
    subst (λ n. KeepsWatched n n c.args.draft c.put_items.result) many c.put_items.ensures.kept
