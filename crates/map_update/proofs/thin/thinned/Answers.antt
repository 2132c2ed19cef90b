use Rattle.std.proofs.Common.{◌≡◌, ◌∷◌, ◌+◌, ◌*◌, ◌<◌, ◌∙◌, ap, arith, drop, length, refl}
use Rattle.map_items.proofs.Numbered.{drop-at}
use Rattle.map_update.proofs.Detached.{left_itself, left_trans}
use Rattle.map_update.proofs.Drafted.{worked_itself, worked_kept, worked_then}
use Rattle.map_update.proofs.Winners.{only_first, turned_same}
use Rattle.map_update.proofs.thin.thinned.Goals as goal

pub loop-point-init : goal.loop-point-init
loop-point-init g c = record {
  draft = λ last ps d. (ps, left_itself ps, d);
  room = refl;
  rest = refl;
  drafted = worked_itself 0 0 c.args.draft;
  same = λ p one turned. (refl, refl);
}

pub thinned_one-requires-clause-few : goal.thinned_one-requires-clause-few
thinned_one-requires-clause-few g c =
    let p = c.point-item.result in
    let ps = c.args.points.now in
    let i = c.loop-point.point-index in
    let cut : drop i ps ≡ p ∷ drop (i + 1) ps = drop-at ps _ i p (omega arith) (rw c.as_slice-point-items.ensures at c.loop-point-test.true) (rw c.as_slice-point-items.ensures at c.point-item.is) in
    let shorter : length (drop i ps) ≡ length (drop (i + 1) ps) + 1 = rw cut (omega arith) in
    omega arith

pub returns-in_err-draft-clause-no_nodes_made : goal.returns-in_err-draft-clause-no_nodes_made
returns-in_err-draft-clause-no_nodes_made g c = λ p one turned.
    let q = c.point-item.result in
    let ps = c.args.points.now in
    let i = c.loop-point.point-index in
    let below : i < length ps = rw c.as_slice-point-items.ensures at c.loop-point-test.true in
    let cut : drop i ps ≡ q ∷ drop (i + 1) ps = drop-at ps _ i q (omega arith) below (rw c.as_slice-point-items.ensures at c.point-item.is) in
    let first = only_first i ps p q cut below one in
    let start = c.loop-point.invariant.same p one turned in
    let next : c.loop-point.next ≡ c.args.next = omega (arith, c.loop-point.invariant.room, ap (λ k. length (drop k ps)) first.1) in
    c.in_err-draft.ensures.no_nodes_made (turned_same c.args.settings.now.voxel c.args.draft.tree c.loop-point.draft.tree c.args.next c.loop-point.next p q start.0 next first.0 turned) ∙ start.1

pub loop-point-preserved : goal.loop-point-preserved
loop-point-preserved g c =
    let q = c.point-item.result in
    let ps = c.args.points.now in
    let i = c.loop-point.point-index in
    let below : i < length ps = rw c.as_slice-point-items.ensures at c.loop-point-test.true in
    let cut : drop i ps ≡ q ∷ drop (i + 1) ps = drop-at ps _ i q (omega arith) below (rw c.as_slice-point-items.ensures at c.point-item.is) in
    let shorter : length (drop i ps) ≡ length (drop (i + 1) ps) + 1 = rw cut (omega arith) in
    record {
      draft = λ last ps d.
          let k = c.loop-point.invariant.draft last ps d in
          let l = c.in_ok-draft.ensures.draft last k.0 k.2 in
          (l.0, left_trans ps k.0 l.0 k.1 l.1, l.2);
      room = omega (arith, c.loop-point.invariant.room);
      rest = rw c.in_ok-draft.ensures.contents (rw cut at c.loop-point.invariant.rest);
      drafted =
          worked_then i (2 * i) 1 2 (i + 1) (2 * (i + 1)) c.args.draft c.loop-point.draft c.in_ok-draft.draft
          (omega arith) (omega arith) c.loop-point.invariant.drafted c.in_ok-draft.ensures.drafted;
      same = λ p one turned.
          let first = only_first i ps p q cut below one in
          let start = c.loop-point.invariant.same p one turned in
          let next : c.loop-point.next ≡ c.args.next = omega (arith, c.loop-point.invariant.room, ap (λ k. length (drop k ps)) first.1) in
          let here = turned_same c.args.settings.now.voxel c.args.draft.tree c.loop-point.draft.tree c.args.next c.loop-point.next p q start.0 next first.0 turned in
          (c.in_ok-draft.ensures.rejected here ∙ start.0, c.in_ok-draft.ensures.no_nodes_made here ∙ start.1);
    }

pub returns-clause-rejected : goal.returns-clause-rejected
returns-clause-rejected g c = λ p one turned. (c.loop-point.invariant.same p one turned).0

pub returns-clause-no_nodes_made : goal.returns-clause-no_nodes_made
returns-clause-no_nodes_made g c = λ p one turned. (c.loop-point.invariant.same p one turned).1

pub returns-clause-kept : goal.returns-clause-kept
returns-clause-kept g c =
    let i = c.loop-point.point-index in
    let n = length c.args.points.now in
    let most = rw c.as_slice-point-items.ensures at c.loop-point.auto.point-index-end in
    worked_kept i (2 * i) n (2 * n) c.args.draft c.loop-point.draft (omega (arith, most)) (omega (arith, most)) c.loop-point.invariant.drafted
