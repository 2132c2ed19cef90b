use Rattle.std.proofs.Common.{◌≡◌, ◌∷◌, ◌∙◌, ◌+◌, ap, arith, drop, length, refl, subst, sym}
use Rattle.map_items.specs.declared.choice.Choice.{Choice}
use Rattle.map_items.proofs.Numbered.{drop-at, mark-within}
use Rattle.map_items.specs.declared.op.Op.TheVariants.{Mark}
use Rattle.kd_mark.specs.Watches.{HaveRoom}
use Rattle.map_update.specs.declared.draft.Draft.{Draft}
use Rattle.map_update.proofs.Detached.{left_itself, left_trans}
use Rattle.map_update.proofs.Drafts.{first_box, only_box, unrebuilt_nodes_made}
use Rattle.map_update.proofs.Drafted.{plain_same, worked_itself, worked_kept, worked_then}
use Rattle.map_update.proofs.update.marked_each.Goals as goal

pub loop-cuboid-init : goal.loop-cuboid-init
loop-cuboid-init g c = record {
  draft = λ last ps d. (ps, left_itself ps, d);
  rest = refl;
  drafted = worked_itself 0 0 c.args.draft;
  first = λ e. (refl, refl);
  second = λ e. absurd (omega (arith, e));
}

pub loop-cuboid-preserved : goal.loop-cuboid-preserved
loop-cuboid-preserved g c =
    let box = c.cuboid-item.result in
    let cs = c.args.boxes.now in
    let i = c.loop-cuboid.cuboid-index in
    let cut : drop i cs ≡ box ∷ drop (i + 1) cs =
    drop-at cs _ i box (omega arith) (rw c.as_slice-cuboid-items.ensures at c.loop-cuboid-test.true)
    (rw c.as_slice-cuboid-items.ensures at c.cuboid-item.is) in
    record {
      draft = λ last ps d.
          let k = c.loop-cuboid.invariant.draft last ps d in
          let l = c.in_ok-draft.ensures.draft c.args.next last k.0 k.2 in
          (l.0, left_trans ps k.0 l.0 k.1 l.1, l.2);
      rest = rw (c.in_ok-draft.ensures.contents ∙ mark-within c.within.result box _ _ c.within.ensures) (rw cut at c.loop-cuboid.invariant.rest);
      drafted = worked_then 0 i 0 1 0 (i + 1) c.args.draft c.loop-cuboid.draft c.in_ok-draft.draft (omega arith) (omega arith) c.loop-cuboid.invariant.drafted c.in_ok-draft.ensures.drafted;
      first = λ e. absurd (omega arith);
      second = λ e op only room unrebuilt.
          let none : i ≡ 0 = omega arith in
          let start = c.loop-cuboid.invariant.first none in
          let same = ap (λ (w : Draft). w.tree) start.0 in
          let with_room = subst (λ (w : Draft). HaveRoom w.watches) (sym start.0) room in
          let is = ap (λ (d : Choice). Mark d c.args.tag) c.within.ensures ∙ first_box c.args.tag i cs box op cut none only in (
            plain_same c.args.large (Mark c.within.result c.args.tag) op c.loop-cuboid.draft c.args.draft c.in_ok-draft.draft is start.0 (c.in_ok-draft.ensures.unrebuilt with_room) unrebuilt,
            unrebuilt_nodes_made c.args.large (Mark c.within.result c.args.tag) op c.loop-cuboid.draft.tree
                c.args.draft.tree c.loop-cuboid.steps c.args.steps.now c.marked.new.steps is same start.1
                (c.in_ok-draft.ensures.nodes_made with_room) unrebuilt,
          );
    }

pub returns-in_err-draft-clause-nodes_made : goal.returns-in_err-draft-clause-nodes_made
returns-in_err-draft-clause-nodes_made g c = λ op only room unrebuilt.
    let box = c.cuboid-item.result in
    let cs = c.args.boxes.now in
    let i = c.loop-cuboid.cuboid-index in
    let below = rw c.as_slice-cuboid-items.ensures at c.loop-cuboid-test.true in
    let cut : drop i cs ≡ box ∷ drop (i + 1) cs = drop-at cs _ i box (omega arith) below (rw c.as_slice-cuboid-items.ensures at c.cuboid-item.is) in
    let none : i ≡ 0 = omega (arith, below, only_box c.args.tag cs op only) in
    let start = c.loop-cuboid.invariant.first none in
    let is = ap (λ (d : Choice). Mark d c.args.tag) c.within.ensures ∙ first_box c.args.tag i cs box op cut none only in
    let with_room = subst (λ (w : Draft). HaveRoom w.watches) (sym start.0) room in
    unrebuilt_nodes_made c.args.large (Mark c.within.result c.args.tag) op c.loop-cuboid.draft.tree c.args.draft.tree
    c.loop-cuboid.steps c.args.steps.now c.marked.new.steps is (ap (λ (w : Draft). w.tree) start.0) start.1
    (c.in_err-draft.ensures.nodes_made with_room) unrebuilt

pub returns-clause-unrebuilt : goal.returns-clause-unrebuilt
returns-clause-unrebuilt g c = λ op only room unrebuilt.
    let one = only_box c.args.tag c.args.boxes.now op only in
    let all = rw c.as_slice-cuboid-items.ensures at c.loop-cuboid-test.false in
    let most = rw c.as_slice-cuboid-items.ensures at c.loop-cuboid.auto.cuboid-index-end in
    (c.loop-cuboid.invariant.second (omega (arith, one, all, most)) op only room unrebuilt).0

pub returns-clause-nodes_made : goal.returns-clause-nodes_made
returns-clause-nodes_made g c = λ op only room unrebuilt.
    let one = only_box c.args.tag c.args.boxes.now op only in
    let all = rw c.as_slice-cuboid-items.ensures at c.loop-cuboid-test.false in
    let most = rw c.as_slice-cuboid-items.ensures at c.loop-cuboid.auto.cuboid-index-end in
    (c.loop-cuboid.invariant.second (omega (arith, one, all, most)) op only room unrebuilt).1

pub returns-clause-kept : goal.returns-clause-kept
returns-clause-kept g c =
    let i = c.loop-cuboid.cuboid-index in
    let most = rw c.as_slice-cuboid-items.ensures at c.loop-cuboid.auto.cuboid-index-end in
    worked_kept 0 i 0 (length c.args.boxes.now) c.args.draft c.loop-cuboid.draft (omega arith) (omega (arith, most)) c.loop-cuboid.invariant.drafted
