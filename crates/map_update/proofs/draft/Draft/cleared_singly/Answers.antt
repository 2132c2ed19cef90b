use Rattle.std.proofs.Common.{◌≡◌, ◌+◌, ◌∷◌, ◌∙◌, List, ap, arith, drop, refl, sym}
use Rattle.std.proofs.lemmas.List.{drop_all}
use Rattle.point_geom.specs.Place.{Bounds}
use Rattle.node_labels.specs.Labels.{thin_tag}
use Rattle.map_items.specs.declared.item.Item.{Item}
use Rattle.map_items.specs.Contents.{mark}
use Rattle.map_items.proofs.Numbered.{drop-at, mark-within}
use Rattle.kd_tree.specs.Contents.{contents}
use Rattle.kd_tree.proofs.Held.{contents_kept}
use Rattle.map_update.specs.Clearing.{in_some}
use Rattle.map_update.proofs.Detached.{left_itself, left_trans}
use Rattle.map_update.proofs.Drafted.{worked_itself, worked_then}
use Rattle.map_update.proofs.Thinnings.{thinned_first, thinned_none}
use Rattle.map_update.proofs.draft.Draft.cleared_singly.Goals as goal

pub loop-cuboid-init : goal.loop-cuboid-init
loop-cuboid-init g c = record { rest = refl; draft = λ next last ps d. (ps, left_itself ps, d); drafted = worked_itself 0 0 c.args.self }

pub marked-requires : goal.marked-requires
marked-requires g c =
    let r = c.requires.draft in
    let k = c.loop-cuboid.invariant.draft r.0 r.1.0 r.1.1 r.1.2 in
    record { draft = (r.0, (r.1.0, k.0, k.2)) }

pub loop-cuboid-preserved : goal.loop-cuboid-preserved
loop-cuboid-preserved g c =
    let box = c.cuboid-item.result in
    let cs = c.args.cuboids.now in
    let i = c.loop-cuboid.cuboid-index in
    let m = contents c.loop-cuboid.draft.tree in
    let cut : drop i cs ≡ box ∷ drop (i + 1) cs = drop-at cs _ i box (omega arith) c.loop-cuboid-test.true c.cuboid-item.is in
    record {
      rest =
          ap (λ (xs : List Item). mark xs (in_some (drop (i + 1) cs)) thin_tag) (c.in_ok-draft.ensures.contents ∙ mark-within c.within.result box m thin_tag c.within.ensures)
          ∙ thinned_first box (drop (i + 1) cs) m ∙ ap (λ (ds : List Bounds). mark m (in_some ds) thin_tag) (sym cut) ∙ c.loop-cuboid.invariant.rest;
      draft = λ next last ps d.
          let k = c.loop-cuboid.invariant.draft next last ps d in
          let l = c.in_ok-draft.ensures.draft next last k.0 k.2 in
          (l.0, left_trans ps k.0 l.0 k.1 l.1, l.2);
      drafted = worked_then 0 i 0 1 0 (i + 1) c.args.self c.loop-cuboid.draft c.in_ok-draft.draft (omega arith) (omega arith) c.loop-cuboid.invariant.drafted c.in_ok-draft.ensures.drafted;
    }

pub returns-clause-contents : goal.returns-clause-contents
returns-clause-contents g c =
    let cs = c.args.cuboids.now in
    let i = c.loop-cuboid.cuboid-index in
    let t = c.loop-cuboid.draft.tree in
    let none = drop_all i cs c.loop-cuboid-test.false in
    sym (thinned_none (contents t) (contents_kept t)) ∙ ap (λ (ds : List Bounds). mark (contents t) (in_some ds) thin_tag) (sym none) ∙ c.loop-cuboid.invariant.rest

pub returns-clause-draft : goal.returns-clause-draft
returns-clause-draft g c = λ next last ps d. c.loop-cuboid.invariant.draft next last ps d
