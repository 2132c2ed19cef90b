use Rattle.std.proofs.Common.{◌≡◌, ◌++◌, [], ◌∷◌, false, sym, ap, ◌∙◌, rules}
use Rattle.node_labels.specs.Labels.{thin_tag}
use Rattle.point_geom.specs.Place.{Bounds}
use Rattle.point_geom.specs.Boxes.{voxel}
use Rattle.map_items.specs.declared.item.Item.{Item}
use Rattle.map_fold.specs.Answers.{inside_all}
use Rattle.map_items.specs.Contents.{comes_before, in_box, live_at, mark}
use Rattle.map_items.proofs.Numbered.{mark-within, put-above}
use Rattle.map_fold.proofs.Thinning.{thin_none, thin_same}
use Rattle.map_fold.proofs.thin.thin_one.Goals as goal

pub returns-in-None : goal.returns-in-None
returns-in-None c =
    let m = c.args.items.now.items in
    let n = c.args.number in
    let p = c.args.point.now in
    let none : inside_all m (voxel c.args.edge p) ≡ [] = rw (c.as_slice.ensures.value, c.voxel-cube.ensures.value) at c.in-None.ensures in
    c.in_ok-push-in-None.ensures.items ∙ ap (λ (i : Item). m ++ i ∷ []) c.live-new.ensures ∙ sym (thin_none c.args.edge n m p c.requires.held none ∙ put-above 0 n m p c.requires.held)

pub returns-then-not-comes_before : goal.returns-then-not-comes_before
returns-then-not-comes_before c =
    let m = c.args.items.now.items in
    let n = c.args.number in
    let p = c.args.point.now in
    let w = c.in-One.rival in
    let alone : inside_all m (voxel c.args.edge p) ≡ w ∷ [] = rw (c.as_slice.ensures.value, c.voxel-cube.ensures.value) at c.in-One.ensures in
    let behind : comes_before (voxel c.args.edge p) (live_at n p) w ≡ false =
    ap (λ (b : Bounds). comes_before b (live_at n p) w) (sym c.voxel-cube.ensures.value)
    ∙ ap (λ (i : Item). comes_before c.voxel-cube.result i w) (sym c.live-new.ensures) ∙ sym c.comes_before.ensures
    ∙ c.if-not-comes_before.true in
    sym (thin_same c.args.edge n m p w c.requires.held alone behind)

pub returns : goal.returns
returns c =
    let marked : c.mark_items.new.items.items ≡ mark c.args.items.now.items (in_box c.voxel-cube.result) thin_tag =
    c.mark_items.ensures ∙ mark-within c.within.result c.voxel-cube.result _ _ c.within.ensures in
    search rules
