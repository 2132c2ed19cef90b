use Rattle.std.proofs.Common.{◌≡◌, [], ◌∷◌, ◌+◌, ◌++◌, ◌<◌, ◌≤◌, ◌⊎◌, ◌∙◌, ℕ, true, List, ap, arith, drop, get_or, inl, inr, length, length-append, subst, sym}
use Rattle.std.specs.Prelude.{IfOk}
use Rattle.std.proofs.lemmas.List.{drop_all}
use Rattle.std.proofs.lemmas.List.Elements.{All-head, All-tail}
use Rattle.std.proofs.lemmas.Result.{IfOk-weaker}
use Rattle.point_geom.specs.Place.{Bounds}
use Rattle.point_geom.specs.Boxes.{voxel}
use Rattle.map_items.specs.declared.item.Item.{Item}
use Rattle.map_items.specs.Contents.{Member, in_box}
use Rattle.map_items.specs.Fold.{MapAt, thin_points}
use Rattle.map_items.proofs.Folds.{thin_next}
use Rattle.map_items.proofs.Numbered.{drop-at}
use Rattle.kd_tree.specs.Contents.{contents}
use Rattle.kd_tree.proofs.Held.{are_contents}
use Rattle.map_update.specs.declared.entrants.Entrant.{Entrant}
use Rattle.map_update.specs.declared.waiting.Waiting.{Waiting}
use Rattle.map_update.specs.declared.draft.Draft.{Draft}
use Rattle.map_update.specs.Draft.{HasRoomFor, IsDraft, IsDraftLeft}
use Rattle.map_update.specs.Entrants.{HaveOwnVoxels, AreEntrants, AreFirsts, thin_each}
use Rattle.kd_tree.specs.Maps.{map_of}
use Rattle.map_update.specs.Ranks.{HaveVoxels, items_in}
use Rattle.map_update.specs.Waiting.{AreClear, IsClear, IsJoined, contents_of}
use Rattle.map_update.proofs.AnyOrder.{thin_firsts}
use Rattle.map_update.proofs.Entering.{entrants_after}
use Rattle.map_update.proofs.Entrances.{none_clear, still_clear}
use Rattle.map_update.proofs.Firsts.{firsts_enter}
use Rattle.map_update.proofs.Working.{draft_more}
use Rattle.map_update.proofs.waiting.thinned_at_once.Goals as goal

-- a map is what it holds and its next number
map_alike : (a : MapAt) (m : List Item) (n : ℕ) → m ≡ a.items → n ≡ a.next → record { items = m; next = n } ≡ a
map_alike a m n e f = let F : List Item → ℕ → MapAt = λ x y. record { items = x; next = y } in ap (λ x. F x n) e ∙ ap (λ y. F a.items y) f

-- at most one item more waits
joined_few : (box : Bounds) (v w : Waiting) → IsJoined box v w → length w.items.items ≤ length v.items.items + 1
joined_few box v w joined = over joined.items
  where
    over : (w.items.items ≡ v.items.items) ⊎ ((i : Item) × (in_box box i ≡ true) × (w.items.items ≡ v.items.items ++ i ∷ [])) → length w.items.items ≤ length v.items.items + 1
    over (inl same) = omega (arith, ap (λ (xs : List Item). length xs) same)
    over (inr one) = omega (arith, ap (λ (xs : List Item). length xs) one.2, length-append v.items.items (one.0 ∷ []))

-- and at most one box more is to be thinned
joined_few_thinned : (box : Bounds) (v w : Waiting) → IsJoined box v w → length w.cuboids.items ≤ length v.cuboids.items + 1
joined_few_thinned box v w joined = over joined.cuboids
  where
    over : (w.cuboids.items ≡ v.cuboids.items) ⊎ ((d : Bounds) × ((i : Item) → in_box d i ≡ true → in_box box i ≡ true) × (w.cuboids.items ≡ v.cuboids.items ++ d ∷ []))
        → length w.cuboids.items ≤ length v.cuboids.items + 1
    over (inl same) = omega (arith, ap (λ (cs : List Bounds). length cs) same)
    over (inr one) = omega (arith, ap (λ (cs : List Bounds). length cs) one.2, length-append v.cuboids.items (one.0 ∷ []))

pub loop-entrant-init : goal.loop-entrant-init
loop-entrant-init g c =
    let edge = c.args.settings.now.voxel in
    let next = c.args.next in
    let high = next + length c.args.points.now in
    let m = contents c.args.draft.tree in
    let es = c.as_slice-entrant-items.result.now in
    let held = are_contents next c.args.draft.tree c.size-size.ensures.sound c.requires.draft.2.below in
    let firsts : AreFirsts edge next c.args.points.now (items_in es) =
    subst (λ (xs : List Entrant). AreFirsts edge next c.args.points.now (items_in xs))
    (sym c.as_slice-entrant-items.ensures.value) c.in_ok-entrants.ensures.firsts in
    let ready = firsts_enter edge next c.args.points.now (items_in es) m c.large-large.ensures.sizes.voxel_from held firsts in
    record {
      waiting =
          c.none-waiting.ensures.waiting high (let d = c.requires.draft in
          (draft_more c.args.settings.now.large next high d.0 d.1 c.args.draft (omega arith) d.2).below);
      rest = ap (λ (xs : List Item). thin_each edge xs (items_in es)) c.none-waiting.ensures.held;
      ready = subst (λ (xs : List Item). AreEntrants high xs (items_in es)) (sym c.none-waiting.ensures.held) ready;
      apart = firsts.apart;
      clear = none_clear edge c.none-waiting.result (items_in es) c.none-waiting.ensures.unthinned c.none-waiting.ensures.none;
      draft = c.none-waiting.ensures.same;
      few = omega (arith, ap (λ (xs : List Item). length xs) c.none-waiting.ensures.none);
      few_thinned = omega (arith, ap (λ (cs : List Bounds). length cs) c.none-waiting.ensures.unthinned);
    }

-- the entrant and those that remain
cut : (es : List Entrant) (k : ℕ) (e : Entrant) → k < length es → e ≡ get_or es k e → drop k es ≡ e ∷ drop (k + 1) es
cut es k e below is = drop-at es (k + 1) k e (omega arith) below is

-- it has its own voxel
own : (edge : ℕ) (es : List Entrant) (k : ℕ) (e : Entrant) → HaveVoxels edge es → k < length es → e ≡ get_or es k e → e.cube ≡ voxel edge e.item.point
own edge es k e all below is = subst (λ (x : Entrant). x.cube ≡ voxel edge x.item.point) (sym is) (all k e below)

pub thinned-requires-clause-clear : goal.thinned-requires-clause-clear
thinned-requires-clause-clear g c =
    let edge = c.args.settings.now.voxel in
    let es = c.as_slice-entrant-items.result.now in
    let k = c.loop-entrant.entrant-index in
    let e = c.entrant-item.result in
    let v = c.loop-entrant.waiting in
    let voxels : HaveVoxels edge es = subst (HaveVoxels edge) (sym c.as_slice-entrant-items.ensures.value) c.in_ok-entrants.ensures.cubes in
    let left = items_in (drop (k + 1) es) in
    let clear : AreClear edge v (e.item ∷ left) = subst (λ (xs : List Entrant). AreClear edge v (items_in xs)) (cut es k e c.loop-entrant-test.true c.entrant-item.is) c.loop-entrant.invariant.clear in
    subst (λ (b : Bounds). IsClear b v) (sym (own edge es k e voxels c.loop-entrant-test.true c.entrant-item.is)) (All-head (λ (i : Item). IsClear (voxel edge i.point) v) e.item left clear)

pub loop-entrant-preserved : goal.loop-entrant-preserved
loop-entrant-preserved g c =
    let edge = c.args.settings.now.voxel in
    let high = c.args.next + length c.args.points.now in
    let es = c.as_slice-entrant-items.result.now in
    let k = c.loop-entrant.entrant-index in
    let e = c.entrant-item.result in
    let v = c.loop-entrant.waiting in
    let w = c.in_ok-waiting.waiting in
    let left = items_in (drop (k + 1) es) in
    let parts = cut es k e c.loop-entrant-test.true c.entrant-item.is in
    let voxels : HaveVoxels edge es = subst (HaveVoxels edge) (sym c.as_slice-entrant-items.ensures.value) c.in_ok-entrants.ensures.cubes in
    let cube = own edge es k e voxels c.loop-entrant-test.true c.entrant-item.is in
    let ready : AreEntrants high (contents_of v) (e.item ∷ left) = subst (λ (xs : List Entrant). AreEntrants high (contents_of v) (items_in xs)) parts c.loop-entrant.invariant.ready in
    let apart : HaveOwnVoxels edge (e.item ∷ left) = subst (λ (xs : List Entrant). HaveOwnVoxels edge (items_in xs)) parts c.loop-entrant.invariant.apart in
    let clear : AreClear edge v (e.item ∷ left) = subst (λ (xs : List Entrant). AreClear edge v (items_in xs)) parts c.loop-entrant.invariant.clear in
    let joined : IsJoined (voxel edge e.item.point) v w = subst (λ (b : Bounds). IsJoined b v w) cube c.in_ok-waiting.ensures.joined in
    record {
      waiting = c.in_ok-waiting.ensures.waiting;
      rest =
          ap (λ (xs : List Item). thin_each edge xs left) c.in_ok-waiting.ensures.held
          ∙ ap (λ (xs : List Entrant). thin_each edge (contents_of v) (items_in xs)) (sym parts)
          ∙ c.loop-entrant.invariant.rest;
      ready =
          subst (λ (xs : List Item). AreEntrants high xs left) (sym c.in_ok-waiting.ensures.held)
          (entrants_after edge high (contents_of v) e.item left c.loop-entrant.invariant.waiting.held ready);
      apart = apart.1;
      clear = still_clear edge e.item left v w c.large-large.ensures.sizes.voxel_from apart.0 (All-tail (λ (i : Item). IsClear (voxel edge i.point) v) e.item left clear) joined;
      draft = c.in_ok-waiting.ensures.draft ∙ c.loop-entrant.invariant.draft;
      few = omega (arith, c.loop-entrant.invariant.few, joined_few (voxel edge e.item.point) v w joined);
      few_thinned = omega (arith, c.loop-entrant.invariant.few_thinned, joined_few_thinned (voxel edge e.item.point) v w joined);
    }

pub put-requires-clause-draft : goal.put-requires-clause-draft
put-requires-clause-draft g c =
    let large = c.args.settings.now.large in
    let high = c.args.next + length c.args.points.now in
    let d = c.requires.draft in
    (d.0, d.1, rw c.large-large.ensures.value (subst (IsDraft large high d.0 d.1) (sym c.loop-entrant.invariant.draft) (draft_more large c.args.next high d.0 d.1 c.args.draft (omega arith) d.2)))

pub returns-clause-draft : goal.returns-clause-draft
returns-clause-draft g c = λ last ps d.
    let v = c.loop-entrant.waiting.draft in
    let large = c.args.settings.now.large in
    let high = c.args.next + length c.args.points.now in
    subst (λ (l : ℕ). IsDraft l high last ps v → IfOk c.put.result (IsDraftLeft l high last ps)) c.large-large.ensures.value (c.put.ensures.draft last ps)
    (subst (IsDraft large high last ps) (sym c.loop-entrant.invariant.draft) (draft_more large c.args.next high last ps c.args.draft (omega arith) d))

pub returns-clause-kept : goal.returns-clause-kept
returns-clause-kept g c = λ room x there own.
    let v = c.loop-entrant.waiting in
    let same = sym c.loop-entrant.invariant.draft in
    let n = length c.args.points.now in
    let es = c.as_slice-entrant-items.result.now in
    let short : length es ≤ n = omega (arith, ap (λ (xs : List Entrant). length xs) c.as_slice-entrant-items.ensures.value, c.in_ok-entrants.ensures.few) in
    let most : c.loop-entrant.entrant-index ≤ length es = c.loop-entrant.auto.entrant-index-end in
    let few = c.loop-entrant.invariant.few in
    let few_thinned = c.loop-entrant.invariant.few_thinned in
    let left : HasRoomFor (length v.items.items) c.args.draft = record { low = omega (arith, room.low, few, most, short); few = omega (arith, room.few, few, most, short) } in
    c.put.ensures.kept (subst (HasRoomFor (length v.items.items)) same left) x (subst (λ (w : Draft). Member x w.watches) same there)
    (omega (arith, own, few, few_thinned, most, short))

pub returns-clause-stepped : goal.returns-clause-stepped
returns-clause-stepped g c =
    let edge = c.args.settings.now.voxel in
    let next = c.args.next in
    let ps = c.args.points.now in
    let t = c.args.draft.tree in
    let es = c.as_slice-entrant-items.result.now in
    let w = c.loop-entrant.waiting in
    let held = are_contents next t c.size-size.ensures.sound c.requires.draft.2.below in
    let firsts : AreFirsts edge next ps (items_in es) =
    subst (λ (xs : List Entrant). AreFirsts edge next ps (items_in xs)) (sym c.as_slice-entrant-items.ensures.value)
    c.in_ok-entrants.ensures.firsts in
    let none = drop_all c.loop-entrant.entrant-index es c.loop-entrant-test.false in
    let whole : contents_of w ≡ (thin_points edge ps (map_of t next)).items =
    ap (λ (xs : List Entrant). thin_each edge (contents_of w) (items_in xs)) (sym none) ∙ c.loop-entrant.invariant.rest
    ∙ thin_firsts edge next ps (items_in es) (contents t) c.large-large.ensures.sizes.voxel_from held firsts in
    IfOk-weaker c.put.result _ (λ (u : Draft). map_of u.tree (next + length ps) ≡ thin_points edge ps (map_of t next))
    (λ u e. map_alike (thin_points edge ps (map_of t next)) (contents u.tree) (next + length ps) (e ∙ whole) (sym (thin_next edge ps (map_of t next)))) c.put.ensures.held
