-- What a point that is put does to a watched subtree.
use Rattle.std.proofs.Common.{◌≡◌, ℕ, ◌<◌, Bool, true, false, cond, refl, ◌∙◌, sym, subst, arith, List, [], ◌∷◌, ◌++◌, Some, ◌==◌}
use Rattle.std.proofs.lemmas.List.Sorted.{sum_by-IsPermutation}
use Rattle.point_geom.specs.Place.{Place}
use Rattle.point_geom.specs.Axes.{next_axis}
use Rattle.point_geom.specs.declared.axis.Axis.{Axis}
use Rattle.node_labels.specs.Labels.{composed, keep_tag}
use Rattle.node_labels.specs.declared.tag.Tag.{Tag}
use Rattle.node_labels.proofs.Laws.{composed-keep_right}
use Rattle.map_items.specs.declared.item.Item.{Item}
use Rattle.map_items.specs.declared.op.Op.{Op}
use Rattle.map_items.specs.Contents.{relabelled}
use Rattle.map_items.specs.Ops.{IsUnheld}
use Rattle.kd_tree.specs.Shape.{Head, Shape, leaf, fork, nodes}
use Rattle.kd_tree.specs.Walk.{tagged, times, walk}
use Rattle.kd_tree.specs.Contents.{contents}
use Rattle.kd_tree.specs.Sound.{IsSound}
use Rattle.kd_tree.specs.Parts.{at, child}
use Rattle.kd_tree.specs.declared.path.Side.{Side}
use Rattle.kd_tree.specs.declared.path.Side.TheVariants.{Left, Right}
use Rattle.kd_tree.proofs.Actions.{tagged_nodes, sound_once, pushed_sound}
use Rattle.kd_tree.proofs.Contents.{times_walk}
use Rattle.kd_tree.proofs.Held.{contents_few}
use Rattle.kd_tree.proofs.Numbered.{by_number_moves}
use Rattle.kd_update.specs.Put.{goes_left, put_under, put_from}
use Rattle.kd_mark.specs.Watch.{handed, IsWatched}
use Rattle.kd_update.specs.Watch.{goes_to, logged_put}
use Rattle.kd_update.proofs.Route.{child-put, nodes-put, contents-put, new_children}
use Rattle.kd_mark.proofs.WatchedMark.{watched_same, watched_handed, watched_child, at_child, child_done, at-tagged}

new_in : (n : ℕ) (t : Shape) → times n keep_tag t ≡ 0 → IsUnheld n (contents t)
new_in n t none =
    let g : Item → ℕ = λ i. cond (n == i.number) 1 0 in
    omega (arith, times_walk n keep_tag t, sum_by-IsPermutation g _ _ (by_number_moves (walk keep_tag t)))

at_child_tagged : (path : List Side) (q : Tag) (t s : Shape) → at path t ≡ Some s → IsWatched path t (tagged (composed q keep_tag) t) (handed path q ++ [])
at_child_tagged path q t s e =
    let u = at-tagged path q t s e in
    subst (λ b. IsWatched path t (tagged b t) (handed path q ++ [])) (sym (composed-keep_right q)) (watched_handed path q t (tagged q t) s [] e (watched_same path (tagged q t) u.0 u.1))

-- a child of a sound tree that a point may go on to
sound_on : (side : Side) (h : Head) (l r : Shape) → IsSound (fork h l r) → IsSound (tagged h.pending (child side l r))
sound_on Left h l r sound = (pushed_sound h l r sound).1
sound_on Right h l r sound = (pushed_sound h l r sound).2

free_on : (n : ℕ) (side : Side) (h : Head) (l r : Shape) → times n keep_tag (fork h l r) ≡ 0
    → nodes (fork h l r) < 4194304
    → (times n keep_tag (tagged h.pending (child side l r)) ≡ 0) × (nodes (tagged h.pending (child side l r)) < 4194304)
free_on n Left h l r new few = ((new_children n h l r new).0, omega (arith, few, tagged_nodes h.pending l))
free_on n Right h l r new few = ((new_children n h l r new).1, omega (arith, few, tagged_nodes h.pending r))

-- the watched child of a node on the route, whether the point goes on to it or not
route_watched : (side : Side) (b : Bool) (path : List Side) (h g : Head) (l r l' r' lo ro : Shape) (xs ops : List Op)
    → IsWatched path (child side l r) (child side l' r') (xs ++ ops)
    → IsWatched path (child side l r) (child side lo ro) (xs ++ [])
    → IsWatched (side ∷ path) (fork h l r) (cond b (fork g l' ro) (fork g lo r')) (xs ++ cond (goes_to side b) ops [])
route_watched Left true path h g l r l' r' lo ro xs ops u v = watched_child Left path h g l r l' ro (xs ++ ops) u
route_watched Left false path h g l r l' r' lo ro xs ops u v = watched_child Left path h g l r lo r' (xs ++ []) v
route_watched Right true path h g l r l' r' lo ro xs ops u v = watched_child Right path h g l r l' ro (xs ++ []) v
route_watched Right false path h g l r l' r' lo ro xs ops u v = watched_child Right path h g l r lo r' (xs ++ ops) u

-- A point put into a tree is, for the subtree at a path, what is logged of it.
pub watched-put : (n : ℕ) (p : Place) (axis : Axis) (path : List Side) (t s : Shape) → at path t ≡ Some s → IsSound t → times n keep_tag t ≡ 0 → nodes t < 4194304
    → IsWatched path t (put_from n p axis t) (logged_put n p path t)
unfolding put_under logged_put
watched-put n p axis [] t s e sound new few = record {
  before = t;
  after = put_from n p axis t;
  was = refl;
  is = refl;
  size = omega (arith, nodes-put n p axis keep_tag t);
  fit = (new_in n t new, omega (arith, contents_few t), tt);
  replayed = contents-put n p axis t (sound_once t sound) new;
}
watched-put n p axis (side ∷ path) leaf s e sound new few = absurd (cc)
watched-put n p axis (side ∷ path) (fork h l r) s e sound new few =
    let pending = composed h.pending keep_tag in
    let next = next_axis h.axis in
    let x = child side l r in
    let l' = put_under n p next pending l in
    let r' = put_under n p next pending r in
    let here : at path x ≡ Some s = at_child side path h l r s e in
    let u = at-tagged path h.pending x s here in
    let free = free_on n side h l r new few in
    let ops = logged_put n p path (tagged h.pending x) in
    let below =
    subst (λ z. IsWatched path (tagged h.pending x) z ops)
    (child-put n p next h.pending x ∙ child_done (put_under n p next pending) side l r)
    (watched-put n p next path (tagged h.pending x) u.0 u.1 (sound_on side h l r sound) free.0 free.1) in
    route_watched side (goes_left h.axis p h.item.point) path h
    (record h { item = relabelled keep_tag h.item; pending = keep_tag }) l r l' r' (tagged pending l)
    (tagged pending r) (handed path h.pending) ops
    (watched_handed path h.pending x (child side l' r') s ops here below) (subst
    (λ z. IsWatched path x z (handed path h.pending ++ [])) (child_done (tagged pending) side l r)
    (at_child_tagged path h.pending x s here))
