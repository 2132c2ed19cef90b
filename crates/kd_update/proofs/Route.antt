-- A tree with one more point, without rebuilding.
use Rattle.std.proofs.Common.{◌≡◌, ℕ, ℤ, ◌+◌, ◌*◌, ◌≤◌, ◌<◌, ◌≤ℤ◌, max, Bool, true, false, cond, refl, ap, ◌∙◌, sym, arith, subst, Some, List, [], ◌∷◌, ◌++◌, count_by, int_lt, IsPermutation, ◌==◌}
use Rattle.std.proofs.lemmas.Bool.{cond_both, cond-true, cond-false}
use Rattle.std.proofs.lemmas.Bool.Decides.{nat_tests}
use Rattle.std.proofs.lemmas.Int.{ints}
use Rattle.std.proofs.lemmas.List.Elements.{All-cons}
use Rattle.std.proofs.lemmas.List.Sorted.{All-permutation, sum_by-IsPermutation, IsPermutation-refl, IsPermutation-sym, IsPermutation-trans, IsPermutation-append_left, IsPermutation-append_right, IsPermutation-middle}
use Rattle.std.proofs.lemmas.List.Sums.{sum_by-cons}
use Rattle.point_geom.specs.Place.{Place}
use Rattle.point_geom.specs.Axes.{on, next_axis}
use Rattle.point_geom.specs.declared.axis.Axis.{Axis}
use Rattle.node_labels.specs.Labels.{composed, keep_tag}
use Rattle.node_labels.specs.declared.tag.Tag.{Tag}
use Rattle.node_labels.proofs.Laws.{composed-keep_right}
use Rattle.map_items.specs.declared.item.Item.{Item}
use Rattle.map_items.specs.Contents.{live_at, put, relabelled, kept}
use Rattle.kd_tree.specs.Shape.{Head, Shape, leaf, fork, nodes, levels, numbers}
use Rattle.kd_tree.specs.Walk.{walk, tagged, AllKept, times}
use Rattle.kd_tree.specs.Sound.{IsSound, IsSoundFork, IsTopSound}
use Rattle.kd_tree.specs.Contents.{contents}
use Rattle.kd_tree.specs.Parts.{pushed}
use Rattle.kd_tree.specs.Apart.{is_here}
use Rattle.kd_tree.specs.declared.change.Fork.{Fork}
use Rattle.kd_tree.specs.declared.path.Side.{Side}
use Rattle.kd_tree.specs.declared.path.Side.TheVariants.{Left, Right}
use Rattle.kd_tree.proofs.Actions.{tagged_nodes, tagged_levels, tagged_numbers, times-tagged, pushed_sound, sound_once}
use Rattle.kd_tree.proofs.Numbered.{by_number_moves, by_number-moved, counted_in, insert-put}
use Rattle.kd_tree.proofs.Contents.{relabelled-keep, times_walk, once_walk, parts_alike}
use Rattle.kd_mark.specs.Refresh.{AreAmong, IsNotDue, IsRefresh}
use Rattle.kd_update.specs.Made.{entered_put}
use Rattle.kd_update.specs.Put.{goes_left, put_under, put_from, side_of, RebuildsNoneOnRoute}
use Rattle.kd_mark.specs.Several.{large_at}
use Rattle.kd_tree.proofs.Left.{all_left, left_all}
use Rattle.kd_mark.proofs.Trees.{forked, at_pushed, walk-tagged_keep, among_same}
use Rattle.kd_mark.proofs.Among.{among_left, among_right}
use Rattle.kd_mark.proofs.Refresh.{head, refresh_contents, tops_alike}
use Rattle.kd_mark.proofs.Near.{near}
use Rattle.kd_update.proofs.Near.{with_near}

-- a put after an action on all
pub put-tagged : (n : ℕ) (p : Place) (axis : Axis) (a : Tag) (t : Shape) → put_under n p axis keep_tag (tagged a t) ≡ put_under n p axis a t
unfolding put_under
put-tagged n p axis a leaf = refl
put-tagged n p axis a (fork h l r) = rw (relabelled-keep (relabelled a h.item), composed-keep_right (composed h.pending a)) refl

-- a child that was handed the pending action
pub child-put : (n : ℕ) (p : Place) (axis : Axis) (q : Tag) (t : Shape) → put_from n p axis (tagged q t) ≡ put_under n p axis (composed q keep_tag) t
child-put n p axis q t = put-tagged n p axis q t ∙ ap (λ b. put_under n p axis b t) (sym (composed-keep_right q))

pub nodes-put : (n : ℕ) (p : Place) (axis : Axis) (a : Tag) (t : Shape) → nodes (put_under n p axis a t) ≡ nodes t + 1
unfolding put_under
nodes-put n p axis a leaf = refl
nodes-put n p axis a (fork h l r) =
    let P : Shape → Type 0 = λ s. nodes s ≡ nodes l + nodes r + 1 + 1 in
    let pending = composed h.pending a in
    cond_both (goes_left h.axis p h.item.point) _ _ P
    (λ _. omega (arith, nodes-put n p (next_axis h.axis) pending l, tagged_nodes pending r))
    (λ _. omega (arith, nodes-put n p (next_axis h.axis) pending r, tagged_nodes pending l))

pub levels-put : (n : ℕ) (p : Place) (axis : Axis) (a : Tag) (t : Shape) → levels (put_under n p axis a t) ≤ levels t + 1
unfolding put_under
levels-put n p axis a leaf = omega arith
levels-put n p axis a (fork h l r) =
    let P : Shape → Type 0 = λ s. levels s ≤ max (levels l) (levels r) + 1 + 1 in
    let pending = composed h.pending a in
    cond_both (goes_left h.axis p h.item.point) _ _ P
    (λ _. omega (arith, levels-put n p (next_axis h.axis) pending l, tagged_levels pending r))
    (λ _. omega (arith, levels-put n p (next_axis h.axis) pending r, tagged_levels pending l))

-- each number is the new one or was there
pub numbers-put : (n : ℕ) (p : Place) (axis : Axis) (a : Tag) (t : Shape) → AreAmong (numbers (put_under n p axis a t)) (n ∷ numbers t)
unfolding put_under
numbers-put n p axis a leaf = among_same (n ∷ [])
numbers-put n p axis a (fork h l r) =
    let P : Shape → Type 0 = λ s. AreAmong (numbers s) (n ∷ h.item.number ∷ (numbers l ++ numbers r)) in
    let pending = composed h.pending a in
    cond_both (goes_left h.axis p h.item.point) _ _ P
    (λ _. subst (λ z. AreAmong (h.item.number ∷ (numbers (put_under n p (next_axis h.axis) pending l) ++ z)) (n ∷ h.item.number ∷ (numbers l ++ numbers r))) (sym (tagged_numbers pending r))
    (among_left h.item.number (numbers (put_under n p (next_axis h.axis) pending l)) (numbers l) (numbers r) (n ∷ []) (numbers-put n p (next_axis h.axis) pending l)))
    (λ _. subst (λ z. AreAmong (h.item.number ∷ (z ++ numbers (put_under n p (next_axis h.axis) pending r))) (n ∷ h.item.number ∷ (numbers l ++ numbers r))) (sym (tagged_numbers pending l))
    (among_right h.item.number (numbers (put_under n p (next_axis h.axis) pending r)) (numbers l) (numbers r) (n ∷ []) (numbers-put n p (next_axis h.axis) pending r)))

moved_left : {X : Type 0} (x : X) (k l r l' : List X) → IsPermutation (x ∷ l) l' → IsPermutation (x ∷ (k ++ (l ++ r))) (k ++ (l' ++ r))
moved_left x k l r l' m =
    IsPermutation-trans _ _ _ (IsPermutation-sym _ _ (IsPermutation-middle k x (l ++ r))) (IsPermutation-append_right k _ _ (IsPermutation-append_left r _ _ m))

moved_right : {X : Type 0} (x : X) (k l r r' : List X) → IsPermutation (x ∷ r) r' → IsPermutation (x ∷ (k ++ (l ++ r))) (k ++ (l ++ r'))
moved_right x k l r r' m =
    IsPermutation-trans _ _ _ (IsPermutation-sym _ _ (IsPermutation-middle k x (l ++ r)))
    (IsPermutation-append_right k _ _ (IsPermutation-trans _ _ _ (IsPermutation-sym _ _ (IsPermutation-middle l x r)) (IsPermutation-append_right l _ _ m)))

-- the walk has one item more
pub walk-put : (n : ℕ) (p : Place) (axis : Axis) (a : Tag) (t : Shape) → IsPermutation (live_at n p ∷ walk a t) (walk keep_tag (put_under n p axis a t))
unfolding put_under
walk-put n p axis a leaf = IsPermutation-refl (live_at n p ∷ [])
walk-put n p axis a (fork h l r) =
    let Q : Shape → Type 0 = λ s. IsPermutation (live_at n p ∷ walk a (fork h l r)) (walk keep_tag s) in
    let pending = composed h.pending a in
    let own : kept (relabelled a h.item ∷ []) ≡ kept (relabelled keep_tag (relabelled a h.item) ∷ []) = ap (λ i. kept (i ∷ [])) (sym (relabelled-keep (relabelled a h.item))) in
    let pl = put_under n p (next_axis h.axis) pending l in
    let pr = put_under n p (next_axis h.axis) pending r in
    cond_both (goes_left h.axis p h.item.point) _ _ Q
    (λ _. subst (IsPermutation (live_at n p ∷ walk a (fork h l r))) (parts_alike _ _ _ _ _ _ own refl (sym (walk-tagged_keep pending r)))
    (moved_left (live_at n p) (kept (relabelled a h.item ∷ [])) (walk pending l) (walk pending r) (walk keep_tag pl) (walk-put n p (next_axis h.axis) pending l)))
    (λ _. subst (IsPermutation (live_at n p ∷ walk a (fork h l r))) (parts_alike _ _ _ _ _ _ own (sym (walk-tagged_keep pending l)) refl)
    (moved_right (live_at n p) (kept (relabelled a h.item ∷ [])) (walk pending l) (walk pending r) (walk keep_tag pr) (walk-put n p (next_axis h.axis) pending r)))

AllKept-put : (P : Place → Type 0) (n : ℕ) (p : Place) (axis : Axis) (a : Tag) (t : Shape) → P p → AllKept P a t → AllKept P keep_tag (put_under n p axis a t)
AllKept-put P n p axis a t here k =
    let F : Item → Type 0 = λ i. P i.point in
    left_all P keep_tag (put_under n p axis a t) (All-permutation F _ _ (walk-put n p axis a t) (All-cons F (live_at n p) (walk a t) here (all_left P a t k)))

times-put : (m n : ℕ) (p : Place) (axis : Axis) (t : Shape) → times m keep_tag (put_from n p axis t) ≡ cond (m == n) 1 0 + times m keep_tag t
times-put m n p axis t =
    let g : Item → ℕ = λ i. cond (m == i.number) 1 0 in
    omega (arith, times_walk m keep_tag (put_from n p axis t), times_walk m keep_tag t, sum_by-IsPermutation g _ _ (walk-put n p axis keep_tag t), sum_by-cons g (live_at n p) (walk keep_tag t))

pub at_most_one : (m n x y : ℕ) → (m ≡ n → x ≡ y) → x ≤ 1 → y ≡ 0 → cond (m == n) 1 0 + x ≤ 1
at_most_one m n x y same few none = grind (arith, nat_tests)

-- no number occurs twice, where the new one wasn't held
pub once-put : (n : ℕ) (p : Place) (axis : Axis) (t : Shape) → ((m : ℕ) → times m keep_tag t ≤ 1) → times n keep_tag t ≡ 0 → (m : ℕ) → times m keep_tag (put_from n p axis t) ≤ 1
once-put n p axis t once none m = omega (arith, times-put m n p axis t, at_most_one m n (times m keep_tag t) (times n keep_tag t) (λ e. ap (λ k. times k keep_tag t) e) (once m) none)

-- the contents with one more point
pub contents-put : (n : ℕ) (p : Place) (axis : Axis) (t : Shape) → ((m : ℕ) → times m keep_tag t ≤ 1) → times n keep_tag t ≡ 0 → contents (put_from n p axis t) ≡ put (contents t) n p
contents-put n p axis t once none =
    let walked = walk-put n p axis keep_tag t in
    let g : Item → ℕ = λ i. cond (n == i.number) 1 0 in
    let new : count_by (λ i. n == i.number) (contents t) ≡ 0 = omega (arith, times_walk n keep_tag t, sum_by-IsPermutation g _ _ (by_number_moves (walk keep_tag t))) in
    let distinct = once_walk (put_from n p axis t) (once-put n p axis t once none) in
    by_number-moved _ _ (IsPermutation-sym _ _ walked) distinct ∙ insert-put (contents t) n p (λ i m e. absurd (omega (arith, new, counted_in i n (contents t) m e)))

-- so it is where some subtrees are rebuilt besides
pub put_contents : (n : ℕ) (p : Place) (axis : Axis) (s t : Shape) → IsSound s → times n keep_tag s ≡ 0 → IsRefresh (put_from n p axis s) t → contents t ≡ put (contents s) n p
put_contents n p axis s t sound new f =
    let once = sound_once s sound in
    refresh_contents (put_from n p axis s) t (once-put n p axis s once new) f ∙ contents-put n p axis s once new

pub put_numbers : (n : ℕ) (p : Place) (axis : Axis) (s t : Shape) → IsRefresh (put_from n p axis s) t → AreAmong (numbers t) (n ∷ numbers s)
put_numbers n p axis s t f m k = numbers-put n p axis keep_tag s m (f.from m k)

-- the route

pub le_of_true : (a b : ℤ) → int_lt a b ≡ true → a ≤ℤ b
le_of_true a b h = grind (arith, ints)

pub le_of_false : (a b : ℤ) → int_lt a b ≡ false → b ≤ℤ a
le_of_false a b h = grind (arith, ints)

-- the point may go on to this child
pub record IsFree (n : ℕ) (child : Shape) : Type 0 where
  pub low : levels child < 512
  pub few : nodes child < 4194304
  pub new : times n keep_tag child ≡ 0

-- what holds where the point goes on to the child on the side, when the top of s is taken apart to f
pub record IsOnRoute (n : ℕ) (p : Place) (axis : Axis) (s : Shape) (f : Fork) (side : Side) : Type 0 where
  pub value : with_near side f (put_from n p (next_axis f.axis) (near side f)) ≡ put_from n p axis s
  pub sound : IsTopSound (with_near side f (put_from n p (next_axis f.axis) (near side f)))
  pub criteria : (large : ℕ) → RebuildsNoneOnRoute large p (put_from n p axis s)
      → IsNotDue large (with_near side f (put_from n p (next_axis f.axis) (near side f))) × RebuildsNoneOnRoute large p (put_from n p (next_axis f.axis) (near side f))
  pub free : IsFree n (near side f)
  pub entered : entered_put p s ≡ 1 + entered_put p (near side f)

criteria_parts : (large : ℕ) (p : Place) (h : Head) (l r : Shape) → RebuildsNoneOnRoute large p (fork h l r)
    → IsNotDue large (fork h l r) × (goes_left h.axis p h.item.point ≡ true → RebuildsNoneOnRoute large p l) ×
    (goes_left h.axis p h.item.point ≡ false → RebuildsNoneOnRoute large p r)
unfolding RebuildsNoneOnRoute
criteria_parts large p h l r k = k

value_left : (n : ℕ) (p : Place) (axis : Axis) (h : Head) (l r : Shape) → goes_left h.axis p h.item.point ≡ true
    → fork (head h.item h.axis) (put_from n p (next_axis h.axis) (tagged h.pending l)) (tagged h.pending r)
    ≡ put_from n p axis (fork h l r)
unfolding put_under
value_left n p axis h l r e =
    tops_alike (λ i. i) h _ _ _ (tagged (composed h.pending keep_tag) r) (child-put n p (next_axis h.axis) h.pending l) (ap (λ t. tagged t r) (sym (composed-keep_right h.pending)))
    ∙ sym (cond-true (goes_left h.axis p h.item.point) _ _ e)

value_right : (n : ℕ) (p : Place) (axis : Axis) (h : Head) (l r : Shape) → goes_left h.axis p h.item.point ≡ false
    → fork (head h.item h.axis) (tagged h.pending l) (put_from n p (next_axis h.axis) (tagged h.pending r))
    ≡ put_from n p axis (fork h l r)
unfolding put_under
value_right n p axis h l r e =
    tops_alike (λ i. i) h _ _ (tagged (composed h.pending keep_tag) l) _ (ap (λ t. tagged t l) (sym (composed-keep_right h.pending))) (child-put n p (next_axis h.axis) h.pending r)
    ∙ sym (cond-false (goes_left h.axis p h.item.point) _ _ e)

pub new_children : (n : ℕ) (h : Head) (l r : Shape) → times n keep_tag (fork h l r) ≡ 0 → (times n keep_tag (tagged h.pending l) ≡ 0) × (times n keep_tag (tagged h.pending r) ≡ 0)
new_children n h l r k = (omega (arith, k, times-tagged n h.pending keep_tag l), omega (arith, k, times-tagged n h.pending keep_tag r))

free_children : (n : ℕ) (h : Head) (l r : Shape) → IsFree n (fork h l r) → IsFree n (tagged h.pending l) × IsFree n (tagged h.pending r)
free_children n h l r k =
    let new = new_children n h l r k.new in (
      record { low = omega (arith, k.low, tagged_levels h.pending l); few = omega (arith, k.few, tagged_nodes h.pending l); new = new.0 },
      record { low = omega (arith, k.low, tagged_levels h.pending r); few = omega (arith, k.few, tagged_nodes h.pending r); new = new.1 },
    )

entered_put-tagged : (p : Place) (a : Tag) (t : Shape) → entered_put p (tagged a t) ≡ entered_put p t
unfolding entered_put
entered_put-tagged p a leaf = refl
entered_put-tagged p a (fork h l r) = refl

entered_child : (p : Place) (h : Head) (l r : Shape) (b : Bool) → goes_left h.axis p h.item.point ≡ b
    → entered_put p (fork h l r) ≡ 1 + cond b (entered_put p (tagged h.pending l)) (entered_put p (tagged h.pending r))
unfolding entered_put
entered_child p h l r b e = rw (e, entered_put-tagged p h.pending l, entered_put-tagged p h.pending r) refl

-- a node with the point put below it is sound, where its children lie on their sides
route_sound : (n : ℕ) (p : Place) (axis : Axis) (h : Head) (l r l' r' : Shape) → IsSound (fork h l r) → IsFree n (fork h l r) → fork (head h.item h.axis) l' r' ≡ put_from n p axis (fork h l r)
    → AllKept (λ q. on h.axis q ≤ℤ on h.axis h.item.point) keep_tag l' → AllKept (λ q. on h.axis h.item.point ≤ℤ on h.axis q) keep_tag r' → IsSoundFork (head h.item h.axis) l' r'
route_sound n p axis h l r l' r' s k value below above = record {
  below = below;
  above = above;
  once = λ m. subst (λ z. times m keep_tag z ≤ 1) (sym value) (once-put n p axis (fork h l r) s.0.once k.new m);
  few = omega (arith, k.few, ap nodes value, nodes-put n p axis keep_tag (fork h l r));
  low = omega (arith, k.low, ap levels value, levels-put n p axis keep_tag (fork h l r));
}

left_fork : (n : ℕ) (p : Place) (axis : Axis) (h : Head) (l r : Shape) → goes_left h.axis p h.item.point ≡ true
    → IsSound (fork h l r) → IsFree n (fork h l r) → IsOnRoute n p axis (fork h l r) (forked h l r) Left
left_fork n p axis h l r e s k =
    let value = value_left n p axis h l r e in
    let next = next_axis h.axis in
    let P : Place → Type 0 = λ q. on h.axis q ≤ℤ on h.axis h.item.point in
    record {
      value = value;
      sound = route_sound n p axis h l r (put_from n p next (tagged h.pending l)) (tagged h.pending r) s k value
          (rw (put-tagged n p next h.pending l) (AllKept-put P n p next h.pending l (le_of_true (on h.axis p) (on h.axis h.item.point) e) s.0.below)) (pushed_sound h l r s).0.above;
      criteria = λ large all. let parts =
          criteria_parts large p (head h.item h.axis) (put_from n p next (tagged h.pending l)) (tagged h.pending r)
          (subst (RebuildsNoneOnRoute large p) (sym value) all) in (parts.0, parts.1 e);
      free = (free_children n h l r k).0;
      entered = entered_child p h l r true e;
    }

right_fork : (n : ℕ) (p : Place) (axis : Axis) (h : Head) (l r : Shape) → goes_left h.axis p h.item.point ≡ false
    → IsSound (fork h l r) → IsFree n (fork h l r) → IsOnRoute n p axis (fork h l r) (forked h l r) Right
right_fork n p axis h l r e s k =
    let value = value_right n p axis h l r e in
    let next = next_axis h.axis in
    let P : Place → Type 0 = λ q. on h.axis h.item.point ≤ℤ on h.axis q in
    record {
      value = value;
      sound = route_sound n p axis h l r (tagged h.pending l) (put_from n p next (tagged h.pending r)) s k value (pushed_sound h l r s).0.below
          (rw (put-tagged n p next h.pending r) (AllKept-put P n p next h.pending r (le_of_false (on h.axis p) (on h.axis h.item.point) e) s.0.above));
      criteria = λ large all. let parts =
          criteria_parts large p (head h.item h.axis) (tagged h.pending l) (put_from n p next (tagged h.pending r))
          (subst (RebuildsNoneOnRoute large p) (sym value) all) in (parts.0, parts.2 e);
      free = (free_children n h l r k).1;
      entered = entered_child p h l r false e;
    }

pub on_route : (n : ℕ) (p : Place) (axis : Axis) (s : Shape) (f : Fork) (side : Side) → Some f ≡ pushed s → side ≡ side_of f.axis p f.item.point → IsSound s → IsFree n s → IsOnRoute n p axis s f side
on_route n p axis s f side x e = subst (λ (w : Side). IsSound s → IsFree n s → IsOnRoute n p axis s f w) (sym e)
    (at_pushed (λ z g. IsSound z → IsFree n z → IsOnRoute n p axis z g (side_of g.axis p g.item.point)) s f x
    (λ h l r. cond_both (goes_left h.axis p h.item.point) Left Right
    (λ (w : Side). IsSound (fork h l r) → IsFree n (fork h l r) → IsOnRoute n p axis (fork h l r) (forked h l r) w)
    (left_fork n p axis h l r) (right_fork n p axis h l r)))

-- no tree has fewer than 0 nodes, so with 0 for the large ones no node of a route is to be rebuilt
pub route_none : (p : Place) (t : Shape) → RebuildsNoneOnRoute 0 p t
unfolding RebuildsNoneOnRoute
route_none p leaf = tt
route_none p (fork h l r) = ((λ many few. absurd (omega arith)), (λ e. route_none p l), (λ e. route_none p r))

-- and none is where a path ends, besides those where none is anyway
pub route_spared : (large m : ℕ) (ps : List (List Side)) (p : Place) (t : Shape) → m ≡ large_at ps large → RebuildsNoneOnRoute large p t → RebuildsNoneOnRoute m p t
route_spared large m ps p t e all = subst (λ k. RebuildsNoneOnRoute k p t) (sym e) (cond_both (is_here ps) 0 large (λ k. RebuildsNoneOnRoute k p t) (λ _. route_none p t) (λ _. all))

-- taking the top apart makes at most two
pub apart_put : (p : Place) (s : Shape) (a b : ℕ) → b ≤ a + 2 → (s ≡ leaf → b ≡ a) → b ≤ a + (3 * entered_put p s + 1)
unfolding entered_put
apart_put p leaf a b k e = omega (arith, e refl)
apart_put p (fork h l r) a b k e = omega (arith, k)

-- a node on the route: two for the children, those of the way below it, and one for itself
pub route_nodes_made : (large : ℕ) (n : ℕ) (p : Place) (axis next : Axis) (s x : Shape) (f : Fork) (side : Side) (a b d e : ℕ) → IsOnRoute n p axis s f side → next ≡ next_axis f.axis → x ≡ near side f
    → b ≤ a + 2 → (RebuildsNoneOnRoute large p (put_from n p next x) → d ≤ b + (3 * entered_put p x + 1))
    → (RebuildsNoneOnRoute large p (put_from n p next x) → IsNotDue large (with_near side f (put_from n p next x)) → e ≤ d + 1)
    → RebuildsNoneOnRoute large p (put_from n p axis s) → e ≤ a + (3 * entered_put p s + 1)
route_nodes_made large n p axis next s x f side a b d e w axes same two below own all =
    let parts = w.criteria large all in
    let calm : RebuildsNoneOnRoute large p (put_from n p next x) = rw (axes, same) parts.1 in
    let spared : IsNotDue large (with_near side f (put_from n p next x)) = rw (axes, same) parts.0 in
    omega (arith, two, below calm, own calm spared, w.entered, ap (entered_put p) same)
