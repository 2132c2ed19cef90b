-- Scans that are put while subtrees are watched.
use Rattle.std.proofs.Common.{◌≡◌, ℕ, ◌+◌, ◌<◌, ◌≤◌, Bool, true, false, not, cond, inl, refl, ap, ◌∙◌, sym, subst, arith, List, [], ◌∷◌, ◌++◌, Some, map, length, take, drop, length-append, append_assoc, All, IsPermutation, count_by, filter, ◌==◌}
use Rattle.std.proofs.lemmas.Bool.{cond_both}
use Rattle.std.proofs.lemmas.List.{take-append-drop, append-nil}
use Rattle.std.proofs.lemmas.List.Elements.{All-cons, All-head, All-nil, All-tail, All-filter, All-weaker, filter-append, recursion_from_All}
use Rattle.std.specs.List.{AllByRecursion}
use Rattle.std.proofs.lemmas.List.Sorted.{length_permutation, sum_by-IsPermutation, IsPermutation-append_comm, IsPermutation-middle, IsPermutation-sym, IsPermutation-trans}
use Rattle.std.proofs.lemmas.List.Filters.{sum_by-filter_both}
use Rattle.std.proofs.lemmas.List.Sums.{count_by-le-length, length-filter, sum_by-append}
use Rattle.point_geom.specs.declared.axis.Axis.{Axis}
use Rattle.node_labels.specs.Labels.{composed, keep_tag}
use Rattle.node_labels.specs.declared.label.Label.TheVariants.{Live}
use Rattle.node_labels.proofs.Laws.{composed-keep_right}
use Rattle.map_items.specs.declared.item.Item.{Item}
use Rattle.map_items.specs.declared.op.Op.{Op}
use Rattle.map_items.specs.Contents.{all_items, kept, put, relabelled}
use Rattle.map_items.specs.Ops.{Fit, numbers_put, replay}
use Rattle.kd_tree.specs.Shape.{Head, Shape, leaf, fork, nodes, numbers}
use Rattle.kd_tree.specs.Walk.{tagged, walk}
use Rattle.kd_tree.specs.Sound.{IsSound}
use Rattle.kd_tree.specs.Contents.{AreDistinct, by_number, contents}
use Rattle.kd_tree.specs.Build.{IsBuilt}
use Rattle.kd_tree.specs.Apart.{AreAllApart, IsClear, is_here, onward}
use Rattle.kd_tree.specs.Parts.{at, pushed, child}
use Rattle.kd_tree.specs.declared.change.Fork.{Fork}
use Rattle.kd_tree.specs.declared.path.Side.{Side}
use Rattle.kd_tree.specs.declared.path.Side.TheVariants.{Left, Right}
use Rattle.kd_tree.proofs.Apart.{clear_onward}
use Rattle.kd_tree.proofs.Held.{walk_few}
use Rattle.kd_tree.proofs.Numbered.{by_number-filter, by_number-moved, by_number_moves, once_moved}
use Rattle.kd_mark.specs.Refresh.{IsRefresh}
use Rattle.kd_update.specs.Put.{goes_left, leaf_of, put_from, put_under}
use Rattle.kd_update.specs.Scan.{AreLive, IsGrown, IsPiece, put_each}
use Rattle.kd_mark.specs.Update.{IsBalancedBelow}
use Rattle.kd_mark.specs.Several.{AreLargeAt, AreWatched}
use Rattle.kd_mark.specs.Watch.{IsWatched, handed, is_keep}
use Rattle.kd_update.specs.Watch.{goes_to}
use Rattle.node_labels.specs.declared.tag.Tag.{Tag}
use Rattle.map_items.specs.declared.op.Op.TheVariants.{Mark}
use Rattle.kd_update.specs.Crossing.{AreMet, IsCrossed, IsMet, IsWholeGrown, going, logged_scan, puts_of}
use Rattle.kd_mark.proofs.TakenApart.{apart}
use Rattle.kd_update.proofs.Grown.{GoBeside, IsLive, IsStep, distinct_back, distinct_front, grown_first, grown_moved, grown_none, grown_put, live_of, new_first, step_grown}
use Rattle.kd_update.proofs.Joins.{grown_held, put_new}
use Rattle.kd_mark.proofs.Refresh.{head, refresh_same}
use Rattle.kd_mark.proofs.Large.{large_after}
use Rattle.kd_update.proofs.Logged.{handed_puts}
use Rattle.kd_mark.proofs.Several.{clear_balanced, balanced_clear, balanced_here, passed_by}
use Rattle.kd_update.proofs.Several.{some_of}
use Rattle.kd_mark.proofs.Trees.{at_pushed, pushed_nodes, walk-tagged_keep}
use Rattle.kd_mark.proofs.WatchedMark.{at-tagged, at_child, watched_handed, watched_same, watched_child}

-- lists

filter_counts : (n : ℕ) (p : Item → Bool) (xs : List Item) → count_by (λ i. n == i.number) (filter p xs) ≤ count_by (λ i. n == i.number) xs
filter_counts n p xs = omega (arith, sum_by-filter_both p (λ i. not (p i)) (λ _. refl) (λ (i : Item). cond (n == i.number) 1 0) xs)

pub distinct_filter : (p : Item → Bool) (xs : List Item) → AreDistinct xs → AreDistinct (filter p xs)
distinct_filter p xs d = record { once = λ n. omega (arith, d.once n, filter_counts n p xs) }

-- of items whose numbers differ, those that pass a test are the same in whatever order
filter_moved : (p : Item → Bool) (is js : List Item) → AreDistinct is → IsPermutation is js → IsPermutation (filter p is) (filter p js)
filter_moved p is js d m =
    let same : by_number (filter p is) ≡ by_number (filter p js) = by_number-filter p is ∙ ap (filter p) (by_number-moved is js m d) ∙ sym (by_number-filter p js) in
    IsPermutation-trans _ _ _ (by_number_moves (filter p is)) (subst (λ z. IsPermutation z (filter p js)) (sym same) (IsPermutation-sym _ _ (by_number_moves (filter p js))))

-- trees that have grown, and of which no node is gone

pub whole_none : (s : Shape) → IsWholeGrown s [] s
whole_none s = record { grown = grown_none s; many = omega arith }

pub whole_moved : (s t : Shape) (is js : List Item) → IsPermutation is js → IsWholeGrown s js t → IsWholeGrown s is t
whole_moved s t is js m k = record { grown = grown_moved s t is js m k.grown; many = omega (arith, k.many, length_permutation is js m) }

-- the first nodes of a tree
pub whole_first : (s t : Shape) (is : List Item) → s ≡ leaf → AreLive is → length is < 4194304
    → IsBuilt (walk keep_tag s ++ is) t → IsPermutation (map (λ i. i.number) (walk keep_tag s ++ is)) (numbers t)
    → nodes t ≡ length (walk keep_tag s ++ is) → IsWholeGrown leaf is t
whole_first s t is none live short b ns n = record { grown = grown_first s t is none live short b ns; many = omega (arith, n, length-append (walk keep_tag s) is) }

pub whole_leaf : (i : Item) (axis : Axis) (t : Shape) → i.label ≡ Live → t ≡ leaf_of i axis → IsWholeGrown leaf (i ∷ []) t
unfolding put_under
whole_leaf i axis t live e =
    let made = leaf_of i axis in
    let own : IsRefresh (put_from i.number i.point axis leaf) made = subst (λ (j : Item). IsRefresh (leaf_of j axis) made) (live_of i live) (refresh_same made) in
    subst (IsWholeGrown leaf (i ∷ [])) (sym e) (record { grown = grown_put i axis leaf made live own; many = omega arith })

pub step_from : (s : Shape) (f : Fork) (n : ℕ) (is js xs ys : List Item) → Some f ≡ pushed s → IsSound s → IsPermutation is js
    → All (λ i. goes_left f.axis i.point f.item.point ≡ true) (take n js) → All (λ i. goes_left f.axis i.point f.item.point ≡ false) (drop n js) → xs ≡ take n js → ys ≡ drop n js → IsStep s is f xs ys
step_from s f n is js xs ys x k m l r e e' = record {
  apart = apart s f x k;
  moved = rw (e, e', take-append-drop n js) m;
  beside = rw (e, e') (record { left = l; right = r });
}

pub whole_step : (s : Shape) (is : List Item) (f : Fork) (xs ys : List Item) (l r : Shape) → Some f ≡ pushed s
    → IsStep s is f xs ys → IsWholeGrown f.left xs l → IsWholeGrown f.right ys r
    → IsWholeGrown s is (fork (head f.item f.axis) l r)
whole_step s is f xs ys l r x k left right = record {
  grown = step_grown 0 s is f xs ys l r (fork (head f.item f.axis) l r) k left.grown right.grown (inl ((λ many few. absurd (omega (arith, few))), refl));
  many = omega (arith, left.many, right.many, pushed_nodes s f x, length_permutation is (xs ++ ys) k.moved, length-append xs ys);
}

-- what a subtree meets

pub met_moved : (path : List Side) (is js : List Item) (s t : Shape) → AreDistinct is → IsPermutation is js → IsMet path js s t → IsMet path is s t
met_moved [] is js s t d m k = whole_moved s t is js m k
met_moved (side ∷ path) [] [] s t d m k = k
met_moved (side ∷ path) [] (j ∷ js) s t d m k = absurd (omega (arith, length_permutation [] (j ∷ js) m))
met_moved (side ∷ path) (i ∷ is) [] s t d m k = absurd (omega (arith, length_permutation (i ∷ is) [] m))
met_moved (side ∷ path) (i ∷ is) (j ∷ js) leaf t d m k = k
met_moved (side ∷ path) (i ∷ is) (j ∷ js) (fork h l r) leaf d m k = k
met_moved (side ∷ path) (i ∷ is) (j ∷ js) (fork h l r) (fork g l' r') d m k =
    let p : Item → Bool = λ x. goes_to side (goes_left h.axis x.point h.item.point) in
    met_moved path (filter p (i ∷ is)) (filter p (j ∷ js)) (tagged h.pending (child side l r)) (child side l' r') (distinct_filter p (i ∷ is) d) (filter_moved p (i ∷ is) (j ∷ js) d m) k

-- the operations that put them

replay_puts : (m : List Item) (is : List Item) → replay m (puts_of is) ≡ put_each m is
replay_puts m [] = refl
replay_puts m (i ∷ is) = replay_puts (put m i.number i.point) is

-- items that may join a tree's contents, put one after the other, fit them
fit_puts : (w is : List Item) → AreDistinct (w ++ is) → AreLive is → length w + length is ≤ 4194304 → Fit (by_number w) (puts_of is)
fit_puts w [] d live few = tt
fit_puts w (i ∷ is) d live few =
    let moved : IsPermutation (w ++ i ∷ is) ((i ∷ w) ++ is) = IsPermutation-middle w i is in
    let distinct : AreDistinct ((i ∷ w) ++ is) = once_moved (w ++ i ∷ is) ((i ∷ w) ++ is) moved d in
    let one : by_number (i ∷ w) ≡ put (by_number w) i.number i.point = put_new i w (All-head IsLive i is live) (distinct_front (i ∷ w) is distinct) in
    let g : Item → ℕ = λ j. cond (i.number == j.number) 1 0 in (
      omega (arith, new_first w is i d, sum_by-IsPermutation g w (by_number w) (by_number_moves w)),
      omega (arith, few, length_permutation w (by_number w) (by_number_moves w)),
      subst (λ m. Fit m (puts_of is)) one (fit_puts (i ∷ w) is distinct (All-tail IsLive i is live) (omega (arith, few))),
    )

-- items that may come to a child
pub record MayCome (s : Shape) (is : List Item) : Type 0 where
  pub live : AreLive is
  pub distinct : AreDistinct (walk keep_tag s ++ is)
  pub room : length (walk keep_tag s) + length is ≤ 4194304

-- the watched root itself
met_root : (s t : Shape) (is : List Item) → MayCome s is → IsWholeGrown s is t → IsWatched [] s t (puts_of is)
met_root s t is k w = record {
  before = s;
  after = t;
  was = refl;
  is = refl;
  size = omega (arith, w.many);
  fit = fit_puts (walk keep_tag s) is k.distinct k.live k.room;
  replayed = grown_held s t is k.live k.distinct w.grown ∙ sym (replay_puts (contents s) is);
}

filter_short : (p : Item → Bool) (xs : List Item) → length (filter p xs) ≤ length xs
filter_short p xs = omega (arith, length-filter p xs, count_by-le-length p xs)

come_side : (p : Item → Bool) (k a b is : List Item) (s : Shape) → walk keep_tag s ≡ a → AreLive is
    → AreDistinct ((k ++ (a ++ b)) ++ is) → length (k ++ (a ++ b)) + length is ≤ 4194304 → MayCome s (filter p is)
come_side p k a b is s e live d room = record {
  live = All-filter p IsLive is live;
  distinct = record {
    once = λ n.
        let g : Item → ℕ = λ i. cond (n == i.number) 1 0 in
        omega (
          arith,
          d.once n,
          filter_counts n p is,
          sum_by-append g (k ++ (a ++ b)) is,
          sum_by-append g k (a ++ b),
          sum_by-append g a b,
          sum_by-append g (walk keep_tag s) (filter p is),
          ap (λ (xs : List Item). count_by (λ i. n == i.number) xs) e,
        );
  };
  room = omega (arith, room, filter_short p is, length-append k (a ++ b), length-append a b, ap length e);
}

come_on : (side : Side) (p : Item → Bool) (h : Head) (l r : Shape) (is : List Item) → MayCome (fork h l r) is → MayCome (tagged h.pending (child side l r)) (filter p is)
come_on Left p h l r is k =
    come_side p (kept (relabelled keep_tag h.item ∷ [])) (walk (composed h.pending keep_tag) l) (walk (composed h.pending keep_tag) r) is (tagged h.pending l)
    (walk-tagged_keep h.pending l ∙ ap (λ q. walk q l) (sym (composed-keep_right h.pending))) k.live k.distinct k.room
come_on Right p h l r is k =
    let own = kept (relabelled keep_tag h.item ∷ []) in
    let a = walk (composed h.pending keep_tag) l in
    let b = walk (composed h.pending keep_tag) r in
    let same : own ++ (a ++ b) ≡ (own ++ a) ++ (b ++ []) = sym (append_assoc own a (b ++ []) ∙ ap (λ z. own ++ (a ++ z)) (append-nil b)) in
    come_side p (own ++ a) b [] is (tagged h.pending r)
    (walk-tagged_keep h.pending r ∙ ap (λ q. walk q r) (sym (composed-keep_right h.pending))) k.live
    (subst (λ w. AreDistinct (w ++ is)) same k.distinct) (subst (λ w. length w + length is ≤ 4194304) same k.room)

-- A scan put into a tree is, for the subtree at a path, what is logged of it.
pub watched_scan : (path : List Side) (is : List Item) (s t q : Shape) → at path s ≡ Some q → MayCome s is → IsMet path is s t → IsWatched path s t (logged_scan path is s)
watched_scan [] is s t q e k m = met_root s t is k m
watched_scan (side ∷ path) [] s t q e k m = subst (λ u. IsWatched (side ∷ path) s u []) m (watched_same (side ∷ path) s q e)
watched_scan (side ∷ path) (i ∷ is) leaf t q e k m = absurd m
watched_scan (side ∷ path) (i ∷ is) (fork h l r) leaf q e k m = absurd m
watched_scan (side ∷ path) (i ∷ is) (fork h l r) (fork g l' r') q e k m =
    let u = at-tagged path h.pending (child side l r) q (at_child side path h l r q e) in
    let xs = going side h.axis h.item.point (i ∷ is) in
    let come = come_on side (λ x. goes_to side (goes_left h.axis x.point h.item.point)) h l r (i ∷ is) k in
    watched_child side path h g l r l' r' (handed path h.pending ++ logged_scan path xs (tagged h.pending (child side l r)))
    (watched_handed path h.pending (child side l r) (child side l' r') q
    (logged_scan path xs (tagged h.pending (child side l r))) (at_child side path h l r q e)
    (watched_scan path xs (tagged h.pending (child side l r)) (child side l' r') u.0 u.1 come m))

pub piece_comes : (large : ℕ) (s : Shape) (is : List Item) → IsPiece large s is → MayCome s is
piece_comes large s is p = record { live = p.live; distinct = p.distinct; room = omega (arith, p.few, walk_few keep_tag s) }

pub all_watched_scan : (large : ℕ) (ps : List (List Side)) (is : List Item) (s t : Shape) → AreLargeAt large ps s
    → MayCome s is → AreMet ps is s t → AreWatched (λ p. IsWatched p s t (logged_scan p is s)) ps
all_watched_scan large [] is s t k m a = tt
all_watched_scan large (p ∷ ps) is s t k m a = (watched_scan p is s t k.0.node k.0.there m a.0, all_watched_scan large ps is s t k.1 m a.1)

pub all_large_scan : (large : ℕ) (ps : List (List Side)) (is : List Item) (s t : Shape) → AreLargeAt large ps s → MayCome s is → AreMet ps is s t → AreLargeAt large ps t
all_large_scan large [] is s t k m a = tt
all_large_scan large (p ∷ ps) is s t k m a = (large_after large p s t _ k.0 (watched_scan p is s t k.0.node k.0.there m a.0), all_large_scan large ps is s t k.1 m a.1)

-- paths that are apart

pub here_alone : (ps : List (List Side)) → AreAllApart ps → is_here ps ≡ true → ps ≡ [] ∷ []
here_alone [] k e = cc
here_alone ([] ∷ []) k e = refl
here_alone ([] ∷ (q ∷ ps)) k e = absurd k.0.0
here_alone ((side ∷ p) ∷ ps) k e = absurd (subst (λ (qs : List (List Side)). IsClear (side ∷ p) qs) (here_alone ps k.1 e) k.0).0

pub apart_on : (side : Side) (ps : List (List Side)) → AreAllApart ps → AreAllApart (onward side ps)
apart_on side [] k = tt
apart_on Left ([] ∷ ps) k = apart_on Left ps k.1
apart_on Right ([] ∷ ps) k = apart_on Right ps k.1
apart_on Left ((Left ∷ p) ∷ ps) k = (clear_onward Left p ps k.0, apart_on Left ps k.1)
apart_on Left ((Right ∷ p) ∷ ps) k = apart_on Left ps k.1
apart_on Right ((Left ∷ p) ∷ ps) k = apart_on Right ps k.1
apart_on Right ((Right ∷ p) ∷ ps) k = (clear_onward Right p ps k.0, apart_on Right ps k.1)

-- what all watched subtrees meet

all_met_moved : (ps : List (List Side)) (is js : List Item) (s t : Shape) → AreDistinct is → IsPermutation is js → AreMet ps js s t → AreMet ps is s t
all_met_moved [] is js s t d m k = tt
all_met_moved (p ∷ ps) is js s t d m k = (met_moved p is js s t d m k.0, all_met_moved ps is js s t d m k.1)

all_met_none : (ps : List (List Side)) (s : Shape) → is_here ps ≡ false → AreMet ps [] s s
all_met_none [] s e = tt
all_met_none ([] ∷ ps) s e = absurd (cc)
all_met_none ((side ∷ p) ∷ ps) s e = (refl, all_met_none ps s e)

met_children : (ps : List (List Side)) (i : Item) (is : List Item) (h g : Head) (l r l' r' : Shape) → is_here ps ≡ false
    → AreMet (onward Left ps) (going Left h.axis h.item.point (i ∷ is)) (tagged h.pending l) l' → AreMet (onward Right ps) (going Right h.axis h.item.point (i ∷ is)) (tagged h.pending r) r'
    → AreMet ps (i ∷ is) (fork h l r) (fork g l' r')
met_children [] i is h g l r l' r' e u v = tt
met_children ([] ∷ ps) i is h g l r l' r' e u v = absurd (cc)
met_children ((Left ∷ p) ∷ ps) i is h g l r l' r' e u v = (u.0, met_children ps i is h g l r l' r' e u.1 v)
met_children ((Right ∷ p) ∷ ps) i is h g l r l' r' e u v = (v.0, met_children ps i is h g l r l' r' e u v.1)

filter_every : (p : Item → Bool) (xs : List Item) → AllByRecursion (λ i. p i ≡ true) xs → filter p xs ≡ xs
filter_every p [] k = refl
filter_every p (i ∷ xs) k = ap (λ b. cond b (i ∷ filter p xs) (filter p xs)) k.0 ∙ ap (λ z. i ∷ z) (filter_every p xs k.1)

filter_no : (p : Item → Bool) (xs : List Item) → AllByRecursion (λ i. p i ≡ false) xs → filter p xs ≡ []
filter_no p [] k = refl
filter_no p (i ∷ xs) k = ap (λ b. cond b (i ∷ filter p xs) (filter p xs)) k.0 ∙ filter_no p xs k.1

first_parted : (p : Item → Bool) (is xs ys : List Item) → AreDistinct is → IsPermutation is (xs ++ ys) → All (λ i. p i ≡ true) xs → All (λ i. p i ≡ false) ys → IsPermutation (filter p is) xs
first_parted p is xs ys d m a b =
    let same : filter p (xs ++ ys) ≡ xs =
    filter-append p xs ys
    ∙ ap (λ z. z ++ filter p ys) (filter_every p xs (recursion_from_All (λ (i : Item). p i ≡ true) xs a))
    ∙ ap (λ z. xs ++ z) (filter_no p ys (recursion_from_All (λ (i : Item). p i ≡ false) ys b)) ∙ append-nil xs in
    subst (λ z. IsPermutation (filter p is) z) same (filter_moved p is (xs ++ ys) d m)

last_parted : (p : Item → Bool) (is xs ys : List Item) → AreDistinct is → IsPermutation is (xs ++ ys) → All (λ i. p i ≡ false) xs → All (λ i. p i ≡ true) ys → IsPermutation (filter p is) ys
last_parted p is xs ys d m a b = first_parted p is ys xs d (IsPermutation-trans _ _ _ m (IsPermutation-append_comm xs ys)) b a

met_fork : (ps : List (List Side)) (i : Item) (is : List Item) (h : Head) (l0 r0 l r : Shape) (xs ys : List Item)
    → AreDistinct (i ∷ is) → IsPermutation (i ∷ is) (xs ++ ys) → GoBeside h.item h.axis xs ys → is_here ps ≡ false
    → AreMet (onward Left ps) xs (tagged h.pending l0) l → AreMet (onward Right ps) ys (tagged h.pending r0) r → AreMet ps (i ∷ is) (fork h l0 r0) (fork (head h.item h.axis) l r)
met_fork ps i is h l0 r0 l r xs ys d m b e u v =
    let p : Item → Bool = λ x. goes_left h.axis x.point h.item.point in
    let q : Item → Bool = λ x. not (p x) in
    let pl = first_parted p (i ∷ is) xs ys d m b.left b.right in
    let pr =
    last_parted q (i ∷ is) xs ys d m (All-weaker (λ x. p x ≡ true) (λ x. q x ≡ false) (λ x k. ap not k) xs b.left)
    (All-weaker (λ x. p x ≡ false) (λ x. q x ≡ true) (λ x k. ap not k) ys b.right) in
    met_children ps i is h (head h.item h.axis) l0 r0 l r e
    (all_met_moved (onward Left ps) (filter p (i ∷ is)) xs (tagged h.pending l0) l (distinct_filter p (i ∷ is) d) pl u)
    (all_met_moved (onward Right ps) (filter q (i ∷ is)) ys (tagged h.pending r0) r (distinct_filter q (i ∷ is) d) pr v)

met_step : (ps : List (List Side)) (s : Shape) (is : List Item) (f : Fork) (xs ys : List Item) (l r : Shape)
    → Some f ≡ pushed s → AreDistinct is → (is ≡ [] → ⊥) → IsPermutation is (xs ++ ys) → GoBeside f.item f.axis xs ys
    → is_here ps ≡ false
    → AreMet (onward Left ps) xs f.left l → AreMet (onward Right ps) ys f.right r → AreMet ps is s (fork (head f.item f.axis) l r)
met_step ps s [] f xs ys l r x d some m b e u v = absurd (some refl)
met_step ps s (i ∷ is) f xs ys l r x d some m b e u v =
    at_pushed (λ z g. GoBeside g.item g.axis xs ys → AreMet (onward Left ps) xs g.left l → AreMet (onward Right ps) ys g.right r → AreMet ps (i ∷ is) z (fork (head g.item g.axis) l r)) s f x
    (λ h l0 r0 b u v. met_fork ps i is h l0 r0 l r xs ys d m b e u v) b u v

-- crossings

pub crossed_free : (large : ℕ) (ps : List (List Side)) (s t : Shape) (is : List Item) → ps ≡ [] → IsGrown s is t → (IsBalancedBelow large s → IsBalancedBelow large t) → IsCrossed large ps s is t
crossed_free large ps s t is e k balanced =
    subst (λ (qs : List (List Side)). IsCrossed large qs s is t) (sym e)
    (record { grown = k; met = tt; balance = λ b. balanced_clear large t (balanced (clear_balanced large s b)) })

pub crossed_here : (large : ℕ) (ps : List (List Side)) (s t : Shape) (is : List Item) → AreAllApart ps → is_here ps ≡ true → IsWholeGrown s is t → IsCrossed large ps s is t
crossed_here large ps s t is a e k = record {
  grown = k.grown;
  met = subst (λ (qs : List (List Side)). AreMet qs is s t) (sym (here_alone ps a e)) (k, tt);
  balance = λ _. balanced_here large ps t e;
}

pub crossed_none : (large : ℕ) (ps : List (List Side)) (s : Shape) (is : List Item) → is ≡ [] → is_here ps ≡ false → IsCrossed large ps s is s
crossed_none large ps s is e n = subst (λ (xs : List Item). IsCrossed large ps s xs s) (sym e) (record { grown = grown_none s; met = all_met_none ps s n; balance = λ k. k })

pub crossed_step : (large : ℕ) (ps : List (List Side)) (s : Shape) (is : List Item) (f : Fork) (xs ys : List Item)
    (l r : Shape) → Some f ≡ pushed s → IsStep s is f xs ys → IsPiece large s is → AreLargeAt large ps s
    → is_here ps ≡ false → (ps ≡ [] → ⊥) → (is ≡ [] → ⊥) → IsCrossed large (onward Left ps) f.left xs l
    → IsCrossed large (onward Right ps) f.right ys r → IsCrossed large ps s is (fork (head f.item f.axis) l r)
crossed_step large ps s is f xs ys l r x k p there here any some u v =
    let new = fork (head f.item f.axis) l r in
    let met = met_step ps s is f xs ys l r x (distinct_back (walk keep_tag s) is p.distinct) some k.moved k.beside here u.met v.met in
    let big = some_of large ps new any (all_large_scan large ps is s new there (piece_comes large s is p) met) in
    record {
      grown = step_grown 0 s is f xs ys l r new k u.grown v.grown (inl ((λ many few. absurd (omega (arith, few))), refl));
      met = met;
      balance = λ e. let both = (passed_by large ps s f x there).balanced here e in λ _. ((λ many few. absurd (omega (arith, few, big))), u.balance both.0, v.balance both.1);
    }

-- logs

puts_length : (is : List Item) → length (puts_of is) ≡ length is
puts_length [] = refl
puts_length (i ∷ is) = omega (arith, puts_length is)

pub ahead_scan : (side : Side) (path : List Side) (is : List Item) (q o : Tag) (t s : Shape) (h : Head) (l r : Shape) → t ≡ fork h l r → o ≡ composed h.pending q → s ≡ child side l r → (is ≡ [] → ⊥)
    → logged_scan (side ∷ path) is (tagged q t) ≡ handed path o ++ logged_scan path (going side h.axis h.item.point is) (tagged o s)
ahead_scan side path [] q o t s h l r e pending on some = absurd (some refl)
ahead_scan side path (i ∷ is) q o t s h l r e pending on some = rw (e, pending, on) refl

-- where the path ends, all items
pub ahead_scan_root : (path : List Side) (is : List Item) (t : Shape) → length path ≡ 0 → logged_scan path is t ≡ puts_of is
ahead_scan_root [] is t e = refl
ahead_scan_root (side ∷ path) is t e = absurd (omega (arith, e))

-- and nothing above it, where no item comes or no node is there
pub ahead_scan_none : (side : Side) (path : List Side) (is : List Item) (t : Shape) → is ≡ [] → logged_scan (side ∷ path) is t ≡ []
ahead_scan_none side path is t e = ap (λ (xs : List Item). logged_scan (side ∷ path) xs t) e

pub ahead_scan_leaf : (side : Side) (path : List Side) (is : List Item) (q : Tag) (t : Shape) → t ≡ leaf → logged_scan (side ∷ path) is (tagged q t) ≡ []
ahead_scan_leaf side path [] q t e = refl
ahead_scan_leaf side path (i ∷ is) q t e = ap (λ z. logged_scan (side ∷ path) (i ∷ is) (tagged q z)) e

pub logged_scan_few : (path : List Side) (is : List Item) (t : Shape) → length (logged_scan path is t) ≤ length is + 1
logged_scan_few [] is t = omega (arith, puts_length is)
logged_scan_few (side ∷ path) [] t = omega arith
logged_scan_few (side ∷ path) (i ∷ is) leaf = omega arith
logged_scan_few (side ∷ []) (i ∷ is) (fork h l r) =
    let p : Item → Bool = λ x. goes_to side (goes_left h.axis x.point h.item.point) in
    let xs = filter p (i ∷ is) in
    let few = filter_short p (i ∷ is) in
    let same = puts_length xs in
    cond_both (is_keep h.pending) [] (Mark all_items h.pending ∷ []) (λ (os : List Op). length (os ++ puts_of xs) ≤ length (i ∷ is) + 1) (λ _. omega (arith, few, same)) (λ _. omega (arith, few, same))
logged_scan_few (side ∷ (next ∷ path)) (i ∷ is) (fork h l r) =
    let p : Item → Bool = λ x. goes_to side (goes_left h.axis x.point h.item.point) in
    omega (arith, logged_scan_few (next ∷ path) (filter p (i ∷ is)) (tagged h.pending (child side l r)), filter_short p (i ∷ is))

puts_put : (P : ℕ → Type 0) (is : List Item) → All (λ i. P i.number) is → All P (numbers_put (puts_of is))
puts_put P [] k = All-nil P
puts_put P (i ∷ is) k = All-cons P i.number (numbers_put (puts_of is)) (All-head (λ j. P j.number) i is k) (puts_put P is (All-tail (λ j. P j.number) i is k))

-- only numbers of the items are put by what is logged
pub scan_puts : (P : ℕ → Type 0) (path : List Side) (is : List Item) (t : Shape) → All (λ i. P i.number) is → All P (numbers_put (logged_scan path is t))
scan_puts P [] is t k = puts_put P is k
scan_puts P (side ∷ path) [] t k = All-nil P
scan_puts P (side ∷ path) (i ∷ is) leaf k = All-nil P
scan_puts P (side ∷ path) (i ∷ is) (fork h l r) k =
    let p : Item → Bool = λ x. goes_to side (goes_left h.axis x.point h.item.point) in
    let ops = logged_scan path (filter p (i ∷ is)) (tagged h.pending (child side l r)) in
    subst (All P) (sym (handed_puts path h.pending ops)) (scan_puts P path (filter p (i ∷ is)) (tagged h.pending (child side l r)) (All-filter p (λ j. P j.number) (i ∷ is) k))
