-- Trees after boxes were thinned together.
use Rattle.std.proofs.Common.{◌≡◌, inl, inr, ℕ, zero, suc, ◌<◌, ◌≤◌, ◌||◌, Bool, true, false, cond, refl, ap, ◌∙◌, sym, subst, arith, List, [], ◌∷◌, ◌++◌, Some, length, take, drop, get_or, set, swap, map, filter, not, All, IsPermutation, count_by, ◌==◌, ◌≤ℤ◌}
use Rattle.std.specs.List.{list_any}
use Rattle.std.proofs.Math.Bool.{or-false}
use Rattle.std.proofs.lemmas.Bool.{false_from_ne_true, false≢true}
use Rattle.std.proofs.lemmas.List.{take-append-drop, nil_from_length}
use Rattle.std.proofs.lemmas.List.Elements.{All-weaker}
use Rattle.std.proofs.lemmas.List.Folds.{list_any-append, list_any_none, Any-from_list_any, list_any-from_Any}
use Rattle.std.proofs.lemmas.List.Sorted.{All-permutation, sum_by-IsPermutation, list_any-IsPermutation, IsPermutation-keeps, IsPermutation-refl, IsPermutation-sym, IsPermutation-trans, IsPermutation-cons, IsPermutation-middle, IsPermutation-append, IsPermutation-append_left, IsPermutation-append_right, IsPermutation-map}
use Rattle.point_geom.specs.Place.{Bounds, Place, Span}
use Rattle.point_geom.specs.Axes.{on}
use Rattle.point_geom.specs.Extents.{IsIn, covers, meets}
use Rattle.point_geom.specs.declared.axis.Axis.{Axis}
use Rattle.point_geom.proofs.Laws.{held_meets, covered_held}
use Rattle.node_labels.specs.Labels.{is_dropped, keep_tag, thin_tag}
use Rattle.node_labels.specs.declared.tag.Tag.{Tag}
use Rattle.node_labels.proofs.Laws.{composed-keep_right}
use Rattle.map_items.specs.declared.item.Item.{Item}
use Rattle.map_items.specs.Contents.{everything, in_box, kept, mark, marked_item, relabelled}
use Rattle.map_items.proofs.Numbered.{marked_number}
use Rattle.kd_tree.specs.Shape.{Head, Shape, fork, numbers}
use Rattle.kd_tree.specs.Walk.{extent, tagged, walk}
use Rattle.kd_tree.specs.Sound.{IsSound, IsSoundFork}
use Rattle.kd_tree.specs.Contents.{AreDistinct, contents}
use Rattle.kd_tree.specs.Parts.{pushed}
use Rattle.kd_tree.specs.declared.change.Fork.{Fork}
use Rattle.kd_tree.proofs.Actions.{sound_once, tagged_levels, tagged_nodes, tagged_numbers}
use Rattle.kd_tree.proofs.Contents.{by_number-mark, mark-append, once_walk, relabelled-keep, times_walk, walk-composed, walk-tagged}
use Rattle.kd_tree.proofs.Extents.{extent_fits, walk_in}
use Rattle.kd_tree.proofs.Held.{walk_kept}
use Rattle.kd_tree.proofs.Left.{all_left, left_all}
use Rattle.kd_tree.proofs.Numbered.{by_number-moved}
use Rattle.kd_mark.specs.Refresh.{AreAmong, IsRefresh, RefreshesIfDue}
use Rattle.kd_mark.specs.Update.{IsBalancedBelow}
use Rattle.kd_mark.proofs.InBox.{mark_agree, mark_counts, mark_none, mark_points, marked-point, own-marked}
use Rattle.kd_mark.proofs.Refresh.{head, rebuilt_if_due_refresh}
use Rattle.kd_mark.proofs.TakenApart.{IsApart}
use Rattle.kd_mark.proofs.Trees.{among_fork, among_same, at_pushed}
use Rattle.kd_mark.proofs.Update.{balanced_children, criteria_balanced}
use Rattle.map_update.specs.Clearing.{IsCleared, in_some}

-- lists

-- two elements that change places, as far as they pass
filter_turned : {X : Type 0} (p : X → Bool) (x y : X) (xs : List X) → IsPermutation (filter p (x ∷ y ∷ xs)) (filter p (y ∷ x ∷ xs))
filter_turned p x y xs = turned (p x) (p y)
  where
    turned : (b d : Bool)
        → IsPermutation (cond b (x ∷ cond d (y ∷ filter p xs) (filter p xs)) (cond d (y ∷ filter p xs) (filter p xs)))
        (cond d (y ∷ cond b (x ∷ filter p xs) (filter p xs)) (cond b (x ∷ filter p xs) (filter p xs)))
    turned true true = IsPermutation-middle (x ∷ []) y (filter p xs)
    turned true false = IsPermutation-refl (x ∷ filter p xs)
    turned false true = IsPermutation-refl (y ∷ filter p xs)
    turned false false = IsPermutation-refl (filter p xs)

filter_under : {X : Type 0} (p : X → Bool) (x : X) (xs ys : List X) → IsPermutation (filter p xs) (filter p ys) → IsPermutation (filter p (x ∷ xs)) (filter p (x ∷ ys))
filter_under p x xs ys k = elim (p x) as (λ b. IsPermutation (cond b (x ∷ filter p xs) (filter p xs)) (cond b (x ∷ filter p ys) (filter p ys))) [ true ↦ IsPermutation-cons x _ _ k | false ↦ k ]

-- the first element and a later one
filter_first : {X : Type 0} (p : X → Bool) (xs : List X) (j : ℕ) (x d : X) → j < length xs → IsPermutation (filter p (x ∷ xs)) (filter p (get_or xs j d ∷ set xs j x))
filter_first p [] j x d below = absurd (omega arith)
filter_first p (y ∷ ys) zero x d below = filter_turned p x y ys
filter_first p (y ∷ ys) (suc j) x d below =
    IsPermutation-trans _ _ _ (filter_turned p x y ys)
    (IsPermutation-trans _ _ _ (filter_under p y (x ∷ ys) (get_or ys j d ∷ set ys j x) (filter_first p ys j x d (omega arith)))
    (filter_turned p y (get_or ys j d) (set ys j x)))

filter_exchanged : {X : Type 0} (p : X → Bool) (xs : List X) (i j : ℕ) (d : X) → i < length xs → j < length xs
    → IsPermutation (filter p xs) (filter p (set (set xs i (get_or xs j d)) j (get_or xs i d)))
filter_exchanged p [] i j d k l = absurd (omega arith)
filter_exchanged p (x ∷ xs) zero zero d k l = IsPermutation-refl (filter p (x ∷ xs))
filter_exchanged p (x ∷ xs) zero (suc j) d k l = filter_first p xs j x d (omega arith)
filter_exchanged p (x ∷ xs) (suc i) zero d k l = filter_first p xs i x d (omega arith)
filter_exchanged p (x ∷ xs) (suc i) (suc j) d k l = filter_under p x xs _ (filter_exchanged p xs i j d (omega arith) (omega arith))

filter_swapped : {X : Type 0} (p : X → Bool) (xs : List X) (i j : ℕ) → i < length xs → j < length xs → IsPermutation (filter p xs) (filter p (swap xs i j))
filter_swapped p [] i j k l = absurd (omega arith)
filter_swapped p (x ∷ xs) i j k l = filter_exchanged p (x ∷ xs) i j x k l

-- what passes of the elements in another order
filter_moved : {X : Type 0} (p : X → Bool) (xs ys : List X) → IsPermutation xs ys → IsPermutation (filter p xs) (filter p ys)
filter_moved p xs ys m =
    IsPermutation-keeps xs (λ l. IsPermutation (filter p xs) (filter p l)) (IsPermutation-refl (filter p xs))
    (λ l i j k n h. IsPermutation-trans _ _ _ h (filter_swapped p l i j k n)) ys m

-- an action on items in another order
mark_moved : (chosen : Item → Bool) (a : Tag) (xs ys : List Item) → IsPermutation xs ys → IsPermutation (mark xs chosen a) (mark ys chosen a)
mark_moved chosen a xs ys m = filter_moved (λ i. not (is_dropped i.label)) (map (marked_item chosen a) xs) (map (marked_item chosen a) ys) (IsPermutation-map (marked_item chosen a) xs ys m)

-- the boxes

-- boxes that choose alike in the tree
cleared_alike : (cs ds : List Bounds) (s t : Shape) → All (λ i. in_some cs i ≡ in_some ds i) (walk keep_tag s) → IsCleared cs s t → IsCleared ds s t
cleared_alike cs ds s t e k = record {
  same = subst (λ w. IsPermutation w (walk keep_tag t)) (mark_agree (in_some cs) (in_some ds) thin_tag (walk keep_tag s) e) k.same;
  few = k.few;
  low = k.low;
  from = k.from;
}

-- the boxes in another order
some_moved : (cs ds : List Bounds) (s t : Shape) → IsPermutation cs ds → IsCleared cs s t → IsCleared ds s t
some_moved cs ds s t m k = cleared_alike cs ds s t (λ n d below. list_any-IsPermutation (λ c. in_box c (get_or (walk keep_tag s) n d)) cs ds m) k

-- what remains lies in the extent
all_in : (s : Shape) (e : Span) → Some e ≡ extent s → All (λ i. IsIn e i.point) (walk keep_tag s)
all_in s e x = walk_in keep_tag s e (extent_fits s e (sym x))

-- no item of the extent is in a box that misses it
none_missed : (cs : List Bounds) (e : Span) (i : Item) → All (λ c. meets c e ≡ false) cs → IsIn e i.point → in_some cs i ≡ false
none_missed cs e i missed inside =
    list_any_none (λ c. in_box c i) cs (All-weaker (λ c. meets c e ≡ false) (λ c. in_box c i ≡ false)
    (λ c m. false_from_ne_true (in_box c i) (λ h. false≢true (sym m ∙ held_meets c e i.point h inside))) cs missed)

some_front : (cs ds : List Bounds) (e : Span) (i : Item) → All (λ c. meets c e ≡ false) ds → IsIn e i.point → in_some cs i ≡ in_some (cs ++ ds) i
some_front cs ds e i missed inside =
    sym (list_any-append (λ c. in_box c i) cs ds ∙ ap (λ b. in_some cs i || b) (none_missed ds e i missed inside) ∙ or-false (in_some cs i))

-- boxes that miss the tree take nothing from it
some_met : (cs ds : List Bounds) (e : Span) (s t : Shape) → Some e ≡ extent s → All (λ c. meets c e ≡ false) ds → IsCleared cs s t → IsCleared (cs ++ ds) s t
some_met cs ds e s t x missed k =
    cleared_alike cs (cs ++ ds) s t (All-weaker (λ (i : Item). IsIn e i.point) (λ i. in_some cs i ≡ in_some (cs ++ ds) i)
    (λ i inside. some_front cs ds e i missed inside) (walk keep_tag s) (all_in s e x)) k

-- the boxes were moved about, and those from n on miss the tree
pub record ArePicked (cs front back : List Bounds) (s : Shape) : Type 0 where
  pub span : Span
  pub top : Some span ≡ extent s
  pub moved : IsPermutation cs (front ++ back)
  pub missed : All (λ c. meets c span ≡ false) back

pub picked_at : (cs ds front back : List Bounds) (n : ℕ) (e : Span) (s : Shape) → Some e ≡ extent s → IsPermutation cs ds → All (λ c. meets c e ≡ false) (drop n ds)
    → front ≡ take n ds → back ≡ drop n ds → ArePicked cs front back s
picked_at cs ds front back n e s x m k f b = record {
  span = e;
  top = x;
  moved = rw (f, b, take-append-drop n ds) m;
  missed = subst (All (λ c. meets c e ≡ false)) (sym b) k;
}

pub cleared_picked : (cs front back : List Bounds) (s t : Shape) → ArePicked cs front back s → IsCleared front s t → IsCleared cs s t
cleared_picked cs front back s t p k =
    some_moved (front ++ back) cs s t (IsPermutation-sym cs (front ++ back) p.moved) (some_met front back p.span s t p.top p.missed k)

-- those that meet the tree were moved about once more
pub picked_moved : (cs front back next : List Bounds) (s : Shape) → ArePicked cs front back s → IsPermutation front next → IsPermutation cs (next ++ back)
picked_moved cs front back next s p m = IsPermutation-trans _ _ _ p.moved (IsPermutation-append_left back front next m)

-- whole trees

-- no box
pub cleared_none : (cs : List Bounds) (s : Shape) → length cs ≡ 0 → IsCleared cs s s
cleared_none cs s none =
    subst (λ ds. IsCleared ds s s) (sym (nil_from_length cs none)) (record {
      same = subst (λ w. IsPermutation w (walk keep_tag s)) (sym (mark_none (in_some []) thin_tag (walk keep_tag s) (λ n d below. refl) (walk_kept keep_tag s))) (IsPermutation-refl (walk keep_tag s));
      few = omega arith;
      low = omega arith;
      from = among_same (numbers s);
    })

covered_held_by : (cs : List Bounds) (e : Span) (i : Item) → list_any (λ c. covers c e) cs ≡ true → IsIn e i.point → in_some cs i ≡ true
covered_held_by cs e i k inside =
    let one = Any-from_list_any (λ c. covers c e) cs k in
    list_any-from_Any (λ c. in_box c i) cs (one.0, one.1, one.2, one.3, covered_held one.1 e i.point one.4 inside)

walk-thinned : (s : Shape) → walk keep_tag (tagged thin_tag s) ≡ mark (walk keep_tag s) everything thin_tag
walk-thinned s = walk-tagged thin_tag keep_tag s ∙ ap (λ q. walk q s) (composed-keep_right thin_tag) ∙ walk-composed keep_tag thin_tag s

-- a box that covers the tree
pub cleared_covered : (cs : List Bounds) (e : Span) (s : Shape) → Some e ≡ extent s → list_any (λ c. covers c e) cs ≡ true → IsCleared cs s (tagged thin_tag s)
cleared_covered cs e s x k =
    let all : mark (walk keep_tag s) (in_some cs) thin_tag ≡ walk keep_tag (tagged thin_tag s) =
    mark_agree (in_some cs) everything thin_tag (walk keep_tag s)
    (All-weaker (λ (i : Item). IsIn e i.point) (λ i. in_some cs i ≡ true) (λ i inside. covered_held_by cs e i k inside) (walk keep_tag s) (all_in s e x))
    ∙ sym (walk-thinned s) in
    record {
      same = subst (λ w. IsPermutation w (walk keep_tag (tagged thin_tag s))) (sym all) (IsPermutation-refl (walk keep_tag (tagged thin_tag s)));
      few = omega (arith, tagged_nodes thin_tag s);
      low = omega (arith, tagged_levels thin_tag s);
      from = subst (λ ns. AreAmong ns (numbers s)) (sym (tagged_numbers thin_tag s)) (among_same (numbers s));
    }

-- trees rebuilt before or after

cleared_after : (cs : List Bounds) (s t u : Shape) → IsRefresh s t → IsCleared cs t u → IsCleared cs s u
cleared_after cs s t u f k = record {
  same = IsPermutation-trans _ _ _ (mark_moved (in_some cs) thin_tag _ _ f.same) k.same;
  few = omega (arith, f.few, k.few);
  low = omega (arith, f.low, k.low);
  from = λ n c. f.from n (k.from n c);
}

cleared_then : (cs : List Bounds) (s t u : Shape) → IsCleared cs s t → IsRefresh t u → IsCleared cs s u
cleared_then cs s t u k f = record {
  same = IsPermutation-trans _ _ _ k.same f.same;
  few = omega (arith, f.few, k.few);
  low = omega (arith, f.low, k.low);
  from = λ n c. k.from n (f.from n c);
}

-- a node

-- the item after the boxes were thinned
abbrev pub thinned_by : List Bounds → Item → Item
thinned_by cs i = marked_item (in_some cs) thin_tag i

own-thinned : (cs : List Bounds) (i : Item) → mark (kept (relabelled keep_tag i ∷ [])) (in_some cs) thin_tag ≡ kept (relabelled keep_tag (thinned_by cs i) ∷ [])
own-thinned cs i =
    ap (λ j. mark (kept (j ∷ [])) (in_some cs) thin_tag) (relabelled-keep i)
    ∙ sym (own-marked (in_some cs) thin_tag i)
    ∙ ap (λ j. kept (j ∷ [])) (sym (relabelled-keep (thinned_by cs i)))

mark-parts : (cs : List Bounds) (xs ys zs us : List Item) → mark xs (in_some cs) thin_tag ≡ us
    → mark (xs ++ (ys ++ zs)) (in_some cs) thin_tag ≡ us ++ (mark ys (in_some cs) thin_tag ++ mark zs (in_some cs) thin_tag)
mark-parts cs xs ys zs us e =
    mark-append (in_some cs) thin_tag xs (ys ++ zs) ∙ ap (λ z. z ++ mark (ys ++ zs) (in_some cs) thin_tag) e ∙ ap (λ z. us ++ z) (mark-append (in_some cs) thin_tag ys zs)

-- both children and the item
cleared_fork : (cs : List Bounds) (i : Item) (a : Axis) (l r l' r' : Shape) → IsCleared cs l l' → IsCleared cs r r'
    → IsCleared cs (fork (head i a) l r) (fork (head (thinned_by cs i) a) l' r')
cleared_fork cs i a l r l' r' f g =
    let j = thinned_by cs i in
    let t = fork (head j a) l' r' in
    let own = kept (relabelled keep_tag j ∷ []) in
    record {
      same = subst (λ w. IsPermutation w (walk keep_tag t)) (sym (mark-parts cs (kept (relabelled keep_tag i ∷ [])) (walk keep_tag l) (walk keep_tag r) own (own-thinned cs i)))
          (IsPermutation-append_right own _ _ (IsPermutation-append _ _ _ _ f.same g.same));
      few = omega (arith, f.few, g.few);
      low = omega (arith, f.low, g.low);
      from = subst (λ n. AreAmong (n ∷ (numbers l' ++ numbers r')) (i.number ∷ (numbers l ++ numbers r))) (sym (marked_number (in_some cs) thin_tag i))
          (among_fork i.number (numbers l') (numbers r') (numbers l) (numbers r) f.from g.from);
    }

-- what holds of all points of a tree still does
points_left : (P : Place → Type 0) (cs : List Bounds) (s t : Shape) → IsCleared cs s t → All (λ i. P i.point) (walk keep_tag s) → All (λ i. P i.point) (walk keep_tag t)
points_left P cs s t k all = All-permutation (λ (i : Item). P i.point) _ _ k.same (mark_points P (in_some cs) thin_tag (walk keep_tag s) all)

-- and no number is there more often
times_left : (n : ℕ) (cs : List Bounds) (s t : Shape) → IsCleared cs s t → count_by (λ i. n == i.number) (walk keep_tag t) ≤ count_by (λ i. n == i.number) (walk keep_tag s)
times_left n cs s t k =
    omega (arith, sum_by-IsPermutation (λ (i : Item). cond (n == i.number) 1 0) _ _ k.same, mark_counts n (in_some cs) thin_tag (walk keep_tag s))

-- they may be joined
sound_cleared : (cs : List Bounds) (i : Item) (a : Axis) (l r l' r' : Shape) → IsSoundFork (head i a) l r → IsCleared cs l l' → IsCleared cs r r'
    → IsSoundFork (head (thinned_by cs i) a) l' r'
sound_cleared cs i a l r l' r' s f g =
    let all = cleared_fork cs i a l r l' r' f g in
    let P : Place → Place → Type 0 = λ p q. on a q ≤ℤ on a p in
    let Q : Place → Place → Type 0 = λ p q. on a p ≤ℤ on a q in
    let there = sym (marked-point (in_some cs) thin_tag i) in
    record {
      below = left_all (P (thinned_by cs i).point) keep_tag l' (subst (λ p. All (λ (j : Item). P p j.point) (walk keep_tag l')) there
          (points_left (P i.point) cs l l' f (all_left (P i.point) keep_tag l s.below)));
      above = left_all (Q (thinned_by cs i).point) keep_tag r' (subst (λ p. All (λ (j : Item). Q p j.point) (walk keep_tag r')) there
          (points_left (Q i.point) cs r r' g (all_left (Q i.point) keep_tag r s.above)));
      once = λ n. omega (
        arith,
        s.once n,
        times_walk n keep_tag (fork (head i a) l r),
        times_walk n keep_tag (fork (head (thinned_by cs i) a) l' r'),
        times_left n cs (fork (head i a) l r) (fork (head (thinned_by cs i) a) l' r') all,
      );
      few = omega (arith, all.few, s.few);
      low = omega (arith, all.low, s.low);
    }

-- one step of the pass: the tree is taken apart, and the boxes that meet it are thinned in both children, in any order

pub step_sound : (cs ds : List Bounds) (s : Shape) (f : Fork) (l r : Shape) → IsApart s f → IsPermutation cs ds → IsCleared cs f.left l → IsCleared ds f.right r
    → IsSoundFork (head (thinned_by cs f.item) f.axis) l r
step_sound cs ds s f l r k m left right = sound_cleared cs f.item f.axis f.left f.right l r k.sound left (some_moved ds cs f.right r (IsPermutation-sym cs ds m) right)

pub step_cleared : (large : ℕ) (cs ds : List Bounds) (s : Shape) (f : Fork) (l r t : Shape) → IsApart s f → IsPermutation cs ds → IsCleared cs f.left l → IsCleared ds f.right r
    → RefreshesIfDue large (fork (head (thinned_by cs f.item) f.axis) l r) t → IsCleared cs s t
step_cleared large cs ds s f l r t k m left right done =
    let new = fork (head (thinned_by cs f.item) f.axis) l r in
    cleared_after cs s (fork (head f.item f.axis) f.left f.right) t k.refresh
    (cleared_then cs (fork (head f.item f.axis) f.left f.right) new t
    (cleared_fork cs f.item f.axis f.left f.right l r left (some_moved ds cs f.right r (IsPermutation-sym cs ds m) right))
    (rebuilt_if_due_refresh large new t done))

balanced_due : (large : ℕ) (h : Head) (l r t : Shape) → IsBalancedBelow large l → IsBalancedBelow large r → RefreshesIfDue large (fork h l r) t → IsBalancedBelow large t
balanced_due large h l r t left right (inl k) = subst (IsBalancedBelow large) k.1 ((λ many few. (k.0 many few).0), left, right)
balanced_due large h l r t left right (inr k) = criteria_balanced large t k.2

pub step_balanced : (large : ℕ) (s : Shape) (f : Fork) (h : Head) (l r t : Shape) → Some f ≡ pushed s
    → (IsBalancedBelow large f.left → IsBalancedBelow large l)
    → (IsBalancedBelow large f.right → IsBalancedBelow large r)
    → RefreshesIfDue large (fork h l r) t → IsBalancedBelow large s → IsBalancedBelow large t
step_balanced large s f h l r t x left right done balanced =
    let both = at_pushed (λ z g. IsBalancedBelow large z → IsBalancedBelow large g.left × IsBalancedBelow large g.right) s f x (balanced_children large) balanced in
    balanced_due large h l r t (left both.0) (right both.1) done

-- the contents are those that the boxes leave
pub cleared_contents : (cs : List Bounds) (s t : Shape) → IsSound s → IsCleared cs s t → contents t ≡ mark (contents s) (in_some cs) thin_tag
cleared_contents cs s t sound k =
    let left = mark (walk keep_tag s) (in_some cs) thin_tag in
    let once : AreDistinct left = record { once = λ n. omega (arith, mark_counts n (in_some cs) thin_tag (walk keep_tag s), (once_walk s (sound_once s sound)).once n) } in
    sym (by_number-moved left (walk keep_tag t) k.same once) ∙ by_number-mark (in_some cs) thin_tag (walk keep_tag s)
