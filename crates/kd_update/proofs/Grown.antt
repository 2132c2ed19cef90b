-- Trees with more items than before, some subtrees rebuilt.
use Rattle.std.proofs.Common.{◌≡◌, ℕ, ◌+◌, ◌<◌, ◌≤◌, ◌≤ℤ◌, true, false, cond, inl, inr, refl, ap, sym, subst, arith, List, [], ◌∷◌, ◌++◌, Some, map, length, take, drop, slice_index_or, length-append, append_assoc, All, Contains, IsPermutation, count_by, ◌==◌}
use Rattle.std.proofs.lemmas.List.{map-append, take-append-drop, append-nil, get_or_append_left, get_or-append-add}
use Rattle.std.proofs.lemmas.List.Elements.{All-append, All-weaker, Contains-append_left}
use Rattle.std.proofs.lemmas.List.Sorted.{All-permutation, Contains-permutation, length_permutation, IsPermutation-refl, IsPermutation-sym, IsPermutation-trans, IsPermutation-append, IsPermutation-append_left, IsPermutation-append_right, IsPermutation-append_comm, IsPermutation-map}
use Rattle.std.proofs.lemmas.List.Sums.{sum_by-append}
use Rattle.point_geom.specs.Place.{Place}
use Rattle.point_geom.specs.Axes.{on}
use Rattle.point_geom.specs.declared.axis.Axis.{Axis}
use Rattle.node_labels.specs.Labels.{keep_tag, is_dropped}
use Rattle.node_labels.specs.declared.label.Label.TheVariants.{Live}
use Rattle.map_items.specs.declared.item.Item.{Item}
use Rattle.map_items.specs.Contents.{live_at, relabelled, kept}
use Rattle.kd_tree.specs.Shape.{Head, Shape, leaf, fork, levels, nodes, numbers}
use Rattle.kd_tree.specs.Walk.{walk}
use Rattle.kd_tree.specs.Sound.{IsSound, IsSoundFork}
use Rattle.kd_tree.specs.Contents.{AreDistinct, AreKept}
use Rattle.kd_tree.specs.Build.{IsBuilt}
use Rattle.kd_tree.specs.Parts.{pushed}
use Rattle.kd_tree.specs.declared.change.Fork.{Fork}
use Rattle.kd_tree.proofs.Contents.{times_walk}
use Rattle.kd_tree.proofs.Held.{walk_kept, walk_few}
use Rattle.kd_tree.proofs.Left.{all_left, left_all}
use Rattle.kd_tree.proofs.Medians.{built_nodes, built_levels, built_walk}
use Rattle.kd_tree.proofs.Numbered.{counted_in, once_moved}
use Rattle.kd_mark.specs.Refresh.{AreAmong, IsRefresh, RefreshesIfDue}
use Rattle.kd_mark.specs.Update.{IsBalancedBelow}
use Rattle.kd_update.specs.Put.{goes_left, put_from}
use Rattle.kd_update.specs.Scan.{AreLive, IsGrown, IsParted, IsPiece, numbers_in}
use Rattle.kd_mark.proofs.Trees.{among_same, among_append, among_fork, at_pushed}
use Rattle.kd_mark.proofs.Among.{swapped}
use Rattle.kd_mark.proofs.Refresh.{head, left_among, rebuilt_if_due_refresh}
use Rattle.kd_mark.proofs.Update.{criteria_balanced, balanced_children}
use Rattle.kd_mark.proofs.TakenApart.{IsApart, apart}
use Rattle.kd_update.proofs.Route.{le_of_true, le_of_false, walk-put, nodes-put, levels-put, numbers-put}

-- lists

-- two lists more, each brought to its place
pub spread : {X : Type 0} (k a b c d : List X) → IsPermutation ((k ++ (a ++ b)) ++ (c ++ d)) (k ++ ((a ++ c) ++ (b ++ d)))
spread k a b c d = simp append_assoc (IsPermutation-append_right k _ _ (IsPermutation-append_right a _ _ (swapped b c d)))

-- trees that have grown

pub grown_none : (s : Shape) → IsGrown s [] s
grown_none s = record {
  same = subst (λ w. IsPermutation w (walk keep_tag s)) (sym (append-nil (walk keep_tag s))) (IsPermutation-refl (walk keep_tag s));
  few = omega arith;
  low = omega arith;
  from = λ n k. Contains-append_left (numbers s) [] n k;
}

pub grown_after : (s t u : Shape) (is : List Item) → IsRefresh s t → IsGrown t is u → IsGrown s is u
grown_after s t u is f g = record {
  same = IsPermutation-trans _ _ _ (IsPermutation-append_left is _ _ f.same) g.same;
  few = omega (arith, f.few, g.few);
  low = omega (arith, f.low, g.low);
  from = λ n k. among_append (numbers t) (numbers s) (numbers_in is) (numbers_in is) f.from (among_same (numbers_in is)) n (g.from n k);
}

pub grown_then : (s t u : Shape) (is : List Item) → IsGrown s is t → IsRefresh t u → IsGrown s is u
grown_then s t u is f g = record {
  same = IsPermutation-trans _ _ _ f.same g.same;
  few = omega (arith, f.few, g.few);
  low = omega (arith, f.low, g.low);
  from = λ n k. f.from n (g.from n k);
}

-- the items in another order
pub grown_moved : (s t : Shape) (is js : List Item) → IsPermutation is js → IsGrown s js t → IsGrown s is t
grown_moved s t is js p g = record {
  same = IsPermutation-trans _ _ _ (IsPermutation-append_right (walk keep_tag s) _ _ p) g.same;
  few = omega (arith, g.few, length_permutation is js p);
  low = g.low;
  from = λ n k. Contains-permutation _ _ n (IsPermutation-append_right (numbers s) _ _ (IsPermutation-map (λ (i : Item). i.number) js is (IsPermutation-sym is js p))) (g.from n k);
}

-- children that have grown
pub grown_fork : (i : Item) (a : Axis) (l r l' r' : Shape) (xs ys : List Item) → IsGrown l xs l' → IsGrown r ys r' → IsGrown (fork (head i a) l r) (xs ++ ys) (fork (head i a) l' r')
grown_fork i a l r l' r' xs ys f g =
    let own = i.number ∷ [] in
    let s = fork (head i a) l r in
    record {
      same = IsPermutation-trans _ _ _ (spread (kept (relabelled keep_tag i ∷ [])) (walk keep_tag l) (walk keep_tag r) xs ys)
          (IsPermutation-append_right (kept (relabelled keep_tag i ∷ [])) _ _ (IsPermutation-append _ _ _ _ f.same g.same));
      few = omega (arith, f.few, g.few, length-append xs ys);
      low = omega (arith, f.low, g.low);
      from = λ n k. subst (λ z. Contains (numbers s ++ z) n) (sym (map-append (λ (j : Item). j.number) xs ys))
          (Contains-permutation _ _ n (IsPermutation-sym _ _ (spread own (numbers l) (numbers r) (numbers_in xs) (numbers_in ys)))
          (among_fork i.number (numbers l') (numbers r') (numbers l ++ numbers_in xs) (numbers r ++ numbers_in ys) f.from g.from n k));
    }

pub live_of : (i : Item) → i.label ≡ Live → i ≡ live_at i.number i.point
live_of i e = ap (λ x. record i { label = x }) e

-- a single point that is put
pub grown_put : (i : Item) (axis : Axis) (s t : Shape) → i.label ≡ Live → IsRefresh (put_from i.number i.point axis s) t → IsGrown s (i ∷ []) t
grown_put i axis s t live f =
    let p = put_from i.number i.point axis s in
    let one : IsPermutation (i ∷ walk keep_tag s) (walk keep_tag p) =
    subst (λ (j : Item). IsPermutation (j ∷ walk keep_tag s) (walk keep_tag p)) (sym (live_of i live)) (walk-put i.number i.point axis keep_tag s) in
    grown_then s p t (i ∷ [])
    (record {
      same = IsPermutation-trans _ _ _ (IsPermutation-append_comm (walk keep_tag s) (i ∷ [])) one;
      few = omega (arith, nodes-put i.number i.point axis keep_tag s);
      low = omega (arith, levels-put i.number i.point axis keep_tag s);
      from = λ n k. Contains-permutation _ _ n (IsPermutation-append_comm (i.number ∷ []) (numbers s)) (numbers-put i.number i.point axis keep_tag s n k);
    }) f

abbrev pub IsLive : Item → Type 0
IsLive i = i.label ≡ Live

pub live_kept : (is : List Item) → AreLive is → AreKept is
live_kept is k = All-weaker IsLive (λ i. is_dropped i.label ≡ false) (λ i e. ap is_dropped e) is k

pub kept_with : (s : Shape) (is : List Item) → AreLive is → AreKept (walk keep_tag s ++ is)
kept_with s is k = All-append (λ (i : Item). is_dropped i.label ≡ false) (walk keep_tag s) is (walk_kept keep_tag s) (live_kept is k)

built_from : (s t : Shape) (is : List Item) → IsPermutation (map (λ i. i.number) (walk keep_tag s ++ is)) (numbers t) → AreAmong (numbers t) (numbers s ++ numbers_in is)
built_from s t is ns n k =
    among_append (numbers_in (walk keep_tag s)) (numbers s) (numbers_in is) (numbers_in is) (left_among s) (among_same (numbers_in is)) n
    (subst (λ z. Contains z n) (map-append (λ (i : Item). i.number) (walk keep_tag s) is) (Contains-permutation _ _ n (IsPermutation-sym _ _ ns) k))

built_grown : (s t : Shape) (is : List Item) → AreLive is → levels t ≤ levels s + 22 → IsBuilt (walk keep_tag s ++ is) t
    → IsPermutation (map (λ i. i.number) (walk keep_tag s ++ is)) (numbers t) → IsGrown s is t
built_grown s t is live low b ns = record {
  same = built_walk t (walk keep_tag s ++ is) b (kept_with s is live);
  few = omega (arith, built_nodes t (walk keep_tag s ++ is) b, length-append (walk keep_tag s) is, walk_few keep_tag s);
  low = low;
  from = built_from s t is ns;
}

-- what remains and the items, built by medians: where the tree had a node, there is room for that
pub grown_anew : (s t : Shape) (is : List Item) → AreLive is → length (walk keep_tag s) + length is ≤ 4194304
    → 1 ≤ nodes s + levels s → IsBuilt (walk keep_tag s ++ is) t
    → IsPermutation (map (λ i. i.number) (walk keep_tag s ++ is)) (numbers t) → IsGrown s is t
grown_anew leaf t is live few some b ns = absurd (omega (arith, some))
grown_anew (fork h l r) t is live few some b ns =
    let all = walk keep_tag (fork h l r) ++ is in
    built_grown (fork h l r) t is live (omega (arith, built_levels t all 23 b (omega (arith, length-append (walk keep_tag (fork h l r)) is, few)))) b ns

-- and fewer items than a pass puts where it had none
pub grown_first : (s t : Shape) (is : List Item) → s ≡ leaf → AreLive is → length is < 4194304
    → IsBuilt (walk keep_tag s ++ is) t → IsPermutation (map (λ i. i.number) (walk keep_tag s ++ is)) (numbers t)
    → IsGrown leaf is t
grown_first leaf t is none live short b ns = built_grown leaf t is live (built_levels t is 22 b (omega (arith, short))) b ns
grown_first (fork h l r) t is none live short b ns = absurd (cc none)

-- a list of one item
pub alone : (is : List Item) (i : Item) → length is ≡ 1 → i ≡ slice_index_or is 0 i → is ≡ i ∷ []
alone [] i k e = absurd (omega (arith, k))
alone (j ∷ []) i k e = ap (λ (x : Item). x ∷ []) (sym e)
alone (j ∷ k ∷ is) i n e = absurd (omega (arith, n))

-- pieces

-- the number of an item isn't among those before it
pub new_first : (xs is : List Item) (i : Item) → AreDistinct (xs ++ i ∷ is) → count_by (λ j. i.number == j.number) xs ≡ 0
new_first xs is i d =
    let here = counted_in i i.number (i ∷ is) (inl refl) refl in
    omega (arith, here, d.once i.number, sum_by-append (λ (j : Item). cond (i.number == j.number) 1 0) xs (i ∷ is))

-- no more items may be put in a tree that is no larger
piece_part : (large : ℕ) (s t : Shape) (is js : List Item) → IsPiece large s is → AreLive js
    → AreDistinct (walk keep_tag t ++ js) → length js ≤ length is → nodes t ≤ nodes s → levels t ≤ levels s
    → IsPiece large t js
piece_part large s t is js p live distinct short few low = record {
  live = live;
  distinct = distinct;
  small = omega (arith, p.small, short);
  short = omega (arith, p.short, short);
  low = omega (arith, p.low, low);
  few = omega (arith, p.few, short, few);
}

pub piece_moved : (large : ℕ) (s : Shape) (is js : List Item) → IsPermutation is js → IsPiece large s is → IsPiece large s js
piece_moved large s is js m p =
    piece_part large s s is js p (All-permutation IsLive is js m p.live)
    (once_moved _ _ (IsPermutation-append_right (walk keep_tag s) _ _ m) p.distinct)
    (omega (arith, length_permutation is js m)) (omega arith) (omega arith)

piece_after : (large : ℕ) (s t : Shape) (is : List Item) → IsRefresh s t → IsPiece large s is → IsPiece large t is
piece_after large s t is f p = piece_part large s t is is p p.live (once_moved _ _ (IsPermutation-append_left is _ _ f.same) p.distinct) (omega arith) f.few f.low

pub all_first : (P : Item → Type 0) (xs ys : List Item) → All P (xs ++ ys) → All P xs
all_first P xs ys k = λ n d below. subst P (get_or_append_left xs ys d n below) (k n d (omega (arith, length-append xs ys)))

pub all_last : (P : Item → Type 0) (xs ys : List Item) → All P (xs ++ ys) → All P ys
all_last P xs ys k = λ n d below. subst P (get_or-append-add xs ys n d) (k (length xs + n) d (omega (arith, length-append xs ys)))

-- no number occurs twice in a part
pub distinct_front : (xs ys : List Item) → AreDistinct (xs ++ ys) → AreDistinct xs
distinct_front xs ys d = record { once = λ n. let g : Item → ℕ = λ i. cond (n == i.number) 1 0 in omega (arith, d.once n, sum_by-append g xs ys) }

pub distinct_back : (xs ys : List Item) → AreDistinct (xs ++ ys) → AreDistinct ys
distinct_back xs ys d = record { once = λ n. let g : Item → ℕ = λ i. cond (n == i.number) 1 0 in omega (arith, d.once n, sum_by-append g xs ys) }

-- the items that go to each child may be put there
piece_children : (large : ℕ) (i : Item) (a : Axis) (l r : Shape) (xs ys : List Item) → IsPiece large (fork (head i a) l r) (xs ++ ys) → IsPiece large l xs × IsPiece large r ys
piece_children large i a l r xs ys p =
    let both : AreDistinct ((walk keep_tag l ++ xs) ++ (walk keep_tag r ++ ys)) =
    distinct_back _ _ (once_moved _ _
    (spread (kept (relabelled keep_tag i ∷ [])) (walk keep_tag l) (walk keep_tag r) xs ys) p.distinct) in
    let size = length-append xs ys in
    let s = fork (head i a) l r in (
      piece_part large s l (xs ++ ys) xs p (all_first IsLive xs ys p.live) (distinct_front (walk keep_tag l ++ xs) (walk keep_tag r ++ ys) both) (omega (arith, size)) (omega arith) (omega arith),
      piece_part large s r (xs ++ ys) ys p (all_last IsLive xs ys p.live) (distinct_back (walk keep_tag l ++ xs) (walk keep_tag r ++ ys) both) (omega (arith, size)) (omega arith) (omega arith),
    )

-- the first list goes left of the item, the second right
pub record GoBeside (i : Item) (a : Axis) (xs ys : List Item) : Type 0 where
  pub left : All (λ j. goes_left a j.point i.point ≡ true) xs
  pub right : All (λ j. goes_left a j.point i.point ≡ false) ys

-- children that have grown by what goes there may be joined
sound_grown : (large : ℕ) (i : Item) (a : Axis) (l r l' r' : Shape) (xs ys : List Item) → IsSoundFork (head i a) l r → IsPiece large (fork (head i a) l r) (xs ++ ys) → GoBeside i a xs ys
    → IsGrown l xs l' → IsGrown r ys r' → IsSoundFork (head i a) l' r'
sound_grown large i a l r l' r' xs ys s p b f g =
    let all = grown_fork i a l r l' r' xs ys f g in
    let P : Place → Type 0 = λ q. on a q ≤ℤ on a i.point in
    let Q : Place → Type 0 = λ q. on a i.point ≤ℤ on a q in
    record {
      below = left_all P keep_tag l' (All-permutation (λ (j : Item). P j.point) _ _ f.same
          (All-append (λ (j : Item). P j.point) _ _ (all_left P keep_tag l s.below) (All-weaker _ _ (λ j e. le_of_true (on a j.point) (on a i.point) e) xs b.left)));
      above = left_all Q keep_tag r' (All-permutation (λ (j : Item). Q j.point) _ _ g.same
          (All-append (λ (j : Item). Q j.point) _ _ (all_left Q keep_tag r s.above) (All-weaker _ _ (λ j e. le_of_false (on a j.point) (on a i.point) e) ys b.right)));
      once = λ n. omega (arith, times_walk n keep_tag (fork (head i a) l' r'), (once_moved _ _ all.same p.distinct).once n);
      few = omega (arith, all.few, p.few);
      low = omega (arith, all.low, p.low);
    }

-- one step of the pass: the tree is taken apart, and the items are parted

pub record IsStep (s : Shape) (is : List Item) (f : Fork) (xs ys : List Item) : Type 0 where
  pub apart : IsApart s f
  pub moved : IsPermutation is (xs ++ ys)
  pub beside : GoBeside f.item f.axis xs ys

parted_at : (s : Shape) (f : Fork) (n : ℕ) (js : List Item) → Some f ≡ pushed s → IsParted s n js → GoBeside f.item f.axis (take n js) (drop n js)
parted_at s f n js x = at_pushed (λ z g. IsParted z n js → GoBeside g.item g.axis (take n js) (drop n js)) s f x (λ h l r k. record { left = k.1; right = k.2 })

pub step_at : (s : Shape) (f : Fork) (n : ℕ) (is js xs ys : List Item) → Some f ≡ pushed s → IsSound s → IsPermutation is js → IsParted s n js → xs ≡ take n js → ys ≡ drop n js → IsStep s is f xs ys
step_at s f n is js xs ys x k m p e e' = record {
  apart = apart s f x k;
  moved = rw (e, e', take-append-drop n js) m;
  beside = rw (e, e') (parted_at s f n js x p);
}

pub step_pieces : (large : ℕ) (s : Shape) (is : List Item) (f : Fork) (xs ys : List Item) → IsStep s is f xs ys → IsPiece large s is → IsPiece large f.left xs × IsPiece large f.right ys
step_pieces large s is f xs ys k p =
    piece_children large f.item f.axis f.left f.right xs ys (piece_after large s (fork (head f.item f.axis) f.left f.right) (xs ++ ys) k.apart.refresh (piece_moved large s is (xs ++ ys) k.moved p))

pub step_sound : (large : ℕ) (s : Shape) (is : List Item) (f : Fork) (xs ys : List Item) (l r : Shape)
    → IsStep s is f xs ys → IsPiece large s is → IsGrown f.left xs l → IsGrown f.right ys r
    → IsSoundFork (head f.item f.axis) l r
step_sound large s is f xs ys l r k p left right =
    sound_grown large f.item f.axis f.left f.right l r xs ys k.apart.sound
    (piece_after large s (fork (head f.item f.axis) f.left f.right) (xs ++ ys) k.apart.refresh (piece_moved large s is (xs ++ ys) k.moved p)) k.beside left right

pub step_grown : (large : ℕ) (s : Shape) (is : List Item) (f : Fork) (xs ys : List Item) (l r t : Shape)
    → IsStep s is f xs ys → IsGrown f.left xs l → IsGrown f.right ys r
    → RefreshesIfDue large (fork (head f.item f.axis) l r) t → IsGrown s is t
step_grown large s is f xs ys l r t k left right done =
    grown_moved s t is (xs ++ ys) k.moved
    (grown_after s (fork (head f.item f.axis) f.left f.right) t (xs ++ ys) k.apart.refresh
    (grown_then (fork (head f.item f.axis) f.left f.right) (fork (head f.item f.axis) l r) t (xs ++ ys)
    (grown_fork f.item f.axis f.left f.right l r xs ys left right)
    (rebuilt_if_due_refresh large (fork (head f.item f.axis) l r) t done)))

-- balance

balanced_due : (large : ℕ) (h : Head) (l r t : Shape) → IsBalancedBelow large l → IsBalancedBelow large r → RefreshesIfDue large (fork h l r) t → IsBalancedBelow large t
balanced_due large h l r t left right (inl k) = subst (IsBalancedBelow large) k.1 ((λ many few. (k.0 many few).0), left, right)
balanced_due large h l r t left right (inr k) = criteria_balanced large t k.2

pub step_balanced : (large : ℕ) (s : Shape) (f : Fork) (l r t : Shape) → Some f ≡ pushed s
    → (IsBalancedBelow large f.left → IsBalancedBelow large l)
    → (IsBalancedBelow large f.right → IsBalancedBelow large r) → RefreshesIfDue large (fork (head f.item f.axis) l r) t
    → IsBalancedBelow large s → IsBalancedBelow large t
step_balanced large s f l r t x left right done balanced =
    let both = at_pushed (λ z g. IsBalancedBelow large z → IsBalancedBelow large g.left × IsBalancedBelow large g.right) s f x (balanced_children large) balanced in
    balanced_due large (head f.item f.axis) l r t (left both.0) (right both.1) done
