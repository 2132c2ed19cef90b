-- Trees of which some subtrees were rebuilt.
use Rattle.std.proofs.Common.{◌≡◌, ℕ, ◌≤◌, inl, inr, ap, ap₂, ◌∙◌, sym, subst, arith, [], ◌∷◌, ◌++◌, map, length, Contains, IsPermutation, ◌==◌, ◌≤ℤ◌, cond}
use Rattle.std.proofs.lemmas.List.Elements.{All-map, All-contains, All-contains_itself, recursion_from_All}
use Rattle.std.proofs.lemmas.List.Sorted.{All-permutation, Contains-permutation, sum_by-IsPermutation, IsPermutation-refl, IsPermutation-sym, IsPermutation-trans, IsPermutation-append, IsPermutation-append_right}
use Rattle.point_geom.specs.Place.{Place}
use Rattle.point_geom.specs.Axes.{on}
use Rattle.point_geom.specs.declared.axis.Axis.{Axis}
use Rattle.node_labels.specs.Labels.{keep_tag}
use Rattle.map_items.specs.declared.item.Item.{Item}
use Rattle.map_items.specs.Contents.{relabelled, kept}
use Rattle.kd_tree.specs.Shape.{Head, Shape, fork, nodes, levels, numbers}
use Rattle.kd_tree.specs.Walk.{walk, AllKept, times, tagged}
use Rattle.kd_tree.specs.Sound.{IsSoundFork}
use Rattle.kd_tree.specs.Contents.{contents}
use Rattle.kd_tree.specs.Build.{IsBuilt}
use Rattle.kd_tree.proofs.Actions.{tagged_nodes, tagged_levels, tagged_numbers}
use Rattle.kd_tree.proofs.Numbered.{by_number-moved}
use Rattle.kd_tree.proofs.Contents.{relabelled-keep, times_walk, once_walk, walk-pushed}
use Rattle.kd_tree.proofs.Held.{walk_kept, walk_few, walk_numbers}
use Rattle.kd_tree.proofs.Medians.{built_nodes, built_levels, built_walk}
use Rattle.kd_mark.specs.Refresh.{AreAmong, IsRefresh, RefreshesIfDue}
use Rattle.kd_tree.proofs.Left.{all_left, left_all}
use Rattle.kd_mark.proofs.Trees.{nodes_below, among_same, among_fork}

-- a node with nothing pending
abbrev pub head : Item → Axis → Head
head i a = record { item = i; axis = a; pending = keep_tag }

-- a node that is joined is one that was handed KEEP
pub tops_alike : (F : Item → Item) (h : Head) (l r l' r' : Shape) → l ≡ l' → r ≡ r' → fork (head (F h.item) h.axis) l r ≡ fork (head (F (relabelled keep_tag h.item)) h.axis) l' r'
tops_alike F h l r l' r' f g = ap (λ i. fork (head (F i) h.axis) l r) (sym (relabelled-keep h.item)) ∙ ap₂ (fork (head (F (relabelled keep_tag h.item)) h.axis)) f g

pub refresh_same : (t : Shape) → IsRefresh t t
refresh_same t = record { same = IsPermutation-refl (walk keep_tag t); few = omega arith; low = omega arith; from = among_same (numbers t) }

pub refresh_trans : (s t u : Shape) → IsRefresh s t → IsRefresh t u → IsRefresh s u
refresh_trans s t u f g = record {
  same = IsPermutation-trans _ _ _ f.same g.same;
  few = omega arith;
  low = omega arith;
  from = λ n k. f.from n (g.from n k);
}

-- children that are rebuilt in part
pub refresh_fork : (i : Item) (a : Axis) (l r l' r' : Shape) → IsRefresh l l' → IsRefresh r r' → IsRefresh (fork (head i a) l r) (fork (head i a) l' r')
refresh_fork i a l r l' r' f g = record {
  same = IsPermutation-append_right (kept (relabelled keep_tag i ∷ [])) _ _ (IsPermutation-append _ _ _ _ f.same g.same);
  few = omega (arith, f.few, g.few);
  low = omega (arith, f.low, g.low);
  from = among_fork i.number (numbers l') (numbers r') (numbers l) (numbers r) f.from g.from;
}

-- a tree taken apart and joined
pub refresh_pushed : (h : Head) (l r : Shape) → IsRefresh (fork h l r) (fork (head h.item h.axis) (tagged h.pending l) (tagged h.pending r))
refresh_pushed h l r =
    let t = fork (head h.item h.axis) (tagged h.pending l) (tagged h.pending r) in
    record {
      same = subst (λ w. IsPermutation w (walk keep_tag t)) (walk-pushed h l r) (IsPermutation-refl (walk keep_tag t));
      few = omega (arith, tagged_nodes h.pending l, tagged_nodes h.pending r);
      low = omega (arith, tagged_levels h.pending l, tagged_levels h.pending r);
      from =
          subst (λ w. AreAmong w (numbers (fork h l r))) (sym (ap (λ x. h.item.number ∷ (x ++ numbers (tagged h.pending r))) (tagged_numbers h.pending l)
          ∙ ap (λ x. h.item.number ∷ (numbers l ++ x)) (tagged_numbers h.pending r)))
          (among_same (numbers (fork h l r)));
    }

refresh_left : (P : Place → Type 0) (s t : Shape) → IsRefresh s t → AllKept P keep_tag s → AllKept P keep_tag t
refresh_left P s t f k = left_all P keep_tag t (All-permutation (λ (i : Item). P i.point) _ _ f.same (all_left P keep_tag s k))

-- a sound node stays sound where its children are rebuilt in part
pub refresh_sound : (i : Item) (a : Axis) (l r l' r' : Shape) → IsSoundFork (head i a) l r → IsRefresh l l' → IsRefresh r r' → IsSoundFork (head i a) l' r'
refresh_sound i a l r l' r' s f g =
    let all = refresh_fork i a l r l' r' f g in
    record {
      below = refresh_left (λ p. on a p ≤ℤ on a i.point) l l' f s.below;
      above = refresh_left (λ p. on a i.point ≤ℤ on a p) r r' g s.above;
      once =
          λ n. omega (
            arith,
            s.once n,
            times_walk n keep_tag (fork (head i a) l r),
            times_walk n keep_tag (fork (head i a) l' r'),
            sum_by-IsPermutation (λ (j : Item). cond (n == j.number) 1 0) _ _ all.same,
          );
      few = omega (arith, all.few, s.few);
      low = omega (arith, all.low, s.low);
    }

-- the contents stay
pub refresh_contents : (s t : Shape) → ((n : ℕ) → times n keep_tag s ≤ 1) → IsRefresh s t → contents t ≡ contents s
refresh_contents s t once f = sym (by_number-moved (walk keep_tag s) (walk keep_tag t) f.same (once_walk s once))

-- the numbers of the remaining items are numbers of nodes
pub left_among : (s : Shape) → AreAmong (map (λ i. i.number) (walk keep_tag s)) (numbers s)
left_among s n c =
    let F : ℕ → Type 0 = Contains (numbers s) in
    All-contains F _ n (All-map F (λ (i : Item). i.number) (walk keep_tag s) (walk_numbers F keep_tag s (recursion_from_All F (numbers s) (All-contains_itself (numbers s))))) c

-- what is built of all remaining items
pub built_refresh : (s t : Shape) → IsBuilt (walk keep_tag s) t → IsPermutation (map (λ i. i.number) (walk keep_tag s)) (numbers t) → IsRefresh s t
built_refresh s t b ns =
    let left = walk keep_tag s in
    let size : length left ≤ nodes s = walk_few keep_tag s in
    record {
      same = built_walk t left b (walk_kept keep_tag s);
      few = omega (arith, built_nodes t left b);
      low = built_levels t left (levels s) b (omega (arith, nodes_below (levels s) s (omega arith)));
      from = λ n c. left_among s n (Contains-permutation _ _ n (IsPermutation-sym _ _ ns) c);
    }

pub rebuilt_if_due_refresh : (large : ℕ) (s t : Shape) → RefreshesIfDue large s t → IsRefresh s t
rebuilt_if_due_refresh large s t (inl k) = subst (IsRefresh s) k.1 (refresh_same s)
rebuilt_if_due_refresh large s t (inr k) = k.1
