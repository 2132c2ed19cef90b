-- A list and a tree after an action on chosen items, without rebuilding.
use Rattle.std.proofs.Common.{◌≡◌, ℕ, ◌+◌, ◌≤◌, max, true, false, cond, refl, ap, ◌∙◌, sym, arith, subst, Option, Some, None, List, [], ◌∷◌, ◌++◌, All, count_by, ◌==◌, ◌≤ℤ◌, Bool, not, map}
use Rattle.std.proofs.lemmas.Bool.{cond_both, cond-true, cond-false, false_from_ne_true, false≢true, and_parts}
use Rattle.std.proofs.lemmas.Bool.Decides.{nat_tests}
use Rattle.std.specs.Cmp.Derive.{both_true}
use Rattle.std.specs.List.{AllByRecursion}
use Rattle.std.proofs.lemmas.List.Elements.{recursion_from_All, All-map, All-weaker, All-filter}
use Rattle.std.proofs.lemmas.List.Sums.{sum_by-cons}
use Rattle.point_geom.specs.Place.{Place, Bounds}
use Rattle.map_items.specs.declared.choice.Choice.{Choice}
use Rattle.point_geom.specs.Axes.{on}
use Rattle.point_geom.specs.Extents.{IsIn, spot}
use Rattle.kd_mark.specs.Reach.{covers, covers_box, meets, meets_box, reach, reach_of}
use Rattle.kd_mark.specs.declared.reach.Reach.{Reach}
use Rattle.point_geom.proofs.Laws.{IsPart-same, held_meets, covered_held}
use Rattle.node_labels.specs.Labels.{composed, keep_tag, is_dropped}
use Rattle.node_labels.specs.declared.label.Label.{Label}
use Rattle.node_labels.specs.declared.label.Label.TheVariants.{Live, Suspended, Dropped}
use Rattle.node_labels.specs.declared.tag.Tag.{Tag}
use Rattle.node_labels.proofs.Laws.{composed-keep_right}
use Rattle.map_items.specs.declared.item.Item.{Item}
use Rattle.map_items.specs.Contents.{relabelled, marked_item, kept, mark, chosen_by, everything, is_above, is_inside}
use Rattle.map_items.proofs.Numbered.{marked_number}
use Rattle.kd_tree.specs.Shape.{Head, Shape, leaf, fork, nodes, levels, numbers}
use Rattle.kd_tree.specs.Walk.{walk, extent, grown, tagged, AllKept, times}
use Rattle.kd_tree.specs.Sound.{IsSound, IsSoundFork}
use Rattle.kd_tree.specs.Contents.{contents, by_number, AreKept}
use Rattle.kd_tree.specs.Parts.{pushed}
use Rattle.kd_tree.specs.declared.change.Fork.{Fork}
use Rattle.kd_tree.proofs.Actions.{tagged-keep, tagged_nodes, tagged_levels, sound_once}
use Rattle.kd_tree.specs.Numbers.{one_number, widened, range}
use Rattle.kd_tree.proofs.Extents.{walk_in}
use Rattle.kd_tree.proofs.Ranges.{IsInRange, ranged_itself, walk_ranged}
use Rattle.kd_tree.proofs.Held.{walk_kept}
use Rattle.kd_tree.proofs.Contents.{parts_alike, mark-append, by_number-mark, relabelled-keep, walk-composed, walk-tagged, times_walk}
use Rattle.kd_mark.specs.Mark.{marked_under, marked_shape, is_entered, RebuildsNoneEntered}
use Rattle.kd_mark.specs.Refresh.{AreAmong, IsNotDue, IsRefresh}
use Rattle.kd_tree.proofs.Left.{all_left, left_all}
use Rattle.std.proofs.lemmas.Option.{same_Some}
use Rattle.kd_mark.proofs.Trees.{forked, walk-tagged_keep}
use Rattle.kd_mark.proofs.Refresh.{head, refresh_contents, tops_alike}

-- actions on lists of items

-- a mark changes no point
pub marked-point : (chosen : Item → Bool) (a : Tag) (i : Item) → (marked_item chosen a i).point ≡ i.point
marked-point chosen a i = let Q : Item → Type 0 = λ j. j.point ≡ i.point in cond_both (chosen i) (relabelled a i) i Q (λ _. refl) (λ _. refl)

-- what remains of one item
pub own-marked : (chosen : Item → Bool) (a : Tag) (i : Item) → kept (marked_item chosen a i ∷ []) ≡ mark (kept (i ∷ [])) chosen a
own-marked chosen a i = own i.label
  where
    own : (x : Label) → kept (marked_item chosen a (record i { label = x }) ∷ []) ≡ mark (kept (record i { label = x } ∷ [])) chosen a
    own Live = refl
    own Suspended = refl
    own Dropped = let Q : Item
        → Type 0 = λ j. kept (j ∷ []) ≡ [] in
        cond_both (chosen (record i { label = Dropped })) (relabelled a (record i { label = Dropped }))
        (record i { label = Dropped }) Q (λ _. refl) (λ _. refl)

-- two choices that agree
agree_by : (chosen other : Item → Bool) (a : Tag) (xs : List Item) → AllByRecursion (λ i. chosen i ≡ other i) xs → mark xs chosen a ≡ mark xs other a
agree_by chosen other a [] k = refl
agree_by chosen other a (i ∷ xs) k = rw (k.0, agree_by chosen other a xs k.1) refl

pub mark_agree : (chosen other : Item → Bool) (a : Tag) (xs : List Item) → All (λ i. chosen i ≡ other i) xs → mark xs chosen a ≡ mark xs other a
mark_agree chosen other a xs k = agree_by chosen other a xs (recursion_from_All (λ (i : Item). chosen i ≡ other i) xs k)

none_by : (chosen : Item → Bool) (a : Tag) (xs : List Item) → AllByRecursion (λ i. chosen i ≡ false) xs → AllByRecursion (λ i. is_dropped i.label ≡ false) xs → mark xs chosen a ≡ xs
none_by chosen a [] k d = refl
none_by chosen a (i ∷ xs) k d = rw (k.0, d.0, none_by chosen a xs k.1 d.1) refl

-- where none is chosen and none dropped, all stays
pub mark_none : (chosen : Item → Bool) (a : Tag) (xs : List Item) → All (λ i. chosen i ≡ false) xs → AreKept xs → mark xs chosen a ≡ xs
mark_none chosen a xs k d = none_by chosen a xs (recursion_from_All (λ (i : Item). chosen i ≡ false) xs k) (recursion_from_All (λ (i : Item). is_dropped i.label ≡ false) xs d)

-- what holds of all points still does
pub mark_points : (P : Place → Type 0) (chosen : Item → Bool) (a : Tag) (xs : List Item) → All (λ i. P i.point) xs → All (λ i. P i.point) (mark xs chosen a)
mark_points P chosen a xs k =
    let F : Item → Type 0 = λ i. P i.point in
    All-filter (λ (i : Item). not (is_dropped i.label)) F (map (marked_item chosen a) xs)
    (All-map F (marked_item chosen a) xs (All-weaker F (λ i. F (marked_item chosen a i)) (λ i p. subst P (sym (marked-point chosen a i)) p) xs k))

-- no number is there more often
pub mark_counts : (n : ℕ) (chosen : Item → Bool) (a : Tag) (xs : List Item) → count_by (λ i. n == i.number) (mark xs chosen a) ≤ count_by (λ i. n == i.number) xs
mark_counts n chosen a [] = omega arith
mark_counts n chosen a (i ∷ xs) =
    let g : Item → ℕ = λ j. cond (n == j.number) 1 0 in
    let same : g (marked_item chosen a i) ≡ g i = ap (λ m. cond (n == m) 1 0) (marked_number chosen a i) in
    let rest = mark_counts n chosen a xs in
    let Q : List Item → Type 0 = λ ys. count_by (λ j. n == j.number) ys ≤ count_by (λ j. n == j.number) (i ∷ xs) in
    cond_both (not (is_dropped (marked_item chosen a i).label)) (marked_item chosen a i ∷ mark xs chosen a) (mark xs chosen a) Q
    (λ _. omega (arith, same, rest, sum_by-cons g (marked_item chosen a i) (mark xs chosen a), sum_by-cons g i xs))
    (λ _. omega (arith, rest, sum_by-cons g i xs))

-- actions on trees

-- an action on chosen items after one on all
pub marked-tagged : (c : Choice) (a p : Tag) (t : Shape) → marked_under c a keep_tag (tagged p t) ≡ marked_under c a p t
unfolding marked_under
marked-tagged c a p leaf = refl
marked-tagged c a p (fork h l r) =
    let F : Shape → Item → Tag
    → Shape =
    λ s i q. cond (meets c (reach_of h l r)) (cond (covers c (reach_of h l r)) (tagged a s)
    (fork (record h { item = marked_item (chosen_by c) a i; pending = keep_tag }) (marked_under c a q l)
    (marked_under c a q r))) s in
    ap (λ s. F s (relabelled keep_tag (relabelled p h.item)) (composed (composed h.pending p) keep_tag)) (tagged-keep (tagged p (fork h l r)))
    ∙ ap (λ i. F (tagged p (fork h l r)) i (composed (composed h.pending p) keep_tag)) (relabelled-keep (relabelled p h.item))
    ∙ ap (λ q. F (tagged p (fork h l r)) (relabelled p h.item) q) (composed-keep_right (composed h.pending p))

-- a child that was handed the pending action, marked
pub child-marked : (c : Choice) (a q : Tag) (t : Shape) → marked_shape c a (tagged q t) ≡ marked_under c a (composed q keep_tag) t
child-marked c a q t = marked-tagged c a q t ∙ ap (λ p. marked_under c a p t) (sym (composed-keep_right q))

-- what holds where the choice misses a node, covers it or enters it
marked_cases : (P : Shape → Type 0) (c : Choice) (a p : Tag) (h : Head) (l r : Shape) → P (tagged p (fork h l r)) → P (tagged a (tagged p (fork h l r)))
    → P (fork (record h { item = marked_item (chosen_by c) a (relabelled p h.item); pending = keep_tag })
    (marked_under c a (composed h.pending p) l) (marked_under c a (composed h.pending p) r))
    → P (marked_under c a p (fork h l r))
unfolding marked_under
marked_cases P c a p h l r missed covered entered = cond_both (meets c (reach_of h l r)) _ _ P (λ _. cond_both (covers c (reach_of h l r)) _ _ P (λ _. covered) (λ _. entered)) (λ _. missed)

pub nodes-marked : (c : Choice) (a p : Tag) (t : Shape) → nodes (marked_under c a p t) ≡ nodes t
unfolding marked_under
nodes-marked c a p leaf = refl
nodes-marked c a p (fork h l r) =
    marked_cases (λ s. nodes s ≡ nodes l + nodes r + 1) c a p h l r refl refl (omega (arith, nodes-marked c a (composed h.pending p) l, nodes-marked c a (composed h.pending p) r))

pub levels-marked : (c : Choice) (a p : Tag) (t : Shape) → levels (marked_under c a p t) ≡ levels t
unfolding marked_under
levels-marked c a p leaf = refl
levels-marked c a p (fork h l r) =
    marked_cases (λ s. levels s ≡ max (levels l) (levels r) + 1) c a p h l r refl refl (omega (arith, levels-marked c a (composed h.pending p) l, levels-marked c a (composed h.pending p) r))

pub numbers-marked : (c : Choice) (a p : Tag) (t : Shape) → numbers (marked_under c a p t) ≡ numbers t
unfolding marked_under
numbers-marked c a p leaf = refl
numbers-marked c a p (fork h l r) =
    marked_cases (λ s. numbers s ≡ h.item.number ∷ (numbers l ++ numbers r)) c a p h l r refl refl
    (rw (marked_number (chosen_by c) a (relabelled p h.item), numbers-marked c a (composed h.pending p) l, numbers-marked c a (composed h.pending p) r) refl)

-- trees that reach the same
abbrev AreAlike : Shape → Shape → Type 0
AreAlike s t = (extent s ≡ extent t) × (range s ≡ range t)

reaches_alike : (i j : Item) (l r l' r' : Shape) → i.point ≡ j.point → i.number ≡ j.number → AreAlike l l' → AreAlike r r'
    → (grown (grown (spot i.point) (extent l)) (extent r) ≡ grown (grown (spot j.point) (extent l')) (extent r')) ×
    (widened (widened (one_number i.number) (range l)) (range r)
    ≡ widened (widened (one_number j.number) (range l')) (range r'))
reaches_alike i j l r l' r' p n e f = (rw (p, e.0, f.0) refl, rw (n, e.1, f.1) refl)

reach-marked : (c : Choice) (a p : Tag) (t : Shape) → AreAlike (marked_under c a p t) t
unfolding marked_under
reach-marked c a p leaf = (refl, refl)
reach-marked c a p (fork h l r) =
    let i = relabelled p h.item in
    let q = composed h.pending p in
    let all =
    reaches_alike (marked_item (chosen_by c) a i) i (marked_under c a q l) (marked_under c a q r) l r
    (marked-point (chosen_by c) a i) (marked_number (chosen_by c) a i) (reach-marked c a q l)
    (reach-marked c a q r) in
    marked_cases (λ s. AreAlike s (fork h l r)) c a p h l r (refl, refl) (refl, refl) (ap Some all.0, ap Some all.1)

reach-tagged : (a : Tag) (t : Shape) → AreAlike (tagged a t) t
reach-tagged a leaf = (refl, refl)
reach-tagged a (fork h l r) = (refl, refl)

mark-fork : (c : Choice) (a p : Tag) (h : Head) (l r : Shape)
    → mark (walk p (fork h l r)) (chosen_by c) a
    ≡ mark (kept (relabelled p h.item ∷ [])) (chosen_by c) a
    ++
    (mark (walk (composed h.pending p) l) (chosen_by c) a ++ mark (walk (composed h.pending p) r) (chosen_by c) a)
mark-fork c a p h l r =
    mark-append (chosen_by c) a (kept (relabelled p h.item ∷ [])) (walk (composed h.pending p) l ++ walk (composed h.pending p) r)
    ∙ ap (λ z. mark (kept (relabelled p h.item ∷ [])) (chosen_by c) a ++ z) (mark-append (chosen_by c) a (walk (composed h.pending p) l) (walk (composed h.pending p) r))

-- the item lies where the tree reaches
abbrev IsReached : Reach → Item → Type 0
IsReached e i = IsIn e.extent i.point × IsInRange e.numbers i.number

-- so are all remaining items
reached_all : (p : Tag) (h : Head) (l r : Shape) → All (IsReached (reach_of h l r)) (walk p (fork h l r))
reached_all p h l r = λ n d below.
    let e = reach_of h l r in
    (walk_in p (fork h l r) e.extent (IsPart-same e.extent) n d below, walk_ranged p (fork h l r) e.numbers (ranged_itself e.numbers) n d below)

-- what the choice covers it chooses
covered_chosen : (c : Choice) (e : Reach) (i : Item) → covers c e ≡ true → IsReached e i → chosen_by c i ≡ true
covered_chosen c e i k r = let q = and_parts _ _ k in both_true (below c.below q.0 r.1.1) (inside c.within q.1 r.0)
  where
    below : (o : Option ℕ) → is_above o e.numbers.greatest ≡ true → i.number ≤ e.numbers.greatest → is_above o i.number ≡ true
    below None k n = refl
    below (Some bound) k n = grind (arith, nat_tests)

    inside : (o : Option Bounds) → covers_box o e.extent ≡ true → IsIn e.extent i.point → is_inside o i.point ≡ true
    inside None k n = refl
    inside (Some b) k n = covered_held b e.extent i.point k n

-- and it meets what it chooses something of
chosen_met : (c : Choice) (e : Reach) (i : Item) → IsReached e i → chosen_by c i ≡ true → meets c e ≡ true
chosen_met c e i r k = let q = and_parts _ _ k in both_true (below c.below q.0 r.1.0) (inside c.within q.1 r.0)
  where
    below : (o : Option ℕ) → is_above o i.number ≡ true → e.numbers.least ≤ i.number → is_above o e.numbers.least ≡ true
    below None k n = refl
    below (Some bound) k n = grind (arith, nat_tests)

    inside : (o : Option Bounds) → is_inside o i.point ≡ true → IsIn e.extent i.point → meets_box o e.extent ≡ true
    inside None k n = refl
    inside (Some b) k n = held_meets b e.extent i.point k n

-- what the choice covers
covered : (c : Choice) (a p : Tag) (h : Head) (l r : Shape) → covers c (reach_of h l r) ≡ true → walk keep_tag (tagged a (tagged p (fork h l r))) ≡ mark (walk p (fork h l r)) (chosen_by c) a
covered c a p h l r k =
    walk-tagged_keep a (tagged p (fork h l r)) ∙ walk-tagged p a (fork h l r) ∙ walk-composed p a (fork h l r)
    ∙ sym (mark_agree (chosen_by c) everything a (walk p (fork h l r)) (All-weaker (IsReached (reach_of h l r))
    (λ i. chosen_by c i ≡ true) (λ i q. covered_chosen c (reach_of h l r) i k q) (walk p (fork h l r))
    (reached_all p h l r)))

not_chosen : (c : Choice) (e : Reach) (i : Item) → meets c e ≡ false → IsReached e i → chosen_by c i ≡ false
not_chosen c e i k r = false_from_ne_true _ (λ chosen. false≢true (sym k ∙ chosen_met c e i r chosen))

-- what the choice misses
missed : (c : Choice) (a p : Tag) (h : Head) (l r : Shape) → meets c (reach_of h l r) ≡ false → walk keep_tag (tagged p (fork h l r)) ≡ mark (walk p (fork h l r)) (chosen_by c) a
missed c a p h l r k =
    walk-tagged_keep p (fork h l r)
    ∙ sym (mark_none (chosen_by c) a (walk p (fork h l r)) (All-weaker (IsReached (reach_of h l r))
    (λ i. chosen_by c i ≡ false) (λ i q. not_chosen c (reach_of h l r) i k q) (walk p (fork h l r))
    (reached_all p h l r)) (walk_kept p (fork h l r)))

-- what remains after an action on chosen items is what it leaves of what was there
pub walk-marked : (c : Choice) (a p : Tag) (t : Shape) → walk keep_tag (marked_under c a p t) ≡ mark (walk p t) (chosen_by c) a
unfolding marked_under
walk-marked c a p leaf = refl
walk-marked c a p (fork h l r) =
    let Q : Shape → Type 0 = λ s. walk keep_tag s ≡ mark (walk p (fork h l r)) (chosen_by c) a in
    let i = marked_item (chosen_by c) a (relabelled p h.item) in
    cond_both (meets c (reach_of h l r)) _ _ Q
    (λ m. cond_both (covers c (reach_of h l r)) _ _ Q (covered c a p h l r)
    (λ k. parts_alike _ _ _ _ _ _ (ap (λ j. kept (j ∷ [])) (relabelled-keep i) ∙ own-marked (chosen_by c) a (relabelled p h.item)) (walk-marked c a (composed h.pending p) l) (walk-marked c a (composed h.pending p) r)
    ∙ sym (mark-fork c a p h l r)))
    (missed c a p h l r)

pub contents-marked : (c : Choice) (a : Tag) (t : Shape) → contents (marked_shape c a t) ≡ mark (contents t) (chosen_by c) a
contents-marked c a t = ap by_number (walk-marked c a keep_tag t) ∙ by_number-mark (chosen_by c) a (walk keep_tag t)

AllKept-marked : (P : Place → Type 0) (c : Choice) (a p : Tag) (t : Shape) → AllKept P p t → AllKept P keep_tag (marked_under c a p t)
AllKept-marked P c a p t k =
    left_all P keep_tag (marked_under c a p t) (subst (All (λ (i : Item). P i.point)) (sym (walk-marked c a p t))
    (mark_points P (chosen_by c) a (walk p t) (all_left P p t k)))

times-marked : (n : ℕ) (c : Choice) (a : Tag) (t : Shape) → times n keep_tag (marked_shape c a t) ≤ times n keep_tag t
times-marked n c a t =
    omega (
      arith,
      times_walk n keep_tag (marked_shape c a t),
      times_walk n keep_tag t,
      mark_counts n (chosen_by c) a (walk keep_tag t),
      ap (count_by (λ (i : Item). n == i.number)) (walk-marked c a keep_tag t),
    )

-- no number remains twice after the action
pub once-marked : (c : Choice) (a : Tag) (t : Shape) → ((n : ℕ) → times n keep_tag t ≤ 1) → (n : ℕ) → times n keep_tag (marked_shape c a t) ≤ 1
once-marked c a t k n = omega (arith, times-marked n c a t, k n)

-- what holds where the choice enters the top of s, which is taken apart to f
pub record IsEntered (c : Choice) (a : Tag) (s : Shape) (f : Fork) : Type 0 where
  pub value : fork (head (marked_item (chosen_by c) a f.item) f.axis) (marked_shape c a f.left) (marked_shape c a f.right) ≡ marked_shape c a s
  pub sound : IsSoundFork (head (marked_item (chosen_by c) a f.item) f.axis) (marked_shape c a f.left) (marked_shape c a f.right)
  pub criteria : (large : ℕ) → RebuildsNoneEntered large c (marked_shape c a s)
      → IsNotDue large
      (fork (head (marked_item (chosen_by c) a f.item) f.axis) (marked_shape c a f.left) (marked_shape c a f.right)) ×
      RebuildsNoneEntered large c (marked_shape c a f.left) × RebuildsNoneEntered large c (marked_shape c a f.right)

enters : (c : Choice) (a : Tag) (h : Head) (l r : Shape) → meets c (reach_of h l r) ≡ true
    → covers c (reach_of h l r) ≡ false
    → fork (head (marked_item (chosen_by c) a h.item) h.axis) (marked_shape c a (tagged h.pending l))
    (marked_shape c a (tagged h.pending r)) ≡ marked_shape c a (fork h l r)
unfolding marked_under
enters c a h l r m k =
    tops_alike (marked_item (chosen_by c) a) h _ _ _ _ (child-marked c a h.pending l) (child-marked c a h.pending r)
    ∙ sym (cond-true (meets c (reach_of h l r)) _ _ m ∙ cond-false (covers c (reach_of h l r)) _ _ k)

entered_is : (c : Choice) (e : Reach) → meets c e ≡ true → covers c e ≡ false → is_entered c e ≡ true
entered_is c e m k = rw (m, k) refl

reach-entered : (c : Choice) (a : Tag) (h : Head) (l r : Shape)
    → reach_of (head (marked_item (chosen_by c) a h.item) h.axis) (marked_shape c a (tagged h.pending l))
    (marked_shape c a (tagged h.pending r)) ≡ reach_of h l r
reach-entered c a h l r =
    let child : (t : Shape)
    → AreAlike (marked_shape c a (tagged h.pending t)) t = λ t. let k =
    reach-marked c a keep_tag (tagged h.pending t) in let o = reach-tagged h.pending t in
    (k.0 ∙ o.0, k.1 ∙ o.1) in
    let all =
    reaches_alike (marked_item (chosen_by c) a h.item) h.item (marked_shape c a (tagged h.pending l))
    (marked_shape c a (tagged h.pending r)) l r (marked-point (chosen_by c) a h.item)
    (marked_number (chosen_by c) a h.item) (child l) (child r) in
    λ i. record { extent = all.0 i; numbers = all.1 i }

criteria_parts : (large : ℕ) (c : Choice) (h : Head) (l r : Shape) → is_entered c (reach_of h l r) ≡ true
    → RebuildsNoneEntered large c (fork h l r)
    → IsNotDue large (fork h l r) × RebuildsNoneEntered large c l × RebuildsNoneEntered large c r
unfolding RebuildsNoneEntered
criteria_parts large c h l r e k = k e

entered_fork : (c : Choice) (a : Tag) (h : Head) (l r : Shape) → meets c (reach_of h l r) ≡ true → covers c (reach_of h l r) ≡ false → IsSoundFork h l r → IsEntered c a (fork h l r) (forked h l r)
entered_fork c a h l r m k s =
    let value = enters c a h l r m k in
    let i = marked_item (chosen_by c) a h.item in
    let point = marked-point (chosen_by c) a h.item in
    let ml = marked_shape c a (tagged h.pending l) in
    let mr = marked_shape c a (tagged h.pending r) in
    let below : AllKept (λ p. on h.axis p ≤ℤ on h.axis h.item.point) keep_tag ml =
    rw (marked-tagged c a h.pending l)
    (AllKept-marked (λ p. on h.axis p ≤ℤ on h.axis h.item.point) c a h.pending l s.below) in
    let above : AllKept (λ p. on h.axis h.item.point ≤ℤ on h.axis p) keep_tag mr =
    rw (marked-tagged c a h.pending r)
    (AllKept-marked (λ p. on h.axis h.item.point ≤ℤ on h.axis p) c a h.pending r s.above) in
    record {
      value = value;
      sound = record {
        below = subst (λ (x : Place). AllKept (λ p. on h.axis p ≤ℤ on h.axis x) keep_tag ml) (sym point) below;
        above = subst (λ (x : Place). AllKept (λ p. on h.axis x ≤ℤ on h.axis p) keep_tag mr) (sym point) above;
        once = λ n. subst (λ z. times n keep_tag z ≤ 1) (sym value) (once-marked c a (fork h l r) s.once n);
        few = omega (arith, s.few, nodes-marked c a keep_tag (tagged h.pending l), nodes-marked c a keep_tag (tagged h.pending r), tagged_nodes h.pending l, tagged_nodes h.pending r);
        low = omega (arith, s.low, levels-marked c a keep_tag (tagged h.pending l), levels-marked c a keep_tag (tagged h.pending r), tagged_levels h.pending l, tagged_levels h.pending r);
      };
      criteria =
          λ large all. criteria_parts large c (head i h.axis) ml mr (entered_is c (reach_of (head i h.axis) ml mr)
          (subst (λ (e : Reach). meets c e ≡ true) (sym (reach-entered c a h l r)) m)
          (subst (λ (e : Reach). covers c e ≡ false) (sym (reach-entered c a h l r)) k))
          (subst (RebuildsNoneEntered large c) (sym value) all);
    }

pub entered_all : (c : Choice) (a : Tag) (s : Shape) (f : Fork) (e : Reach) → Some e ≡ reach s → meets c e ≡ true → covers c e ≡ false → IsSound s → Some f ≡ pushed s → IsEntered c a s f
entered_all c a leaf f e x m k s p = absurd (cc)
entered_all c a (fork h l r) f e x m k s p =
    let b = same_Some e (reach_of h l r) x in
    let g = same_Some f (forked h l r) p in
    subst (IsEntered c a (fork h l r)) (sym g) (entered_fork c a h l r (rw b at m) (rw b at k) s.0)

pub marked_none : (c : Choice) (a : Tag) (s : Shape) → ◌≡◌ {A = Option Reach} None (reach s) → s ≡ marked_shape c a s
unfolding marked_under
marked_none c a leaf x = refl
marked_none c a (fork h l r) x = absurd (cc)

pub marked_missed : (c : Choice) (a : Tag) (s : Shape) (e : Reach) → Some e ≡ reach s → meets c e ≡ false → s ≡ marked_shape c a s
unfolding marked_under
marked_missed c a leaf e x m = refl
marked_missed c a (fork h l r) e x m =
    let b = same_Some e (reach_of h l r) x in
    sym (cond-false (meets c (reach_of h l r)) _ _ (rw b at m) ∙ tagged-keep (fork h l r))

pub marked_covered : (c : Choice) (a : Tag) (s : Shape) (e : Reach) → Some e ≡ reach s → meets c e ≡ true → covers c e ≡ true → tagged a s ≡ marked_shape c a s
unfolding marked_under
marked_covered c a leaf e x m k = refl
marked_covered c a (fork h l r) e x m k =
    let b = same_Some e (reach_of h l r) x in
    sym (cond-true (meets c (reach_of h l r)) _ _ (rw b at m) ∙ cond-true (covers c (reach_of h l r)) _ _ (rw b at k) ∙ ap (tagged a) (tagged-keep (fork h l r)))

-- where some subtrees are rebuilt as well, the contents are those after the action
pub marked_contents : (c : Choice) (a : Tag) (s t : Shape) → IsSound s → IsRefresh (marked_shape c a s) t → contents t ≡ mark (contents s) (chosen_by c) a
marked_contents c a s t sound f = refresh_contents (marked_shape c a s) t (once-marked c a s (sound_once s sound)) f ∙ contents-marked c a s

pub marked_numbers : (c : Choice) (a : Tag) (s t : Shape) → IsRefresh (marked_shape c a s) t → AreAmong (numbers t) (numbers s)
marked_numbers c a s t f = subst (AreAmong (numbers t)) (numbers-marked c a keep_tag s) f.from
