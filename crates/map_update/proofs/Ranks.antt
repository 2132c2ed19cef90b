-- Entrants in order, of which each voxel keeps the first.
use Rattle.std.proofs.Common.{◌≡◌, ◌+◌, ℕ, inl, inr, Bool, true, false, cond, List, [], ◌∷◌, map, length, refl, sym, ap, ◌∙◌, subst, arith, zero, suc, get_or}
use Rattle.std.specs.Prelude.{All, ◌≤◌, ◌<◌}
use Rattle.std.specs.Cmp.{IsTotalOrder, IsStrictWeakOrder}
use Rattle.std.specs.FinMap.{int_cmp-IsAntisymmetric}
use Rattle.std.specs.List.{dedup_from, dedup}
use Rattle.std.specs.List.Sorted.{IsPermutation, IsSortedBy}
use Rattle.std.specs.Ordering.{is_lt, int_cmp, nat_cmp, ordering_then}
use Rattle.std.specs.declared.cmp.Ordering.{Ordering}
use Rattle.std.specs.declared.cmp.Ordering.TheVariants.{Less, Equal, Greater}
use Rattle.std.proofs.lemmas.Bool.{cases_Bool}
use Rattle.std.proofs.lemmas.Cmp.{then_total, on_total, nat_cmp_total, int_cmp_total, tied_itself}
use Rattle.std.proofs.lemmas.List.Elements.{All-cons, All-head, All-map, All-nil, All-tail}
use Rattle.std.proofs.lemmas.List.Filters.{All-dedup}
use Rattle.std.proofs.lemmas.List.MinMax.{ranks_by}
use Rattle.std.proofs.lemmas.List.Sorted.{All-permutation, IsPermutation-sym, sorted_far}
use Rattle.point_geom.specs.Place.{Place, Bounds}
use Rattle.point_geom.specs.Axes.{place_cmp}
use Rattle.point_geom.specs.Boxes.{cube, holds, voxel}
use Rattle.point_geom.specs.Distances.{centre_dist2}
use Rattle.point_geom.specs.contracts.cuboid.CuboidPartialEq.TheImpl as cuboid
use Rattle.point_geom.proofs.Laws.{voxel_held}
use Rattle.point_geom.proofs.Same.{bounds_Decides}
use Rattle.point_geom.specs.declared.cuboid.Corner.{Corner}
use Rattle.map_items.specs.declared.item.Item.{Item}
use Rattle.map_items.specs.Contents.{centre_cmp, comes_before, Member}
use Rattle.map_fold.proofs.Centre.{neither, not_itself, order}
use Rattle.map_fold.proofs.Found.{member-map, member-map_of}
use Rattle.map_fold.proofs.Order.{place_cmp_total, then_equal}
use Rattle.kd_tree.proofs.Medians.{then_first}
use Rattle.kd_update.specs.Scan.{live_from}
use Rattle.map_update.specs.declared.entrants.Entrant.{Entrant}
use Rattle.map_update.specs.Entrants.{HaveOwnVoxels, AreFirsts}
use Rattle.map_update.specs.Ranks.{HaveVoxels, corner_cmp, entrant_cmp, entrant_of, inside_cmp, items_in}
use Rattle.map_update.proofs.Voxels.{corners_alike, voxel_of}

-- the first comes before the second
abbrev pub is_ahead : Entrant → Entrant → Bool
is_ahead e f = is_lt (entrant_cmp e f)

abbrev pub is_same_voxel : Entrant → Entrant → Bool
is_same_voxel e f = cuboid.eq-value.it e.cube f.cube

corner_cmp_total : IsTotalOrder corner_cmp
corner_cmp_total = then_total (on_total (λ (c : Corner). c.x) int_cmp_total) (then_total (on_total (λ (c : Corner). c.y) int_cmp_total) (on_total (λ (c : Corner). c.z) int_cmp_total))

corner_cmp-Equal : (c d : Corner) → corner_cmp c d ≡ Equal → c ≡ d
corner_cmp-Equal c d e =
    let s = then_equal (int_cmp c.x d.x) _ e in
    let t = then_equal (int_cmp c.y d.y) _ s.1 in
    corners_alike c d (int_cmp-IsAntisymmetric c.x d.x s.0) (int_cmp-IsAntisymmetric c.y d.y t.0) (int_cmp-IsAntisymmetric c.z d.z t.1)

entrant_cmp_total : IsTotalOrder entrant_cmp
entrant_cmp_total =
    then_total
    (on_total (λ (e : Entrant). e.cube.lo) corner_cmp_total)
    (then_total (on_total (λ (e : Entrant). centre_dist2 e.cube e.item.point) nat_cmp_total)
    (then_total (on_total (λ (e : Entrant). e.item.point) place_cmp_total) (on_total (λ (e : Entrant). e.item.number) nat_cmp_total)))

pub ahead_order : IsStrictWeakOrder is_ahead
ahead_order = ranks_by entrant_cmp_total (λ (e : Entrant). e)

-- of corners that agree on x and y the z decides
pub z_decides : (c d : Corner) (o : Ordering) → c.x ≡ d.x → c.y ≡ d.y → (c.z ≡ d.z → ⊥) → ordering_then (corner_cmp c d) o ≡ int_cmp c.z d.z
z_decides c d o e f apart = rw e (rw f (rw (tied_itself int_cmp_total d.x) (rw (tied_itself int_cmp_total d.y) (decided (int_cmp c.z d.z) (λ g. apart (int_cmp-IsAntisymmetric c.z d.z g))))))
  where
    decided : (p : Ordering) → (p ≡ Equal → ⊥) → ordering_then p o ≡ p
    decided Less h = refl
    decided Equal h = absurd (h refl)
    decided Greater h = refl

-- none of the list is ahead of one that comes before it
abbrev Ascend : List Entrant → Type 0
Ascend [] = Unit {0}
Ascend (e ∷ es) = All (λ f. is_ahead f e ≡ false) es × Ascend es

ascend_far : (es : List Entrant) → ((i j : ℕ) (d : Entrant) → i ≤ j → j < length es → is_ahead (get_or es j d) (get_or es i d) ≡ false) → Ascend es
ascend_far [] far = tt
ascend_far (e ∷ es) far =
    (λ j d inside. far zero (suc j) d (omega arith) (omega arith), ascend_far es (λ i j d below inside. far (suc i) (suc j) d (omega arith) (omega arith)))

ascend : (es : List Entrant) → IsSortedBy is_ahead es → Ascend es
ascend es up = ascend_far es (sorted_far is_ahead ahead_order es up)

-- in one voxel the first to win is ahead
ahead_inside : (e f : Entrant) → e.cube ≡ f.cube → is_ahead e f ≡ comes_before f.cube e.item f.item
ahead_inside e f same =
    ap (λ (c : Bounds). is_lt (ordering_then (corner_cmp c.lo f.cube.lo) (ordering_then
    (nat_cmp (centre_dist2 c e.item.point) (centre_dist2 f.cube f.item.point))
    (ordering_then (place_cmp e.item.point f.item.point) (nat_cmp e.item.number f.item.number))))) same
    ∙ ap (λ (o : Ordering). is_lt (ordering_then o (centre_cmp f.cube e.item f.item))) (tied_itself corner_cmp_total f.cube.lo)

-- what isn't ahead isn't in a voxel that is
voxel_behind : (e f : Entrant) → is_ahead e f ≡ false → is_lt (corner_cmp e.cube.lo f.cube.lo) ≡ false
voxel_behind e f h = then_first (corner_cmp e.cube.lo f.cube.lo) (inside_cmp e f) h

-- voxels with the same lower corner are the same
same_corner : (edge : ℕ) (e f : Entrant) → e.cube ≡ voxel edge e.item.point → f.cube ≡ voxel edge f.item.point → e.cube.lo ≡ f.cube.lo → e.cube ≡ f.cube
same_corner edge e f own other same =
    own ∙ ap (cube edge) (sym (ap (λ (c : Bounds). c.lo) own) ∙ same ∙ ap (λ (c : Bounds). c.lo) other) ∙ sym other

-- what comes behind an entrant of another voxel lies in none that was before
later_voxel : (edge : ℕ) (k x y : Entrant) → k.cube ≡ voxel edge k.item.point → x.cube ≡ voxel edge x.item.point
    → is_ahead x k ≡ false → is_ahead y x ≡ false → (x.cube ≡ k.cube → ⊥) → y.cube ≡ k.cube → ⊥
later_voxel edge k x y own next behind after other same =
    let first = voxel_behind x k behind in
    let second : is_lt (corner_cmp k.cube.lo x.cube.lo) ≡ false = subst (λ (c : Bounds). is_lt (corner_cmp c.lo x.cube.lo) ≡ false) same (voxel_behind y x after) in
    let tied = neither (corner_cmp x.cube.lo k.cube.lo) (corner_cmp k.cube.lo x.cube.lo) (corner_cmp_total.antisymm x.cube.lo k.cube.lo) first second in
    other (same_corner edge x k next own (corner_cmp-Equal x.cube.lo k.cube.lo tied))

-- an entrant of another voxel isn't in this one
not_held : (edge : ℕ) (k y : Entrant) → 1 ≤ edge → k.cube ≡ voxel edge k.item.point → y.cube ≡ voxel edge y.item.point → (y.cube ≡ k.cube → ⊥) → holds (voxel edge k.item.point) y.item.point ≡ false
not_held edge k y from own other apart =
    elim (cases_Bool (holds (voxel edge k.item.point) y.item.point)) [
      | inl e ↦ absurd (apart (other ∙ voxel_of edge k.item.point y.item.point from e ∙ sym own))
      | inr e ↦ e
    ]

different : (x k : Entrant) → is_same_voxel x k ≡ false → x.cube ≡ k.cube → ⊥
different x k e same = let f = (bounds_Decides x.cube k.cube).1 same in absurd (cc)

-- what remains has one entrant of a voxel
pub left_apart : (edge : ℕ) (k : Entrant) (es : List Entrant) → 1 ≤ edge → HaveVoxels edge (k ∷ es) → Ascend (k ∷ es) → HaveOwnVoxels edge (items_in (dedup_from is_same_voxel k es))
left_apart edge k [] from own up = (All-nil (λ (j : Item). holds (voxel edge k.item.point) j.point ≡ false), tt)
left_apart edge k (x ∷ xs) from own up =
    let P : Entrant → Type 0 = λ e. e.cube ≡ voxel edge e.item.point in
    let A : Entrant → Type 0 = λ f. is_ahead f k ≡ false in
    let here = All-head P k (x ∷ xs) own in
    let rest = All-tail P k (x ∷ xs) own in
    elim (cases_Bool (is_same_voxel x k)) [
      | inl e ↦ rw e (left_apart edge k xs from (All-cons P k xs here (All-tail P x xs rest)) (All-tail A x xs up.0, up.1.1))
      | inr e ↦
          let Q : Entrant → Type 0 = λ y. holds (voxel edge k.item.point) y.item.point ≡ false in
          let next = All-head P x xs rest in
          let other = different x k e in
          let first : Q x = not_held edge k x from here next other in
          let all : All Q (x ∷ xs) =
          All-cons Q x xs first (λ j d inside. not_held edge k (get_or xs j d) from here
          (All-tail P x xs rest j d inside)
          (later_voxel edge k x (get_or xs j d) here next (All-head A x xs up.0) (up.1.0 j d inside) other)) in
          let kept : All Q (dedup_from is_same_voxel x xs) = All-dedup is_same_voxel Q (x ∷ xs) all in
          rw e (All-map (λ (j : Item). holds (voxel edge k.item.point) j.point ≡ false) (λ (y : Entrant). y.item) (dedup_from is_same_voxel x xs) kept, left_apart edge x xs from rest up.1)
    ]

-- of what remains one lies in the voxel of e, and e doesn't come before it
record Keeps (fs : List Entrant) (e : Entrant) : Type 0 where
  by : Entrant
  there : Member by fs
  same : by.cube ≡ e.cube
  behind : comes_before e.cube e.item by.item ≡ false

keeps_more : (k e : Entrant) (fs : List Entrant) → Keeps fs e → Keeps (k ∷ fs) e
keeps_more k e fs h = record { by = h.by; there = inr h.there; same = h.same; behind = h.behind }

keeps_itself : (e : Entrant) (fs : List Entrant) → Keeps (e ∷ fs) e
keeps_itself e fs = record { by = e; there = inl refl; same = refl; behind = not_itself e.cube e.item }

-- each entrant was beaten by one that remains
left_keeps : (k : Entrant) (es : List Entrant) → Ascend (k ∷ es) → (e : Entrant) → Member e (k ∷ es) → Keeps (dedup_from is_same_voxel k es) e
left_keeps k [] up e (inl same) = subst (Keeps (k ∷ [])) (sym same) (keeps_itself k [])
left_keeps k [] up e (inr none) = absurd none
left_keeps k (x ∷ xs) up e m =
    let A : Entrant → Type 0 = λ f. is_ahead f k ≡ false in
    elim (cases_Bool (is_same_voxel x k)) [
      | inl f ↦ rw f (let same = (bounds_Decides x.cube k.cube).0 f in over same (left_keeps k xs (All-tail A x xs up.0, up.1.1)) m)
      | inr f ↦ rw f (apart (left_keeps x xs up.1) m)
    ]
  where
    over : x.cube ≡ k.cube → ((f : Entrant) → Member f (k ∷ xs) → Keeps (dedup_from is_same_voxel k xs) f) → Member e (k ∷ x ∷ xs) → Keeps (dedup_from is_same_voxel k xs) e
    over same rest (inl own) = rest e (inl own)
    over same rest (inr (inl own)) =
        let h = rest k (inl refl) in
        let ahead : is_ahead x k ≡ false = All-head (λ (f : Entrant). is_ahead f k ≡ false) x xs up.0 in
        let first : comes_before k.cube x.item k.item ≡ false = sym (ahead_inside x k same) ∙ ahead in
        let last : comes_before k.cube x.item h.by.item ≡ false = (order k.cube).chain x.item k.item h.by.item first h.behind in
        let x_keeps : Keeps (dedup_from is_same_voxel k xs) x =
        record {
          by = h.by;
          there = h.there;
          same = h.same ∙ sym same;
          behind =
              subst (λ (c : Bounds). comes_before c x.item h.by.item ≡ false) (sym same) last;
        } in
        subst (Keeps (dedup_from is_same_voxel k xs)) (sym own) x_keeps
    over same rest (inr (inr later)) = rest e (inr later)

    apart : ((f : Entrant) → Member f (x ∷ xs) → Keeps (dedup_from is_same_voxel x xs) f) → Member e (k ∷ x ∷ xs) → Keeps (k ∷ dedup_from is_same_voxel x xs) e
    apart rest (inl own) = subst (Keeps (k ∷ dedup_from is_same_voxel x xs)) (sym own) (keeps_itself k (dedup_from is_same_voxel x xs))
    apart rest (inr later) = keeps_more k e (dedup_from is_same_voxel x xs) (rest e later)

-- what remains was there
left_within : (k : Entrant) (es : List Entrant) (f : Entrant) → Member f (dedup_from is_same_voxel k es) → Member f (k ∷ es)
left_within k [] f m = m
left_within k (x ∷ xs) f m =
    elim (is_same_voxel x k) as (λ b. Member f (cond b (dedup_from is_same_voxel k xs) (k ∷ dedup_from is_same_voxel x xs)) → Member f (k ∷ x ∷ xs)) [
      | true ↦ λ n. elim (left_within k xs f n) [ inl own ↦ inl own | inr later ↦ inr (inr later) ]
      | false ↦ λ n. elim n [ inl own ↦ inl own | inr later ↦ inr (left_within x xs f later) ]
    ] m

-- each of the one list is in the other
itself : (xs zs : List Entrant) → ((z : Entrant) → Member z xs → Member z zs) → All (λ i. Member i zs) xs
itself [] zs f = All-nil (λ (i : Entrant). Member i zs)
itself (x ∷ xs) zs f = All-cons (λ (i : Entrant). Member i zs) x xs (f x (inl refl)) (itself xs zs (λ z m. f z (inr m)))

of_all : (P : Entrant → Type 0) (z : Entrant) (xs : List Entrant) → All P xs → Member z xs → P z
of_all P z [] a m = absurd m
of_all P z (x ∷ xs) a (inl e) = subst P (sym e) (All-head P x xs a)
of_all P z (x ∷ xs) a (inr m) = of_all P z xs (All-tail P x xs a) m

moved : (xs ys : List Entrant) → IsPermutation xs ys → (z : Entrant) → Member z ys → Member z xs
moved xs ys p z m = of_all (λ i. Member i xs) z ys (All-permutation (λ i. Member i xs) xs ys p (itself xs xs (λ w n. n))) m

pub own_voxels : (edge : ℕ) (is : List Item) → HaveVoxels edge (map (entrant_of edge) is)
own_voxels edge [] = All-nil (λ (e : Entrant). e.cube ≡ voxel edge e.item.point)
own_voxels edge (i ∷ is) = All-cons (λ (e : Entrant). e.cube ≡ voxel edge e.item.point) (entrant_of edge i) (map (entrant_of edge) is) refl (own_voxels edge is)

-- sorted, and then one kept of each voxel: these are the first ones
pub sorted_firsts : (edge next : ℕ) (ps : List Place) (es : List Entrant) → 1 ≤ edge → IsPermutation (map (entrant_of edge) (live_from next ps)) es → IsSortedBy is_ahead es
    → AreFirsts edge next ps (items_in (dedup is_same_voxel es)) × HaveVoxels edge (dedup is_same_voxel es)
sorted_firsts edge next ps es from same up = by_list es refl
  where
    all : List Entrant
    all = map (entrant_of edge) (live_from next ps)

    P : Entrant → Type 0
    P e = e.cube ≡ voxel edge e.item.point

    own : HaveVoxels edge es
    own = All-permutation P all es same (own_voxels edge (live_from next ps))

    by_list : (xs : List Entrant) → xs ≡ es → AreFirsts edge next ps (items_in (dedup is_same_voxel xs)) × HaveVoxels edge (dedup is_same_voxel xs)
    by_list [] e = (
      record {
        apart = tt;
        within = λ i m. absurd m;
        beaten =
            λ i m. absurd (subst (Member (entrant_of edge i)) (sym e) (moved es all (IsPermutation-sym all es same)
            (entrant_of edge i) (member-map_of (entrant_of edge) i (live_from next ps) m)));
      },
      All-nil P,
    )
    by_list (k ∷ xs) e =
        let voxels : HaveVoxels edge (k ∷ xs) = subst (All P) (sym e) own in
        let rising : Ascend (k ∷ xs) = subst Ascend (sym e) (ascend es up) in
        let left = dedup_from is_same_voxel k xs in (
          record {
            apart = left_apart edge k xs from voxels rising;
            within = λ i m.
                let f = member-map (λ (y : Entrant). y.item) i left m in
                let was = moved all es same f.origin (subst (Member f.origin) e (left_within k xs f.origin f.member)) in
                let g = member-map (entrant_of edge) f.origin (live_from next ps) was in
                subst (λ (j : Item). Member j (live_from next ps)) (sym (f.is ∙ ap (λ (y : Entrant). y.item) g.is)) g.member;
            beaten = λ i m.
                let there = subst (Member (entrant_of edge i)) (sym e) (moved es all (IsPermutation-sym all es same) (entrant_of edge i) (member-map_of (entrant_of edge) i (live_from next ps) m)) in
                let h = left_keeps k xs rising (entrant_of edge i) there in
                record {
                  by = h.by.item;
                  there = member-map_of (λ (y : Entrant). y.item) h.by left h.there;
                  inside =
                      let own_cube = of_all P h.by left (All-dedup is_same_voxel P (k ∷ xs) voxels) h.there in
                      ap (λ (c : Bounds). holds c h.by.item.point) (sym h.same ∙ own_cube) ∙ voxel_held edge h.by.item.point from;
                  behind = h.behind;
                };
          },
          All-dedup is_same_voxel P (k ∷ xs) voxels,
        )

-- no more remain than there were

kept_few : (k : Entrant) (es : List Entrant) → length (dedup_from is_same_voxel k es) ≤ length es + 1
kept_few k [] = omega arith
kept_few k (x ∷ xs) =
    elim (cases_Bool (is_same_voxel x k)) [
      | inl e ↦ rw e (omega (arith, kept_few k xs))
      | inr e ↦ rw e (omega (arith, kept_few x xs))
    ]

pub dedup_few : (es : List Entrant) → length (dedup is_same_voxel es) ≤ length es
dedup_few [] = omega arith
dedup_few (x ∷ xs) = omega (arith, kept_few x xs)
