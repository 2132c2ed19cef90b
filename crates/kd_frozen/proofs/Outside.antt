-- A search of what is in a box, and what is outside.
use Rattle.std.proofs.Common.{◌≡◌, ℕ, ◌+◌, ◌*◌, ◌^◌, ◌<◌, ◌≤◌, ℤ, ◌-ℤ◌, ◌⊎◌, inl, inr, Bool, true, false, ◌&&◌, List, [], ◌++◌, take, refl, sym, ap, ◌∙◌, arith, Option}
use Rattle.std.specs.Prelude.{not, filter, unsigned_abs, IsPermutation}
use Rattle.std.proofs.Math.Nat.{mul-le-mul}
use Rattle.std.proofs.lemmas.Int.{ints}
use Rattle.std.proofs.lemmas.List.Elements.{All-weaker, filter_passes}
use Rattle.std.proofs.lemmas.List.Sorted.{IsPermutation-filter_both}
use Rattle.point_geom.specs.Place.{Place, Bounds}
use Rattle.point_geom.specs.Boxes.{holds, is_between}
use Rattle.point_geom.specs.Distances.{dist2, gap2}
use Rattle.point_geom.specs.declared.axis.Axis.TheVariants.{X, Y, Z}
use Rattle.point_geom.proofs.Laws.{between_parts}
use Rattle.map_items.specs.declared.item.Item.{Item}
use Rattle.map_items.specs.Contents.{in_box, live_items}
use Rattle.map_fold.specs.declared.hits.Hit.{Hit}
use Rattle.map_fold.specs.Answers.{candidates, in_order, inside_all, nearest}
use Rattle.kd_tree.specs.Contents.{AreDistinct}
use Rattle.kd_tree.proofs.Numbered.{by_number-moved, once_moved}
use Rattle.kd_search.specs.Nearest.{IsBound, put_all}
use Rattle.kd_search.specs.Points.{AreAway}
use Rattle.kd_search.proofs.Bounds.{left_out}
use Rattle.kd_search.proofs.Offered.{candidates-append, in_order-by_number, put_all-append, put_all-nil, put_all-take}
use Rattle.kd_search.proofs.Planes.{axis_gap}
use Rattle.kd_frozen.proofs.Live.{distinct_filter, nearest-live}

-- the live items that aren't in the box
abbrev outside_all : List Item → Bounds → List Item
outside_all m c = filter (λ i. not (in_box c i)) (live_items m)

passed : (b : Bool) → not b ≡ true → b ≡ false
passed true e = absurd (cc e)
passed false e = refl

not_not : (b : Bool) → not (not b) ≡ b
not_not true = refl
not_not false = refl

outside_away : (m : List Item) (c : Bounds) (q : Place) (gap : ℕ) → ((p : Place) → holds c p ≡ false → gap ≤ dist2 q p) → AreAway gap q (outside_all m c)
outside_away m c q gap far =
    All-weaker (λ (i : Item). not (in_box c i) ≡ true) (λ (i : Item). gap ≤ dist2 q i.point) (λ i out. far i.point (passed (in_box c i) out)) (outside_all m c)
    (filter_passes (λ i. not (in_box c i)) (live_items m))

-- hits of what is outside and of what is inside are hits of all
both_sides : (m : List Item) (c : Bounds) (q : Place) (r : Option ℕ) → AreDistinct m
    → put_all (candidates (outside_all m c) q r) (in_order (candidates (inside_all m c) q r))
    ≡ in_order (candidates (live_items m) q r)
both_sides m c q r d =
    let live = live_items m in
    let one = outside_all m c in
    let other = inside_all m c in
    let moved : IsPermutation live (one ++ other) = IsPermutation-filter_both (λ i. not (in_box c i)) (in_box c) (λ i. sym (not_not (in_box c i))) live in
    let once : AreDistinct live = distinct_filter _ m d in
    ap (put_all (candidates one q r)) (sym (put_all-nil (candidates other q r)))
    ∙ sym (put_all-append (candidates one q r) (candidates other q r) [])
    ∙ put_all-nil (candidates one q r ++ candidates other q r)
    ∙ ap in_order (sym (candidates-append q r one other))
    ∙ sym (in_order-by_number q r (one ++ other) (once_moved live (one ++ other) moved once))
    ∙ ap (λ z. in_order (candidates z q r)) (sym (by_number-moved live (one ++ other) moved once))
    ∙ in_order-by_number q r live once

-- where what is outside is beyond the bound, the hits of what is inside are those of all
pub inside_alone : (m : List Item) (c : Bounds) (k : ℕ) (q : Place) (r : Option ℕ) (hits : List Hit) (bound gap : ℕ) → AreDistinct m → IsBound k r hits bound → bound < gap → gap < 2 ^ 128
    → ((p : Place) → holds c p ≡ false → gap ≤ dist2 q p) → hits ≡ nearest (inside_all m c) k q r → hits ≡ nearest m k q r
inside_alone m c k q r hits bound gap d b beyond fits far e =
    let one = candidates (outside_all m c) q r in
    left_out k q r hits bound gap (outside_all m c) b beyond fits (outside_away m c q gap far)
    ∙ ap (λ z. take k (put_all one z)) e
    ∙ put_all-take k one (in_order (candidates (inside_all m c) q r))
    ∙ ap (take k) (both_sides m c q r d)
    ∙ nearest-live m k q r

some_out : (x y z : Bool) → (x && y && z) ≡ false → (x ≡ false) ⊎ ((y ≡ false) ⊎ (z ≡ false))
some_out false y z e = inl refl
some_out true false z e = inr (inl refl)
some_out true true false e = inr (inr refl)
some_out true true true e = absurd (cc e)

≤-trans : (a b c : ℕ) → a ≤ b → b ≤ c → a ≤ c
≤-trans a b c h k = omega arith

-- what is outside on one axis is as far as on that axis
pub outside_far : (c : Bounds) (q p : Place) (gap : ℕ) → ((n : ℤ) → is_between c.lo.x n c.hi.x ≡ false → gap ≤ unsigned_abs (q.x -ℤ n))
    → ((n : ℤ) → is_between c.lo.y n c.hi.y ≡ false → gap ≤ unsigned_abs (q.y -ℤ n))
    → ((n : ℤ) → is_between c.lo.z n c.hi.z ≡ false → gap ≤ unsigned_abs (q.z -ℤ n))
    → holds c p ≡ false → gap * gap ≤ dist2 q p
outside_far c q p gap x y z out = elim (some_out (is_between c.lo.x p.x c.hi.x) (is_between c.lo.y p.y c.hi.y) (is_between c.lo.z p.z c.hi.z) out) [
  | inl e ↦ let far = x p.x e in ≤-trans (gap * gap) (gap2 q.x p.x) (dist2 q p) (mul-le-mul far far) (axis_gap X q p)
  | inr others ↦ elim others [
    | inl e ↦ let far = y p.y e in ≤-trans (gap * gap) (gap2 q.y p.y) (dist2 q p) (mul-le-mul far far) (axis_gap Y q p)
    | inr e ↦ let far = z p.z e in ≤-trans (gap * gap) (gap2 q.z p.z) (dist2 q p) (mul-le-mul far far) (axis_gap Z q p)
  ]
]

-- how far what is outside on one axis is at least
pub out_on : (lo hi c : ℤ) (gap : ℕ) → is_between lo c hi ≡ true → gap ≤ unsigned_abs (c -ℤ lo) + 1 → gap ≤ unsigned_abs (hi -ℤ c) → (n : ℤ) → is_between lo n hi ≡ false → gap ≤ unsigned_abs (c -ℤ n)
out_on lo hi c gap inside lower upper n out =
    let held = between_parts lo c hi inside in grind (arith, ints, held.0, held.1, lower, upper, out)
