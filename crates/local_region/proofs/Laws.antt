-- Laws of regions, and of what they leave.
use Rattle.std.proofs.Common.{◌≡◌, ℕ, w64, to_z, of_z, ◌+◌, ◌≤◌, ℤ, pos, ◌≤ℤ◌, ◌+ℤ◌, ◌-ℤ◌, Bool, true, false, ◌&&◌, ◌||◌, not, cond, List, [], ◌∷◌, ◌++◌, length, refl, sym, ap, ◌∙◌, arith, length-append}
use Rattle.std.specs.Prelude.{◌<ℤ◌, ◌↔◌, Ok, int_le, sum_by, if◌then◌else◌}
use Rattle.std.specs.List.{list_any, AllByRecursion}
use Rattle.std.proofs.lemmas.Bool.{and_parts, not-true, false_from_ne_true}
use Rattle.std.proofs.lemmas.Int.{ints, clamps}
use Rattle.std.proofs.lemmas.List.Folds.{list_any-append}
use Rattle.std.proofs.lemmas.List.Sums.{sum_by-append}
use Rattle.point_geom.specs.Place.{Place, Bounds, IsCoordinate, IsPlace}
use Rattle.point_geom.specs.Boxes.{is_between, holds, cube}
use Rattle.point_geom.specs.declared.cuboid.Corner.{Corner}
use Rattle.point_geom.specs.Refusals.{cuboid_of, corner_within, upright}
use Rattle.point_geom.specs.declared.axis.Axis.{Axis}
use Rattle.point_geom.specs.declared.axis.Axis.TheVariants.{X, Y, Z}
use Rattle.point_geom.proofs.Laws.{all_parts, between_parts, is_between_by}
use Rattle.local_region.specs.declared.range.Range.{Range}
use Rattle.local_region.specs.declared.limits.TheConstants.{LEAST, GREATEST, LONGEST}
use Rattle.local_region.specs.Regions.{RegionAt, IsStart, IsRegion, is_in, begun, first_start}
use Rattle.local_region.specs.Rules.{Rules, AreRules}
use Rattle.local_region.specs.Moves.{MovesOn, Moves, next_start, after}
use Rattle.local_region.specs.Ranges.{whole_range, kept_range, left_range, shift, cut, is_filled, IsCut}
use Rattle.local_region.specs.Removed.{is_in_some, times_in, box_of, IsFilledBox, AreLeftBehind, box_if_any, slabs, removed}

-- numbers in ranges

-- a region begins with its point in it
pub first_between : (side : ℕ) (c : ℤ) → 2 ≤ side → is_between (first_start side c) c (first_start side c +ℤ pos side) ≡ true
first_between side c h =
    is_between_by (first_start side c) c (first_start side c +ℤ pos side) (omega (arith, ints)) (omega (arith, ints))

-- so it begins with the point inside
pub begun_held : (r : Rules) (p : Place) → 2 ≤ r.side → is_in (begun r p) p ≡ true
begun_held r p h =
    rw (first_between r.side p.x h, first_between r.side p.y h, first_between r.side p.z h) refl

-- two starts that are no farther apart than the side
pub record IsNear (side : ℕ) (from to : ℤ) : Type 0 where
  pub above : to ≤ℤ (from +ℤ pos side)
  pub below : from ≤ℤ (to +ℤ pos side)

pub record AreNear (side : ℕ) (from to : Corner) : Type 0 where
  pub x : IsNear side from.x to.x
  pub y : IsNear side from.y to.y
  pub z : IsNear side from.z to.z

abbrev in_range : Range → ℤ → Bool
in_range r c = is_between r.lo c r.hi

-- a coordinate is in a range that is cut exactly where it is in the range
cut_between : (r : Range) (c : ℤ) → IsCoordinate c → in_range (cut r) c ≡ in_range r c
cut_between r c h = grind (arith, ints, clamps)

kept_between : (side : ℕ) (a b c : ℤ) → in_range (kept_range side a b) c ≡ (in_range (whole_range side a) c && in_range (whole_range side b) c)
kept_between side a b c = grind (arith, ints, clamps)

left_between : (side : ℕ) (a b c : ℤ) → IsNear side a b → in_range (left_range side a b) c ≡ (in_range (whole_range side a) c && not (in_range (whole_range side b) c))
left_between side a b c h = grind (arith, ints)

-- starts

-- a start and a length of the limits are added without loss
pub sum_carried : (from : ℤ) (n : ℕ) → IsStart from → n ≤ LONGEST → to_z w64 (of_z w64 (to_z w64 (of_z w64 from) +ℤ to_z w64 n)) ≡ from +ℤ pos n
sum_carried from n h k =
    let low = h.0 in
    let high = h.1 in omega (arith, ints)

le_test : (a b : ℤ) → a ≤ℤ b → int_le a b ≡ true
le_test a b h = grind (arith, ints)

lt_test : (a b : ℤ) → b <ℤ a → int_le a b ≡ false
lt_test a b h = grind (arith, ints)

pub next_falls : (r : Rules) (c from : ℤ) → (c -ℤ from) ≤ℤ pos r.ball → next_start r c from ≡ from -ℤ pos r.step
next_falls r c from h = rw (le_test (c -ℤ from) (pos r.ball) h) refl

pub next_rises : (r : Rules) (c from : ℤ) → pos r.ball <ℤ (c -ℤ from) → ((from +ℤ pos r.side) -ℤ c) ≤ℤ pos r.ball → next_start r c from ≡ from +ℤ pos r.step
next_rises r c from h k =
    rw (lt_test (c -ℤ from) (pos r.ball) h, le_test ((from +ℤ pos r.side) -ℤ c) (pos r.ball) k) refl

pub next_stays : (r : Rules) (c from : ℤ) → pos r.ball <ℤ (c -ℤ from) → pos r.ball <ℤ ((from +ℤ pos r.side) -ℤ c) → next_start r c from ≡ from
next_stays r c from h k =
    rw (lt_test (c -ℤ from) (pos r.ball) h, lt_test ((from +ℤ pos r.side) -ℤ c) (pos r.ball) k) refl

-- what the definition does is what a move is to do
next_moves : (r : Rules) (c from : ℤ) → AreRules r → MovesOn r c from (next_start r c from)
next_moves r c from h =
    let narrow = h.ball in record {
      falls = next_falls r c from;
      rises = λ k. next_rises r c from (omega (arith, ints)) k;
      stays = next_stays r c from;
    }

next_near : (r : Rules) (c from : ℤ) → AreRules r → IsNear r.side from (next_start r c from)
next_near r c from h =
    let short = h.step_to in
    by_choice short (int_le (c -ℤ from) (pos r.ball)) (int_le ((from +ℤ pos r.side) -ℤ c) (pos r.ball))
  where
    by_choice : r.step ≤ r.side → (t u : Bool) → IsNear r.side from (if t then from -ℤ pos r.step else (if u then from +ℤ pos r.step else from))
    by_choice k true u = record { above = omega (arith, ints); below = omega (arith, ints) }
    by_choice k false true = record { above = omega (arith, ints); below = omega (arith, ints) }
    by_choice k false false = record { above = omega (arith, ints); below = omega (arith, ints) }

pub after_moves : (p : Place) (r : RegionAt) → IsRegion r → Moves p r (after p r)
after_moves p r h = record {
  rules = refl;
  x = next_moves r.rules p.x r.lo.x h.rules;
  y = next_moves r.rules p.y r.lo.y h.rules;
  z = next_moves r.rules p.z r.lo.z h.rules;
}

after_near : (p : Place) (r : RegionAt) → IsRegion r → AreNear r.rules.side r.lo (after p r).lo
after_near p r h = record {
  x = next_near r.rules p.x r.lo.x h.rules;
  y = next_near r.rules p.y r.lo.y h.rules;
  z = next_near r.rules p.z r.lo.z h.rules;
}

-- boxes within the limits

number_taken : (a : Axis) (c : ℤ) → LEAST ≤ℤ c → c ≤ℤ GREATEST → corner_within a c ≡ Ok tt
number_taken a c h k = grind (arith, ints)

upright_taken : (a : Axis) (lo hi : ℤ) → lo <ℤ hi → upright a lo hi ≡ Ok tt
upright_taken a lo hi h = grind (arith, ints)

low_taken : (r : Range) (a : Axis) → IsCut r → corner_within a r.lo ≡ Ok tt
low_taken r a h =
    let filled = h.filled in
    let to = h.hi in number_taken a r.lo h.lo (omega (arith, ints))

high_taken : (r : Range) (a : Axis) → IsCut r → corner_within a r.hi ≡ Ok tt
high_taken r a h =
    let filled = h.filled in
    let from = h.lo in number_taken a r.hi (omega (arith, ints)) h.hi

-- a box of ranges that are cut is taken as a caller's
pub cut_taken : (x y z : Range) → IsCut x → IsCut y → IsCut z → cuboid_of (box_of x y z).lo (box_of x y z).hi ≡ Ok (box_of x y z)
cut_taken x y z h k l =
    rw (
      low_taken x X h,
      low_taken y Y k,
      low_taken z Z l,
      high_taken x X h,
      high_taken y Y k,
      high_taken z Z l,
      upright_taken X x.lo x.hi h.filled,
      upright_taken Y y.lo y.hi k.filled,
      upright_taken Z z.lo z.hi l.filled,
    )
    refl

-- lists of one box at most

or-false : (t : Bool) → (t || false) ≡ t
or-false true = refl
or-false false = refl

some_if : (t : Bool) (b : Bounds) (p : Place) → (holds b p ≡ true → t ≡ true) → is_in_some (if t then b ∷ [] else []) p ≡ holds b p
some_if true b p h = or-false (holds b p)
some_if false b p h = sym (false_from_ne_true (holds b p) (λ k. cc (h k)))

times_if : (t : Bool) (b : Bounds) (p : Place) → (holds b p ≡ true → t ≡ true) → times_in (if t then b ∷ [] else []) p ≡ cond (holds b p) 1 0
times_if true b p h = omega arith
times_if false b p h =
    let none : holds b p ≡ false = false_from_ne_true (holds b p) (λ k. cc (h k)) in rw none refl

few_if : (t : Bool) (b : Bounds) → length (if t then b ∷ [] else []) ≤ 1
few_if true b = omega arith
few_if false b = omega arith

each_if : (t : Bool) (b : Bounds) → (t ≡ true → IsFilledBox b) → AllByRecursion IsFilledBox (if t then b ∷ [] else [])
each_if true b h = (h refl, tt)
each_if false b h = tt

-- what is in a range shows that it is filled
in_range_filled : (r : Range) (c : ℤ) → in_range r c ≡ true → is_filled r ≡ true
in_range_filled r c h =
    let p = between_parts r.lo c r.hi h in
    let from = p.0 in
    let below = p.1 in grind (arith, ints)

held_filled : (x y z : Range) (p : Place) → holds (box_of x y z) p ≡ true → (is_filled x && is_filled y && is_filled z) ≡ true
held_filled x y z p h =
    let t = all_parts _ _ _ h in
    rw (in_range_filled x p.x t.0, in_range_filled y p.y t.1, in_range_filled z p.z t.2) refl

cut_is_cut : (r : Range) → is_filled (cut r) ≡ true → IsCut (cut r)
cut_is_cut r h = record { lo = omega (arith, ints, clamps); filled = grind (arith, ints); hi = omega (arith, ints, clamps) }

-- what is box_if_any

cut_held : (x y z : Range) (p : Place) → IsPlace p → holds (box_of (cut x) (cut y) (cut z)) p ≡ (in_range x p.x && in_range y p.y && in_range z p.z)
cut_held x y z p h = rw (cut_between x p.x h.0, cut_between y p.y h.1, cut_between z p.z h.2) refl

listed_some : (x y z : Range) (p : Place) → IsPlace p → is_in_some (box_if_any x y z) p ≡ (in_range x p.x && in_range y p.y && in_range z p.z)
listed_some x y z p h =
    some_if _ (box_of (cut x) (cut y) (cut z)) p (held_filled (cut x) (cut y) (cut z) p) ∙ cut_held x y z p h

listed_times : (x y z : Range) (p : Place) → IsPlace p → times_in (box_if_any x y z) p ≡ cond (in_range x p.x && in_range y p.y && in_range z p.z) 1 0
listed_times x y z p h =
    times_if _ (box_of (cut x) (cut y) (cut z)) p (held_filled (cut x) (cut y) (cut z) p) ∙ ap (λ t. cond t 1 0) (cut_held x y z p h)

listed_few : (x y z : Range) → length (box_if_any x y z) ≤ 1
listed_few x y z = few_if _ _

listed_each : (x y z : Range) → AllByRecursion IsFilledBox (box_if_any x y z)
listed_each x y z =
    each_if (is_filled (cut x) && is_filled (cut y) && is_filled (cut z)) (box_of (cut x) (cut y) (cut z))
    (λ h. let t = all_parts _ _ _ h in record { x = cut_is_cut x t.0; y = cut_is_cut y t.1; z = cut_is_cut z t.2 })

-- three slabs

slabs_bools : (ox nx oy ny oz nz : Bool)
    → (((ox && not nx) && oy && oz) || ((ox && nx) && (oy && not ny) && oz) ||
    ((ox && nx) && (oy && ny) && (oz && not nz))) ≡ ((ox && oy && oz) && not (nx && ny && nz))
slabs_bools false nx oy ny oz nz = refl
slabs_bools true false false ny oz nz = refl
slabs_bools true false true ny false nz = refl
slabs_bools true false true ny true nz = refl
slabs_bools true true false ny oz nz = refl
slabs_bools true true true false false nz = refl
slabs_bools true true true false true nz = refl
slabs_bools true true true true false nz = refl
slabs_bools true true true true true false = refl
slabs_bools true true true true true true = refl

apart_bools : (ox nx oy ny oz nz : Bool) → cond ((ox && not nx) && oy && oz) 1 0 + cond ((ox && nx) && (oy && not ny) && oz) 1 0 + cond ((ox && nx) && (oy && ny) && (oz && not nz)) 1 0 ≤ 1
apart_bools false nx oy ny oz nz = omega arith
apart_bools true false false ny oz nz = omega arith
apart_bools true false true ny false nz = omega arith
apart_bools true false true ny true nz = omega arith
apart_bools true true false ny oz nz = omega arith
apart_bools true true true false false nz = omega arith
apart_bools true true true false true nz = omega arith
apart_bools true true true true false nz = omega arith
apart_bools true true true true true false = omega arith
apart_bools true true true true true true = omega arith

all_both : (xs ys : List Bounds) → AllByRecursion IsFilledBox xs → AllByRecursion IsFilledBox ys → AllByRecursion IsFilledBox (xs ++ ys)
all_both [] ys h k = k
all_both (x ∷ xs) ys h k = (h.0, all_both xs ys h.1 k)

abbrev slabs_of : ℕ → Corner → Corner → List Bounds
slabs_of side a b = slabs (shift side a.x b.x) (shift side a.y b.y) (shift side a.z b.z)

slabs_exact : (side : ℕ) (a b : Corner) (p : Place) → AreNear side a b → IsPlace p → is_in_some (slabs_of side a b) p ≡ (holds (cube side a) p && not (holds (cube side b) p))
slabs_exact side a b p n h =
    let test : Bounds → Bool = λ c. holds c p in
    let A = box_if_any (left_range side a.x b.x) (whole_range side a.y) (whole_range side a.z) in
    let B = box_if_any (kept_range side a.x b.x) (left_range side a.y b.y) (whole_range side a.z) in
    let C = box_if_any (kept_range side a.x b.x) (kept_range side a.y b.y) (left_range side a.z b.z) in
    list_any-append test (A ++ B) C ∙ ap (λ t. t || list_any test C) (list_any-append test A B) ∙
    rw (
      listed_some (left_range side a.x b.x) (whole_range side a.y) (whole_range side a.z) p h,
      listed_some (kept_range side a.x b.x) (left_range side a.y b.y) (whole_range side a.z) p h,
      listed_some (kept_range side a.x b.x) (kept_range side a.y b.y) (left_range side a.z b.z) p h,
    )
    (rw (left_between side a.x b.x p.x n.x, left_between side a.y b.y p.y n.y, left_between side a.z b.z p.z n.z, kept_between side a.x b.x p.x, kept_between side a.y b.y p.y)
    (slabs_bools (in_range (whole_range side a.x) p.x) (in_range (whole_range side b.x) p.x)
    (in_range (whole_range side a.y) p.y) (in_range (whole_range side b.y) p.y)
    (in_range (whole_range side a.z) p.z) (in_range (whole_range side b.z) p.z)))

slabs_apart : (side : ℕ) (a b : Corner) (p : Place) → AreNear side a b → IsPlace p → times_in (slabs_of side a b) p ≤ 1
slabs_apart side a b p n h =
    let score : Bounds → ℕ = λ c. cond (holds c p) 1 0 in
    let A = box_if_any (left_range side a.x b.x) (whole_range side a.y) (whole_range side a.z) in
    let B = box_if_any (kept_range side a.x b.x) (left_range side a.y b.y) (whole_range side a.z) in
    let C = box_if_any (kept_range side a.x b.x) (kept_range side a.y b.y) (left_range side a.z b.z) in
    let parts : times_in (A ++ B ++ C) p ≡ times_in A p + times_in B p + times_in C p =
    sum_by-append score (A ++ B) C ∙ ap (λ t. t + sum_by score C) (sum_by-append score A B) in
    rw parts
    (rw (listed_times (left_range side a.x b.x) (whole_range side a.y) (whole_range side a.z) p h, listed_times (kept_range side a.x b.x) (left_range side a.y b.y) (whole_range side a.z) p h, listed_times (kept_range side a.x b.x) (kept_range side a.y b.y) (left_range side a.z b.z) p h)
    (rw (left_between side a.x b.x p.x n.x, left_between side a.y b.y p.y n.y, left_between side a.z b.z p.z n.z, kept_between side a.x b.x p.x, kept_between side a.y b.y p.y)
    (apart_bools (in_range (whole_range side a.x) p.x) (in_range (whole_range side b.x) p.x)
    (in_range (whole_range side a.y) p.y) (in_range (whole_range side b.y) p.y)
    (in_range (whole_range side a.z) p.z) (in_range (whole_range side b.z) p.z))))

slabs_few : (side : ℕ) (a b : Corner) → length (slabs_of side a b) ≤ 3
slabs_few side a b =
    let A = box_if_any (left_range side a.x b.x) (whole_range side a.y) (whole_range side a.z) in
    let B = box_if_any (kept_range side a.x b.x) (left_range side a.y b.y) (whole_range side a.z) in
    let C = box_if_any (kept_range side a.x b.x) (kept_range side a.y b.y) (left_range side a.z b.z) in
    let first = listed_few (left_range side a.x b.x) (whole_range side a.y) (whole_range side a.z) in
    let second = listed_few (kept_range side a.x b.x) (left_range side a.y b.y) (whole_range side a.z) in
    let third = listed_few (kept_range side a.x b.x) (kept_range side a.y b.y) (left_range side a.z b.z) in
    omega (arith, length-append (A ++ B) C, length-append A B)

slabs_each : (side : ℕ) (a b : Corner) → AllByRecursion IsFilledBox (slabs_of side a b)
slabs_each side a b =
    all_both _ _ (all_both _ _ (listed_each (left_range side a.x b.x) (whole_range side a.y) (whole_range side a.z))
    (listed_each (kept_range side a.x b.x) (left_range side a.y b.y) (whole_range side a.z)))
    (listed_each (kept_range side a.x b.x) (kept_range side a.y b.y) (left_range side a.z b.z))

but_not : (s t u : Bool) → s ≡ (t && not u) → (s ≡ true) ↔ ((t ≡ true) × (u ≡ false))
but_not s t u e =
    (λ h. let p = and_parts t (not u) (sym e ∙ h) in (p.0, not-true u p.1), λ h. e ∙ rw (h.0, h.1) refl)

-- a point is in one of the boxes exactly where it was in the region and isn't any more
pub removed_exact : (p : Place) (r : RegionAt) (q : Place) → IsRegion r → IsPlace q → is_in_some (removed r (after p r)) q ≡ (is_in r q && not (is_in (after p r) q))
removed_exact p r q h k = slabs_exact r.rules.side r.lo (after p r).lo q (after_near p r h) k

-- what the region leaves is shared out among the boxes
pub removed_left : (p : Place) (r : RegionAt) → IsRegion r → AreLeftBehind r (after p r) (removed r (after p r))
removed_left p r h =
    let near = after_near p r h in record {
      exact =
          λ q k. but_not (is_in_some (removed r (after p r)) q) (is_in r q) (is_in (after p r) q) (removed_exact p r q h k);
      apart = λ q k. slabs_apart r.rules.side r.lo (after p r).lo q near k;
      few = slabs_few r.rules.side r.lo (after p r).lo;
      each = slabs_each r.rules.side r.lo (after p r).lo;
    }
