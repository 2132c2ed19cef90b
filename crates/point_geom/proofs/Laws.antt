-- Laws of points and boxes.
use Rattle.std.proofs.Common.{◌≡◌, ℕ, ◌+◌, ◌≤◌, ℤ, pos, ◌≤ℤ◌, ◌+ℤ◌, ◌-ℤ◌, ◌*◌, ◌/◌, ◌%◌, ◌<◌, suc, Bool, true, ◌&&◌, refl, sym, subst, ap, arith}
use Rattle.std.specs.Prelude.{negsuc, ◌<ℤ◌, int_le, int_lt, unsigned_abs}
use Rattle.std.specs.Int.{int_min, int_max, int_rem_euclid}
use Rattle.std.proofs.Math.Nat.{mul-le-mul}
use Rattle.std.proofs.lemmas.Bool.{and_parts}
use Rattle.std.proofs.lemmas.Int.{ints, clamps}
use Rattle.point_geom.specs.Place.{Place, Bounds, Span, IsAt, IsBelow}
use Rattle.point_geom.specs.Distances.{gap2, dist2}
use Rattle.point_geom.specs.Boxes.{is_between, holds, unit_box, cell_start, voxel, IsMultiple, IsOnGrid}
use Rattle.point_geom.specs.Extents.{IsIn, IsPart, HoldsAll, HoldsSome, spot, low_corner, high_corner, joined_span, covers, is_crossed, meets, clamped, nearest_in, span_dist2}

-- numbers

≤ℤ-same : (a : ℤ) → a ≤ℤ a
≤ℤ-same a = omega (arith, ints)

≤ℤ-trans : (a b c : ℤ) → a ≤ℤ b → b ≤ℤ c → a ≤ℤ c
≤ℤ-trans a b c h k = omega (arith, ints)

pub between_parts : (lo c hi : ℤ) → is_between lo c hi ≡ true → (lo ≤ℤ c) × (c <ℤ hi)
between_parts lo c hi h =
    let p = and_parts (int_le lo c) (int_lt c hi) h in
    let low = p.0 in
    let high = p.1 in (grind (arith, ints), grind (arith, ints))

pub is_between_by : (lo c hi : ℤ) → lo ≤ℤ c → c <ℤ hi → is_between lo c hi ≡ true
is_between_by lo c hi h k = grind (arith, ints)

crossed_parts : (lo hi low high : ℤ) → is_crossed lo hi low high ≡ true → (lo ≤ℤ high) × (low <ℤ hi) × (lo <ℤ hi)
crossed_parts lo hi low high h =
    let p = and_parts (int_le lo high && int_lt low hi) (int_lt lo hi) h in
    let q = and_parts (int_le lo high) (int_lt low hi) p.0 in
    let first = q.0 in
    let second = q.1 in
    let third = p.1 in (grind (arith, ints), grind (arith, ints), grind (arith, ints))

is_crossed_by : (lo hi low high : ℤ) → lo ≤ℤ high → low <ℤ hi → lo <ℤ hi → is_crossed lo hi low high ≡ true
is_crossed_by lo hi low high h k l = grind (arith, ints)

-- a number between both shows that they cross
crossed_at : (lo hi low high c : ℤ) → is_between lo c hi ≡ true → low ≤ℤ c → c ≤ℤ high → is_crossed lo hi low high ≡ true
crossed_at lo hi low high c h k l =
    let p = between_parts lo c hi h in
    let from = p.0 in
    let below = p.1 in
    is_crossed_by lo hi low high (omega (arith, ints)) (omega (arith, ints)) (omega (arith, ints))

-- where they cross, the greater of the lower ends is in both
between_crossed : (lo hi low high : ℤ) → low ≤ℤ high → is_crossed lo hi low high ≡ true → is_between lo (int_max lo low) hi ≡ true
between_crossed lo hi low high u h =
    let p = crossed_parts lo hi low high h in
    let first = p.0 in
    let second = p.1 in
    let third = p.2 in
    is_between_by lo (int_max lo low) hi (omega (arith, ints, clamps)) (omega (arith, ints, clamps))

crossed_low : (lo low : ℤ) → low ≤ℤ int_max lo low
crossed_low lo low = omega (arith, ints, clamps)

crossed_high : (lo hi low high : ℤ) → low ≤ℤ high → is_crossed lo hi low high ≡ true → int_max lo low ≤ℤ high
crossed_high lo hi low high u h =
    let p = crossed_parts lo hi low high h in
    let first = p.0 in omega (arith, ints, clamps)

between_ends : (lo hi low high c : ℤ) → is_between lo low hi ≡ true → is_between lo high hi ≡ true → low ≤ℤ c → c ≤ℤ high → is_between lo c hi ≡ true
between_ends lo hi low high c h k l m =
    let p = between_parts lo low hi h in
    let q = between_parts lo high hi k in
    let from = p.0 in
    let below = q.1 in
    is_between_by lo c hi (omega (arith, ints)) (omega (arith, ints))

min_parts : (a b c : ℤ) → c ≤ℤ int_min a b → (c ≤ℤ a) × (c ≤ℤ b)
min_parts a b c h = (omega (arith, ints, clamps), omega (arith, ints, clamps))

max_parts : (a b c : ℤ) → int_max a b ≤ℤ c → (a ≤ℤ c) × (b ≤ℤ c)
max_parts a b c h = (omega (arith, ints, clamps), omega (arith, ints, clamps))

min_by : (a b c : ℤ) → c ≤ℤ a → c ≤ℤ b → c ≤ℤ int_min a b
min_by a b c h k = omega (arith, ints, clamps)

max_by : (a b c : ℤ) → a ≤ℤ c → b ≤ℤ c → int_max a b ≤ℤ c
max_by a b c h k = omega (arith, ints, clamps)

clamped_in : (low high c : ℤ) → low ≤ℤ high → (low ≤ℤ clamped low high c) × (clamped low high c ≤ℤ high)
clamped_in low high c h = (omega (arith, ints, clamps), omega (arith, ints, clamps))

unsigned_abs_clamped : (low high q c : ℤ) → low ≤ℤ c → c ≤ℤ high → unsigned_abs (q -ℤ clamped low high q) ≤ unsigned_abs (q -ℤ c)
unsigned_abs_clamped low high q c h k = omega (arith, ints, clamps)

gap2_clamped : (low high q c : ℤ) → low ≤ℤ c → c ≤ℤ high → gap2 q (clamped low high q) ≤ gap2 q c
gap2_clamped low high q c h k =
    let near = unsigned_abs_clamped low high q c h k in mul-le-mul near near

unsigned_abs-swap : (a b : ℤ) → unsigned_abs (a -ℤ b) ≡ unsigned_abs (b -ℤ a)
unsigned_abs-swap a b = omega (arith, ints)

gap2-swap : (a b : ℤ) → gap2 a b ≡ gap2 b a
gap2-swap a b = ap (λ n. n * n) (unsigned_abs-swap a b)

-- three tests

-- three tests that pass together pass each
pub all_parts : (x y z : Bool) → (x && y && z) ≡ true → (x ≡ true) × (y ≡ true) × (z ≡ true)
all_parts x y z h =
    let p = and_parts (x && y) z h in
    let q = and_parts x y p.0 in (q.0, q.1, p.1)

all_by : (x y z : Bool) → x ≡ true → y ≡ true → z ≡ true → (x && y && z) ≡ true
all_by x y z h k l = rw (h, k, l) refl

-- points

-- points that agree on each axis and in their intensity are the same
pub places_alike : (p q : Place) → p.x ≡ q.x → p.y ≡ q.y → p.z ≡ q.z → p.intensity ≡ q.intensity → p ≡ q
places_alike p q e f g h = λ i. record { x = e i; y = f i; z = g i; intensity = h i }

-- a point is where it is itself
pub IsAt-same : (p : Place) → IsAt p p
IsAt-same p = record { x = refl; y = refl; z = refl }

-- the distance is the same from either end
pub dist2-swap : (p q : Place) → dist2 p q ≡ dist2 q p
dist2-swap p q =
    let x = gap2-swap p.x q.x in
    let y = gap2-swap p.y q.y in
    let z = gap2-swap p.z q.z in rw (x, y, z) refl

-- a point is not above itself on any axis
pub IsBelow-same : (p : Place) → IsBelow p p
IsBelow-same p = record { x = ≤ℤ-same p.x; y = ≤ℤ-same p.y; z = ≤ℤ-same p.z }

-- what is below a point below another is below the other
pub IsBelow-trans : (p q r : Place) → IsBelow p q → IsBelow q r → IsBelow p r
IsBelow-trans p q r h k = record {
  x = ≤ℤ-trans p.x q.x r.x h.x k.x;
  y = ≤ℤ-trans p.y q.y r.y h.y k.y;
  z = ≤ℤ-trans p.z q.z r.z h.z k.z;
}

-- closed boxes

-- a point is in the box of itself
pub spot_in : (p : Place) → IsIn (spot p) p
spot_in p = record {
  from = record { x = ≤ℤ-same p.x; y = ≤ℤ-same p.y; z = ≤ℤ-same p.z };
  to = record { x = ≤ℤ-same p.x; y = ≤ℤ-same p.y; z = ≤ℤ-same p.z };
}

-- a closed box is part of itself
pub IsPart-same : (e : Span) → IsPart e e
IsPart-same e = record { lo = IsBelow-same e.lo; hi = IsBelow-same e.hi }

-- a part of a part is a part
pub IsPart-trans : (a b c : Span) → IsPart a b → IsPart b c → IsPart a c
IsPart-trans a b c h k = record {
  lo = IsBelow-trans c.lo b.lo a.lo k.lo h.lo;
  hi = IsBelow-trans a.hi b.hi c.hi h.hi k.hi;
}

-- what is in a part is in the whole
pub in_part : (a b : Span) (p : Place) → IsPart a b → IsIn a p → IsIn b p
in_part a b p h k = record {
  from = IsBelow-trans b.lo a.lo p h.lo k.from;
  to = IsBelow-trans p a.hi b.hi k.to h.hi;
}

low_parts : (p q r : Place) → IsBelow r (low_corner p q) → IsBelow r p × IsBelow r q
low_parts p q r h =
    let x = min_parts p.x q.x r.x h.x in
    let y = min_parts p.y q.y r.y h.y in
    let z = min_parts p.z q.z r.z h.z in (record { x = x.0; y = y.0; z = z.0 }, record { x = x.1; y = y.1; z = z.1 })

high_parts : (p q r : Place) → IsBelow (high_corner p q) r → IsBelow p r × IsBelow q r
high_parts p q r h =
    let x = max_parts p.x q.x r.x h.x in
    let y = max_parts p.y q.y r.y h.y in
    let z = max_parts p.z q.z r.z h.z in (record { x = x.0; y = y.0; z = z.0 }, record { x = x.1; y = y.1; z = z.1 })

low_by : (p q r : Place) → IsBelow r p → IsBelow r q → IsBelow r (low_corner p q)
low_by p q r h k = record {
  x = min_by p.x q.x r.x h.x k.x;
  y = min_by p.y q.y r.y h.y k.y;
  z = min_by p.z q.z r.z h.z k.z;
}

high_by : (p q r : Place) → IsBelow p r → IsBelow q r → IsBelow (high_corner p q) r
high_by p q r h k = record {
  x = max_by p.x q.x r.x h.x k.x;
  y = max_by p.y q.y r.y h.y k.y;
  z = max_by p.z q.z r.z h.z k.z;
}

-- what covers the joined box covers both
pub joined_parts : (a b e : Span) → IsPart (joined_span a b) e → IsPart a e × IsPart b e
joined_parts a b e h =
    let lo = low_parts a.lo b.lo e.lo h.lo in
    let hi = high_parts a.hi b.hi e.hi h.hi in (record { lo = lo.0; hi = hi.0 }, record { lo = lo.1; hi = hi.1 })

-- what covers both covers the joined box
pub join_least : (a b e : Span) → IsPart a e → IsPart b e → IsPart (joined_span a b) e
join_least a b e h k = record {
  lo = low_by a.lo b.lo e.lo h.lo k.lo;
  hi = high_by a.hi b.hi e.hi h.hi k.hi;
}

-- the first of two is part of their joined box
pub join_left : (a b : Span) → IsPart a (joined_span a b)
join_left a b = (joined_parts a b (joined_span a b) (IsPart-same (joined_span a b))).0

-- the second of two is part of their joined box
pub join_right : (a b : Span) → IsPart b (joined_span a b)
join_right a b = (joined_parts a b (joined_span a b) (IsPart-same (joined_span a b))).1

-- the joined box of two that aren't empty isn't either
pub joined_below : (a b : Span) → IsBelow a.lo a.hi → IsBelow (joined_span a b).lo (joined_span a b).hi
joined_below a b h =
    let p = join_left a b in
    IsBelow-trans (joined_span a b).lo a.lo (joined_span a b).hi p.lo (IsBelow-trans a.lo a.hi (joined_span a b).hi h p.hi)

-- no point of a closed box is nearer than the box
pub reach : (e : Span) (p q : Place) → IsIn e p → span_dist2 e q ≤ dist2 q p
reach e p q h =
    let x = gap2_clamped e.lo.x e.hi.x q.x p.x h.from.x h.to.x in
    let y = gap2_clamped e.lo.y e.hi.y q.y p.y h.from.y h.to.y in
    let z = gap2_clamped e.lo.z e.hi.z q.z p.z h.from.z h.to.z in omega arith

-- the nearest point of a closed box is in it
pub nearest_is_in : (e : Span) (q : Place) → IsBelow e.lo e.hi → IsIn e (nearest_in e q)
nearest_is_in e q h =
    let x = clamped_in e.lo.x e.hi.x q.x h.x in
    let y = clamped_in e.lo.y e.hi.y q.y h.y in
    let z = clamped_in e.lo.z e.hi.z q.z h.z in
    record { from = record { x = x.0; y = y.0; z = z.0 }; to = record { x = x.1; y = y.1; z = z.1 } }

-- half-open boxes

-- a shared point shows that the boxes meet
pub held_meets : (c : Bounds) (e : Span) (p : Place) → holds c p ≡ true → IsIn e p → meets c e ≡ true
held_meets c e p h k =
    let t = all_parts _ _ _ h in
    all_by _ _ _ (crossed_at c.lo.x c.hi.x e.lo.x e.hi.x p.x t.0 k.from.x k.to.x)
    (crossed_at c.lo.y c.hi.y e.lo.y e.hi.y p.y t.1 k.from.y k.to.y)
    (crossed_at c.lo.z c.hi.z e.lo.z e.hi.z p.z t.2 k.from.z k.to.z)

-- boxes that meet share a point
pub meets_held : (c : Bounds) (e : Span) → IsBelow e.lo e.hi → meets c e ≡ true → HoldsSome c e
meets_held c e u h =
    let t = all_parts _ _ _ h in
    let x = crossed_high c.lo.x c.hi.x e.lo.x e.hi.x u.x t.0 in
    let y = crossed_high c.lo.y c.hi.y e.lo.y e.hi.y u.y t.1 in
    let z = crossed_high c.lo.z c.hi.z e.lo.z e.hi.z u.z t.2 in record {
      point = record { x = int_max c.lo.x e.lo.x; y = int_max c.lo.y e.lo.y; z = int_max c.lo.z e.lo.z; intensity = 0 };
      inside = record {
        from = record { x = crossed_low c.lo.x e.lo.x; y = crossed_low c.lo.y e.lo.y; z = crossed_low c.lo.z e.lo.z };
        to = record { x = x; y = y; z = z };
      };
      held =
          all_by _ _ _ (between_crossed c.lo.x c.hi.x e.lo.x e.hi.x u.x t.0)
          (between_crossed c.lo.y c.hi.y e.lo.y e.hi.y u.y t.1)
          (between_crossed c.lo.z c.hi.z e.lo.z e.hi.z u.z t.2);
    }

-- what a half-open box covers, it holds
pub covered_held : (c : Bounds) (e : Span) (p : Place) → covers c e ≡ true → IsIn e p → holds c p ≡ true
covered_held c e p h k =
    let both = and_parts (holds c e.lo) (holds c e.hi) h in
    let lo = all_parts _ _ _ both.0 in
    let hi = all_parts _ _ _ both.1 in
    all_by _ _ _ (between_ends c.lo.x c.hi.x e.lo.x e.hi.x p.x lo.0 hi.0 k.from.x k.to.x)
    (between_ends c.lo.y c.hi.y e.lo.y e.hi.y p.y lo.1 hi.1 k.from.y k.to.y)
    (between_ends c.lo.z c.hi.z e.lo.z e.hi.z p.z lo.2 hi.2 k.from.z k.to.z)

-- what holds every point of a closed box covers it
pub held_covers : (c : Bounds) (e : Span) → IsBelow e.lo e.hi → HoldsAll c e → covers c e ≡ true
held_covers c e u h =
    let lo = h e.lo (record { from = IsBelow-same e.lo; to = u }) in
    let hi = h e.hi (record { from = u; to = IsBelow-same e.hi }) in rw (lo, hi) refl

number_alone : (c q : ℤ) → is_between c q (c +ℤ pos 1) ≡ true → q ≡ c
number_alone c q h =
    let p = between_parts c q (c +ℤ pos 1) h in
    let from = p.0 in
    let below = p.1 in omega (arith, ints)

between_alone : (c : ℤ) → is_between c c (c +ℤ pos 1) ≡ true
between_alone c = is_between_by c c (c +ℤ pos 1) (≤ℤ-same c) (omega (arith, ints))

-- the box of one point holds no point elsewhere
pub unit_alone : (p q : Place) → holds (unit_box p) q ≡ true → IsAt p q
unit_alone p q h =
    let t = all_parts _ _ _ h in
    record { x = number_alone p.x q.x t.0; y = number_alone p.y q.y t.1; z = number_alone p.z q.z t.2 }

-- and holds those that are there
pub unit_held : (p q : Place) → IsAt p q → holds (unit_box p) q ≡ true
unit_held p q h =
    all_by _ _ _ (subst (λ c. is_between p.x c (p.x +ℤ pos 1) ≡ true) (sym h.x) (between_alone p.x))
    (subst (λ c. is_between p.y c (p.y +ℤ pos 1) ≡ true) (sym h.y) (between_alone p.y))
    (subst (λ c. is_between p.z c (p.z +ℤ pos 1) ≡ true) (sym h.z) (between_alone p.z))

rem_parts : (n : ℕ) (c : ℤ) → 1 ≤ n → (pos 0 ≤ℤ int_rem_euclid c (pos n)) × (int_rem_euclid c (pos n) <ℤ pos n)
rem_parts n (pos a) h = (omega (arith, ints), omega (arith, ints))
rem_parts n (negsuc a) h = (omega (arith, ints), omega (arith, ints))

between_rem : (r c : ℤ) (n : ℕ) → pos 0 ≤ℤ r → r <ℤ pos n → is_between (c -ℤ r) c ((c -ℤ r) +ℤ pos n) ≡ true
between_rem r c n h k = is_between_by (c -ℤ r) c ((c -ℤ r) +ℤ pos n) (omega (arith, ints)) (omega (arith, ints))

between_cell : (n : ℕ) (c : ℤ) → 1 ≤ n → is_between (cell_start n c) c (cell_start n c +ℤ pos n) ≡ true
between_cell n c h =
    let p = rem_parts n c h in between_rem (int_rem_euclid c (pos n)) c n p.0 p.1

-- a point is in its voxel
pub voxel_held : (n : ℕ) (p : Place) → 1 ≤ n → holds (voxel n p) p ≡ true
voxel_held n p h = all_by _ _ _ (between_cell n p.x h) (between_cell n p.y h) (between_cell n p.z h)

times_over : (a n : ℕ) → 1 ≤ n → a / n * n + a % n ≡ a
times_over a n h = grind arith

cell_multiple : (n : ℕ) (c : ℤ) → 1 ≤ n → IsMultiple n (cell_start n c)
cell_multiple n (pos a) h =
    let whole = times_over a n h in (pos (a / n), omega (arith, ints))
cell_multiple n (negsuc a) h =
    let whole = times_over a n h in
    let below : a % n < n = omega arith in
    let more : suc (a / n) * n ≡ a / n * n + n = grind arith in (negsuc (a / n), omega (arith, ints))

-- a voxel's lower corner is on the grid
pub voxel_on_grid : (n : ℕ) (p : Place) → 1 ≤ n → IsOnGrid n (voxel n p).lo
voxel_on_grid n p h = record { x = cell_multiple n p.x h; y = cell_multiple n p.y h; z = cell_multiple n p.z h }
