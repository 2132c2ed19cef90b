-- Points of one voxel have the same voxel.
use Rattle.std.proofs.Common.{◌≡◌, ℕ, ◌+◌, ◌*◌, ◌<◌, ◌≤◌, ℤ, pos, negsuc, ◌+ℤ◌, ◌*ℤ◌, ◌≤ℤ◌, ◌<ℤ◌, suc, true, ap, ◌∙◌, sym, arith, lt_of_mul-lt-mul_right}
use Rattle.std.proofs.lemmas.Int.{ints}
use Rattle.point_geom.specs.Place.{Place}
use Rattle.point_geom.specs.declared.cuboid.Corner.{Corner}
use Rattle.point_geom.specs.Boxes.{is_between, holds, cube, voxel, IsMultiple}
use Rattle.point_geom.proofs.Laws.{all_parts, voxel_held, voxel_on_grid, between_parts}

-- a multiple below the next one of another is no greater than that one
times_less : (a b n : ℕ) → a * n < suc b * n → a ≤ b
times_less a b n h = let below : a < suc b = lt_of_mul-lt-mul_right n h in omega arith

-- one multiple alone has a number on or above it that is below the next
multiple_alone : (n : ℕ) (k l c : ℤ) → 1 ≤ n → (k *ℤ pos n) ≤ℤ c → c <ℤ ((k *ℤ pos n) +ℤ pos n) → (l *ℤ pos n) ≤ℤ c → c <ℤ ((l *ℤ pos n) +ℤ pos n) → k ≡ l
multiple_alone n (pos a) (pos b) c from h k u v =
    let more : suc a * n ≡ a * n + n = grind arith in
    let more_yet : suc b * n ≡ b * n + n = grind arith in
    let one = times_less a b n (omega (arith, ints)) in
    let two = times_less b a n (omega (arith, ints)) in
    let same : a ≡ b = omega arith in ap pos same
multiple_alone n (pos a) (negsuc b) c from h k u v =
    let more : suc b * n ≡ b * n + n = grind arith in absurd (omega (arith, ints))
multiple_alone n (negsuc a) (pos b) c from h k u v =
    let more : suc a * n ≡ a * n + n = grind arith in absurd (omega (arith, ints))
multiple_alone n (negsuc a) (negsuc b) c from h k u v =
    let more : suc (suc a) * n ≡ suc a * n + n = grind arith in
    let more_yet : suc (suc b) * n ≡ suc b * n + n = grind arith in
    let one = times_less (suc a) (suc b) n (omega (arith, ints)) in
    let two = times_less (suc b) (suc a) n (omega (arith, ints)) in
    let same : a ≡ b = omega arith in ap negsuc same

-- on one axis, two cells that hold a number are one
cell_alone : (n : ℕ) (s t c : ℤ) → 1 ≤ n → IsMultiple n s → IsMultiple n t → is_between s c (s +ℤ pos n) ≡ true → is_between t c (t +ℤ pos n) ≡ true → s ≡ t
cell_alone n s t c from m o h k =
    let a = between_parts s c (s +ℤ pos n) h in
    let b = between_parts t c (t +ℤ pos n) k in
    let e = m.1 in
    let f = o.1 in
    let same = multiple_alone n m.0 o.0 c from (rw e at a.0) (rw e at a.1) (rw f at b.0) (rw f at b.1) in
    e ∙ (ap (λ (x : ℤ). x *ℤ pos n) same ∙ sym f)

-- corners that agree on each axis are the same
pub corners_alike : (c d : Corner) → c.x ≡ d.x → c.y ≡ d.y → c.z ≡ d.z → c ≡ d
corners_alike c d e f g = λ i. record { x = e i; y = f i; z = g i }

-- the voxel of what a voxel holds is that voxel
pub voxel_of : (edge : ℕ) (p q : Place) → 1 ≤ edge → holds (voxel edge p) q ≡ true → voxel edge q ≡ voxel edge p
voxel_of edge p q from h =
    let own = all_parts _ _ _ (voxel_held edge q from) in
    let other = all_parts _ _ _ h in
    let here = voxel_on_grid edge q from in
    let there = voxel_on_grid edge p from in
    let x = cell_alone edge _ _ q.x from here.x there.x own.0 other.0 in
    let y = cell_alone edge _ _ q.y from here.y there.y own.1 other.1 in
    let z = cell_alone edge _ _ q.z from here.z there.z own.2 other.2 in
    ap (cube edge) (corners_alike (voxel edge q).lo (voxel edge p).lo x y z)
