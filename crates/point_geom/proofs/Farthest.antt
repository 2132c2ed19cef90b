-- How far a closed box reaches.
use Rattle.std.proofs.Common.{◌≡◌, ℕ, ◌≤◌, ◌⊎◌, inl, inr, ℤ, ◌≤ℤ◌, ◌-ℤ◌, arith}
use Rattle.std.specs.Prelude.{max, unsigned_abs}
use Rattle.std.proofs.Math.Nat.{mul-le-mul}
use Rattle.std.proofs.lemmas.Int.{ints}
use Rattle.point_geom.specs.Place.{Place, Span, IsBelow}
use Rattle.point_geom.specs.Distances.{gap2, dist2}
use Rattle.point_geom.specs.Extents.{IsIn, span_far2}

abs_between : (low high q c : ℤ) → low ≤ℤ c → c ≤ℤ high → (unsigned_abs (q -ℤ c) ≤ unsigned_abs (q -ℤ low)) ⊎ (unsigned_abs (q -ℤ c) ≤ unsigned_abs (q -ℤ high))
abs_between low high q c h k = grind (arith, ints)

gap2_between : (low high q c : ℤ) → low ≤ℤ c → c ≤ℤ high → gap2 q c ≤ max (gap2 q low) (gap2 q high)
gap2_between low high q c h k = elim (abs_between low high q c h k) [
  | inl near ↦ let p : gap2 q c ≤ gap2 q low = mul-le-mul near near in omega (arith, p)
  | inr near ↦ let p : gap2 q c ≤ gap2 q high = mul-le-mul near near in omega (arith, p)
]

-- no point of a closed box is farther
pub no_farther : (e : Span) (p q : Place) → IsIn e p → dist2 q p ≤ span_far2 e q
no_farther e p q h =
    let x = gap2_between e.lo.x e.hi.x q.x p.x h.from.x h.to.x in
    let y = gap2_between e.lo.y e.hi.y q.y p.y h.from.y h.to.y in
    let z = gap2_between e.lo.z e.hi.z q.z p.z h.from.z h.to.z in omega (arith, x, y, z)

-- an end of which this holds
record IsFarEnd (low high q c : ℤ) : Type 0 where
  from : low ≤ℤ c
  to : c ≤ℤ high
  is : max (gap2 q low) (gap2 q high) ≡ gap2 q c

max_either : (a b : ℕ) → (max a b ≡ a) ⊎ (max a b ≡ b)
max_either a b = grind arith

far_end : (low high q : ℤ) → low ≤ℤ high → (c : ℤ) × IsFarEnd low high q c
far_end low high q h = elim (max_either (gap2 q low) (gap2 q high)) [
  | inl e ↦ (low, record { from = omega (arith, ints); to = h; is = e })
  | inr e ↦ (high, record { from = h; to = omega (arith, ints); is = e })
]

-- and some corner is as far
pub far_reached : (e : Span) (q : Place) → IsBelow e.lo e.hi → (p : Place) × IsIn e p × (span_far2 e q ≡ dist2 q p)
far_reached e q u =
    let x = far_end e.lo.x e.hi.x q.x u.x in
    let y = far_end e.lo.y e.hi.y q.y u.y in
    let z = far_end e.lo.z e.hi.z q.z u.z in
    let p : Place = record { x = x.0; y = y.0; z = z.0; intensity = 0 } in
    (p, record { from = record { x = x.1.from; y = y.1.from; z = z.1.from }; to = record { x = x.1.to; y = y.1.to; z = z.1.to } }, omega (arith, x.1.is, y.1.is, z.1.is))
