-- Segments that are parted.
use Rattle.std.proofs.Common.{◌≡◌, ℕ, suc, ◌<◌, ◌≤ℤ◌, List, ◌∷◌, ◌++◌, length, take, drop, sym, ap, ◌∙◌, subst, arith, inl, inr, length-append}
use Rattle.std.proofs.lemmas.List.{map-append}
use Rattle.point_geom.specs.Place.{Place}
use Rattle.point_geom.specs.Axes.{on}
use Rattle.kd_search.specs.Points.{AreBelow, AreAbove}
use Rattle.kd_search.proofs.Planes.{axis_gap, away_below, away_above}
use Rattle.kd_frozen.specs.declared.cell.Cell.{Cell}
use Rattle.kd_frozen.specs.declared.cell.TheConstants.{LEAF}
use Rattle.kd_frozen.specs.declared.parts.Parts.{Parts}
use Rattle.kd_frozen.specs.Cells.{item_of, items_of}
use Rattle.kd_frozen.specs.Segments.{AreParted, ArePartsOf, IsParted, cut}

-- what is known of the sides of a segment that is longer than a leaf
pub record AreSides (left right : List Cell) (c : Cell) : Type 0 where
  pub below : AreBelow c.axis c.point (items_of left)
  pub above : AreAbove c.axis c.point (items_of right)
  pub left_parted : AreParted left
  pub right_parted : AreParted right

pub sides_of : (m rest left right : List Cell) (c : Cell) (h : ℕ) → AreParted m → LEAF < length m → m ≡ c ∷ rest → h ≡ cut c (length rest) → left ≡ take h rest → right ≡ drop h rest → AreSides left right c
sides_of m rest left right c h k more all e f g =
    let own : (n : ℕ) → IsParted n (c ∷ rest) = λ n. subst (IsParted n) all (k n) in
    let long : LEAF < length (c ∷ rest) = subst (λ z. LEAF < length z) all more in
    let front : take (cut c (length rest)) rest ≡ left = ap (λ j. take j rest) (sym e) ∙ sym f in
    let back : drop (cut c (length rest)) rest ≡ right = ap (λ j. drop j rest) (sym e) ∙ sym g in
    let plane = (own 1 long).0 in
    record {
      below = subst (λ z. AreBelow c.axis c.point (items_of z)) front plane.0;
      above = subst (λ z. AreAbove c.axis c.point (items_of z)) back plane.1;
      left_parted = λ n. subst (IsParted n) front (own (suc n) long).1;
      right_parted = λ n. subst (IsParted n) back (own (suc n) long).2;
    }

-- the parts round a place that isn't above the plane
pub left_near : (m rest left right : List Cell) (c : Cell) (q : Place) (s : Parts) → AreSides left right c → m ≡ c ∷ rest → rest ≡ left ++ right → on c.axis q ≤ℤ on c.axis c.point
    → s.top.now ≡ c → s.near.now ≡ left → s.far.now ≡ right → ArePartsOf m q s
left_near m rest left right c q s k all both side top near far = record {
  others = items_of rest;
  items = ap items_of all ∙ ap (λ i. item_of i ∷ items_of rest) (sym top);
  turned = inl (ap items_of both ∙ map-append item_of left right ∙ ap (λ z. items_of z ++ items_of right) (sym near) ∙ ap (λ z. items_of s.near.now ++ items_of z) (sym far));
  top = rw top (axis_gap c.axis q c.point);
  away = rw (top, far) (away_above c.axis q c.point (items_of right) side k.above);
  near_parted = rw near k.left_parted;
  far_parted = rw far k.right_parted;
  shorter = rw (near, far) (omega (arith, ap length all, ap length both, length-append left right));
}

-- and round one that isn't below it
pub right_near : (m rest left right : List Cell) (c : Cell) (q : Place) (s : Parts) → AreSides left right c → m ≡ c ∷ rest → rest ≡ left ++ right → on c.axis c.point ≤ℤ on c.axis q
    → s.top.now ≡ c → s.near.now ≡ right → s.far.now ≡ left → ArePartsOf m q s
right_near m rest left right c q s k all both side top near far = record {
  others = items_of rest;
  items = ap items_of all ∙ ap (λ i. item_of i ∷ items_of rest) (sym top);
  turned = inr (ap items_of both ∙ map-append item_of left right ∙ ap (λ z. items_of z ++ items_of right) (sym far) ∙ ap (λ z. items_of s.far.now ++ items_of z) (sym near));
  top = rw top (axis_gap c.axis q c.point);
  away = rw (top, far) (away_below c.axis q c.point (items_of left) side k.below);
  near_parted = rw near k.right_parted;
  far_parted = rw far k.left_parted;
  shorter = rw (near, far) (omega (arith, ap length all, ap length both, length-append left right));
}
