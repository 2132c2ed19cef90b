-- Searches whose squared distances fit 64 bits.
use Rattle.std.proofs.Common.{◌≡◌, ℕ, ◌-◌, ◌^◌, ◌<◌, ◌≤◌, min, get_or, inl, inr, arith, All, List, [], ◌∷◌, ◌++◌, length, take, sym, ap, ◌∙◌, subst, Option}
use Rattle.std.proofs.Math.Seq.{take-append_seam, drop-append_seam}
use Rattle.std.proofs.lemmas.List.{get_or-map, length-map}
use Rattle.std.proofs.lemmas.List.Elements.{All-cons, All-drop, All-head, All-nil, All-tail, All-take}
use Rattle.point_geom.specs.Place.{Place}
use Rattle.point_geom.specs.Distances.{dist2}
use Rattle.map_items.specs.declared.item.Item.{Item}
use Rattle.map_fold.specs.declared.hits.Hit.{Hit}
use Rattle.map_fold.specs.Answers.{candidates, put_hit}
use Rattle.kd_tree.specs.Contents.{AreDistinct}
use Rattle.kd_search.specs.Nearest.{IsBound, put_all}
use Rattle.kd_search.specs.Points.{AreAway}
use Rattle.kd_search.specs.Sides.{IsEitherWay}
use Rattle.kd_search.proofs.Bounds.{bound_drawn, bound_stays, left_out}
use Rattle.kd_frozen.specs.declared.cell.Cell.{Cell}
use Rattle.kd_frozen.specs.declared.parts.Parts.{Parts}
use Rattle.kd_frozen.specs.Cells.{item_of, items_of}
use Rattle.kd_frozen.specs.Close.{AreClose, IsCloseBound}
use Rattle.kd_frozen.specs.Segments.{ArePartsOf, plane_gap2}
use Rattle.kd_frozen.proofs.Round.{all_parts}

-- what is farther than the bound changes nothing
pub close_left_out : (k : ℕ) (q : Place) (r : Option ℕ) (hits : List Hit) (bound d : ℕ) (m : List Item) → IsCloseBound k r hits bound → bound < d → d < 2 ^ 64 → AreAway d q m → hits ≡ take k (put_all (candidates m q r) hits)
close_left_out k q r hits bound d m b beyond fits away = left_out k q r hits b.whole d m b.bounds (omega (arith, b.cut)) (omega arith) away

-- a hit that is within the bound leaves it a bound
pub close_stays : (k : ℕ) (r : Option ℕ) (h : Hit) (hits new : List Hit) (bound : ℕ) → IsCloseBound k r hits bound → h.dist2 ≤ bound → new ≡ take k (put_hit h hits) → IsCloseBound k r new bound
close_stays k r h hits new bound b near e = record {
  whole = b.whole;
  bounds = bound_stays k r h hits new b.whole b.bounds (omega (arith, b.cut)) e;
  cut = b.cut;
}

-- where k hits are held, the distance of the last one is a bound too
pub close_drawn : (k : ℕ) (r : Option ℕ) (hits : List Hit) (x : Hit) (bound : ℕ) → 1 ≤ k → length hits ≡ k → IsCloseBound k r hits bound → IsCloseBound k r hits (min bound (get_or hits (k - 1) x).dist2)
close_drawn k r hits x bound some all b = record {
  whole = min b.whole (get_or hits (k - 1) x).dist2;
  bounds = bound_drawn k r hits x b.whole some all b.bounds;
  cut = omega (arith, b.cut);
}

-- how a search ends: with a bound of its own, or with the first one
pub close_drew : (k : ℕ) (r : Option ℕ) (hits : List Hit) (bound : ℕ) → IsCloseBound k r hits bound → bound < 18446744073709551615 → IsBound k r hits bound
close_drew k r hits bound b less = let e : b.whole ≡ bound = omega (arith, b.cut) in subst (IsBound k r hits) e b.bounds

pub close_kept : (k : ℕ) (r : Option ℕ) (none hits : List Hit) (start bound : ℕ) → 1 ≤ k → none ≡ [] → IsBound k r none start → IsCloseBound k r hits bound → IsBound k r hits start
close_kept k r none hits start bound some e s b = record {
  held = b.bounds.held;
  admits = s.admits;
  beyond = λ d l f. elim (s.beyond d l f) [
    | inl out ↦ inl out
    | inr full ↦ absurd (let g : length none ≡ k = full.all in omega (arith, g, ap length e, some))
  ];
}

-- of two lists in one both have what all of it have
all_front : (P : Item → Type 0) (xs ys : List Item) → All P (xs ++ ys) → All P xs
all_front P xs ys h = subst (All P) (take-append_seam xs ys) (All-take P (length xs) (xs ++ ys) h)

all_back : (P : Item → Type 0) (xs ys : List Item) → All P (xs ++ ys) → All P ys
all_back P xs ys h = subst (All P) (drop-append_seam xs ys) (All-drop P (length xs) (xs ++ ys) h)

all_near : (P : Item → Type 0) (m near far : List Item) → IsEitherWay m near far → All P m → All P near
all_near P m near far (inl e) h = all_front P near far (subst (All P) e h)
all_near P m near far (inr e) h = all_back P far near (subst (All P) e h)

all_far : (P : Item → Type 0) (m near far : List Item) → IsEitherWay m near far → All P m → All P far
all_far P m near far (inl e) h = all_back P near far (subst (All P) e h)
all_far P m near far (inr e) h = all_front P far near (subst (All P) e h)

abbrev Fits : Place → Item → Type 0
Fits q i = dist2 q i.point < 2 ^ 64

-- the parts of what is close are close
pub top_close : (m : List Cell) (q : Place) (s : Parts) → ArePartsOf m q s → AreClose q (items_of m) → dist2 q s.top.now.point < 2 ^ 64
top_close m q s p h = All-head (Fits q) (item_of s.top.now) p.others (subst (All (Fits q)) p.items h)

others_close : (m : List Cell) (q : Place) (s : Parts) (p : ArePartsOf m q s) → AreClose q (items_of m) → AreClose q p.others
others_close m q s p h = All-tail (Fits q) (item_of s.top.now) p.others (subst (All (Fits q)) p.items h)

pub near_close : (m : List Cell) (q : Place) (s : Parts) → ArePartsOf m q s → AreClose q (items_of m) → AreClose q (items_of s.near.now)
near_close m q s p h = all_near (Fits q) p.others (items_of s.near.now) (items_of s.far.now) p.turned (others_close m q s p h)

pub far_close : (m : List Cell) (q : Place) (s : Parts) → ArePartsOf m q s → AreClose q (items_of m) → AreClose q (items_of s.far.now)
far_close m q s p h = all_far (Fits q) p.others (items_of s.near.now) (items_of s.far.now) p.turned (others_close m q s p h)

-- and so is a cell of it
pub cell_close : (m : List Cell) (q : Place) (n : ℕ) (c : Cell) → n < length m → c ≡ get_or m n c → AreClose q (items_of m) → dist2 q c.point < 2 ^ 64
cell_close m q n c lt is h =
    let at : get_or (items_of m) n (item_of c) ≡ item_of c = get_or-map item_of m n c (item_of c) lt ∙ ap item_of (sym is) in
    subst (Fits q) at (h n (item_of c) (omega (arith, length-map m item_of)))

-- the near side alone, where the gap is beyond the bound
pub close_near_alone : (k : ℕ) (q : Place) (r : Option ℕ) (m : List Cell) (s : Parts) (hits one : List Hit) (bound gap : ℕ) → ArePartsOf m q s → AreDistinct (items_of m)
    → IsCloseBound k r one bound → bound < gap → gap < 2 ^ 64 → gap ≡ plane_gap2 s.top.now q → one ≡ take k (put_all (candidates (items_of s.near.now) q r) hits)
    → one ≡ take k (put_all (candidates (items_of m) q r) hits)
close_near_alone k q r m s hits one bound gap p d b beyond fits is e =
    let Far = λ (i : Item). gap ≤ dist2 q i.point in
    let own : AreAway gap q (item_of s.top.now ∷ []) = All-cons Far (item_of s.top.now) [] (rw is p.top) (All-nil Far) in
    let away : AreAway gap q (items_of s.far.now) = rw is p.away in
    all_parts k q r m s hits one one one p d e
    (close_left_out k q r one bound gap (item_of s.top.now ∷ []) b beyond fits own)
    (close_left_out k q r one bound gap (items_of s.far.now) b beyond fits away)
