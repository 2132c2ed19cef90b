-- What a segment's parts give, one after the other.
use Rattle.std.proofs.Common.{◌≡◌, ℕ, ◌+◌, ◌^◌, ◌<◌, get_or, length, drop, ◌≤◌, List, [], ◌∷◌, ◌++◌, take, sym, ap, ◌∙◌, subst, Option}
use Rattle.std.proofs.lemmas.List.{map-append, take-append-drop, take_more}
use Rattle.std.proofs.lemmas.List.Elements.{All-cons, All-nil}
use Rattle.point_geom.specs.Place.{Place}
use Rattle.point_geom.specs.Distances.{dist2}
use Rattle.map_items.specs.declared.item.Item.{Item}
use Rattle.map_fold.specs.declared.hits.Hit.{Hit}
use Rattle.map_fold.specs.Answers.{candidates}
use Rattle.kd_tree.specs.Contents.{AreDistinct}
use Rattle.kd_search.specs.Nearest.{IsBound, put_all}
use Rattle.kd_search.specs.Points.{AreAway}
use Rattle.kd_search.proofs.Bounds.{left_out}
use Rattle.kd_search.proofs.Offered.{near_first}
use Rattle.kd_frozen.specs.declared.cell.Cell.{Cell}
use Rattle.kd_frozen.specs.declared.parts.Parts.{Parts}
use Rattle.kd_frozen.specs.Cells.{item_of, items_of}
use Rattle.kd_frozen.specs.Segments.{ArePartsOf, plane_gap2}
use Rattle.kd_frozen.proofs.Between.{far_distinct, front_once, near_distinct, one_more}

pub near_once : (m : List Cell) (q : Place) (s : Parts) → ArePartsOf m q s → AreDistinct (items_of m) → AreDistinct (items_of s.near.now)
near_once m q s p d = near_distinct p.others (items_of s.near.now) (items_of s.far.now) (item_of s.top.now) (subst AreDistinct p.items d) p.turned

pub far_once : (m : List Cell) (q : Place) (s : Parts) → ArePartsOf m q s → AreDistinct (items_of m) → AreDistinct (items_of s.far.now)
far_once m q s p d = far_distinct p.others (items_of s.near.now) (items_of s.far.now) (item_of s.top.now) (subst AreDistinct p.items d) p.turned

-- the near side, the cell, and the far side
pub all_parts : (k : ℕ) (q : Place) (r : Option ℕ) (m : List Cell) (s : Parts) (hits one two three : List Hit) → ArePartsOf m q s → AreDistinct (items_of m)
    → one ≡ take k (put_all (candidates (items_of s.near.now) q r) hits)
    → two ≡ take k (put_all (candidates (item_of s.top.now ∷ []) q r) one)
    → three ≡ take k (put_all (candidates (items_of s.far.now) q r) two)
    → three ≡ take k (put_all (candidates (items_of m) q r) hits)
all_parts k q r m s hits one two three p d e f g =
    near_first k q r (item_of s.top.now) (items_of s.near.now) (items_of s.far.now) p.others (items_of m) hits one two three d p.items p.turned e f g

-- the near side alone, where the gap is beyond the bound
pub near_alone : (k : ℕ) (q : Place) (r : Option ℕ) (m : List Cell) (s : Parts) (hits one : List Hit) (bound gap : ℕ) → ArePartsOf m q s → AreDistinct (items_of m)
    → IsBound k r one bound → bound < gap → gap < 2 ^ 128 → gap ≡ plane_gap2 s.top.now q → one ≡ take k (put_all (candidates (items_of s.near.now) q r) hits)
    → one ≡ take k (put_all (candidates (items_of m) q r) hits)
near_alone k q r m s hits one bound gap p d b beyond fits is e =
    let Far = λ (i : Item). gap ≤ dist2 q i.point in
    let own : AreAway gap q (item_of s.top.now ∷ []) = All-cons Far (item_of s.top.now) [] (rw is p.top) (All-nil Far) in
    let away : AreAway gap q (items_of s.far.now) = rw is p.away in
    all_parts k q r m s hits one one one p d e
    (left_out k q r one bound gap (item_of s.top.now ∷ []) b beyond fits own)
    (left_out k q r one bound gap (items_of s.far.now) b beyond fits away)

-- of a leaf, one cell more
pub next_cell : (k : ℕ) (q : Place) (r : Option ℕ) (m : List Cell) (n : ℕ) (c : Cell) (hits one two : List Hit) → AreDistinct (items_of m) → n < length m → c ≡ get_or m n c
    → one ≡ take k (put_all (candidates (items_of (take n m)) q r) hits) → two ≡ take k (put_all (candidates (item_of c ∷ []) q r) one)
    → two ≡ take k (put_all (candidates (items_of (take (n + 1) m)) q r) hits)
next_cell k q r m n c hits one two d lt is e f =
    let next : items_of (take (n + 1) m) ≡ items_of (take n m) ++ item_of c ∷ [] =
    ap items_of (take_more m n c lt) ∙ map-append item_of (take n m) (get_or m n c ∷ []) ∙ ap (λ z. items_of (take n m) ++ item_of z ∷ []) (sym is) in
    let whole : items_of (take (n + 1) m) ++ items_of (drop (n + 1) m) ≡ items_of m = sym (map-append item_of (take (n + 1) m) (drop (n + 1) m)) ∙ ap items_of (take-append-drop (n + 1) m) in
    let once : AreDistinct (items_of (take n m) ++ item_of c ∷ []) = subst AreDistinct next (front_once (items_of (take (n + 1) m)) (items_of (drop (n + 1) m)) (subst AreDistinct (sym whole) d)) in
    one_more k q r (item_of c) (items_of (take n m)) hits one two once e f ∙ ap (λ z. take k (put_all (candidates z q r) hits)) (sym next)
