-- A box of all cells.
use Rattle.std.proofs.Common.{◌≡◌, ℕ, ◌+◌, ◌^◌, ◌<◌, List, [], ◌∷◌, ◌++◌, get_or, length, take, sym, ap, ◌∙◌, subst}
use Rattle.std.proofs.lemmas.List.{map_more}
use Rattle.std.proofs.lemmas.List.Elements.{All-append, All-cons, All-nil, All-weaker}
use Rattle.point_geom.specs.Place.{Place, Span}
use Rattle.point_geom.specs.Distances.{dist2}
use Rattle.point_geom.specs.Extents.{IsIn, joined_span, spot}
use Rattle.point_geom.proofs.Laws.{in_part, join_left, join_right, spot_in}
use Rattle.map_items.specs.declared.item.Item.{Item}
use Rattle.kd_search.specs.Points.{AreIn}
use Rattle.kd_frozen.specs.declared.cell.Cell.{Cell}
use Rattle.kd_frozen.specs.Cells.{item_of, items_of}
use Rattle.kd_frozen.specs.Close.{AreClose}

wider : (a b : Span) (m : List Item) → ((p : Place) → IsIn a p → IsIn b p) → AreIn a m → AreIn b m
wider a b m f h = All-weaker (λ (i : Item). IsIn a i.point) (λ (i : Item). IsIn b i.point) (λ i inside. f i.point inside) m h

-- one cell more
pub hull_grown : (hull new : Span) (m : List Cell) (n : ℕ) (c : Cell) → n < length m → c ≡ get_or m n c → new ≡ joined_span hull (spot c.point) → AreIn hull (items_of (take n m)) → AreIn new (items_of (take (n + 1) m))
hull_grown hull new m n c lt is e h =
    let In = λ (i : Item). IsIn new i.point in
    let old : AreIn new (items_of (take n m)) = wider hull new (items_of (take n m)) (λ p inside. rw e (in_part hull (joined_span hull (spot c.point)) p (join_left hull (spot c.point)) inside)) h in
    let own : IsIn new c.point = rw e (in_part (spot c.point) (joined_span hull (spot c.point)) c.point (join_right hull (spot c.point)) (spot_in c.point)) in
    let next : items_of (take (n + 1) m) ≡ items_of (take n m) ++ item_of c ∷ [] = map_more item_of m n c lt ∙ ap (λ z. items_of (take n m) ++ item_of z ∷ []) (sym is) in
    subst (AreIn new) (sym next) (All-append In (items_of (take n m)) (item_of c ∷ []) old (All-cons In (item_of c) [] own (All-nil In)))

pub hull_keeps : (hull new : Span) (p q : Place) → new ≡ joined_span hull (spot q) → IsIn hull p → IsIn new p
hull_keeps hull new p q e inside = rw e (in_part hull (joined_span hull (spot q)) p (join_left hull (spot q)) inside)

-- what is in a box of which no point is too far
pub hull_close : (hull : Span) (q : Place) (m : List Item) → ((p : Place) → IsIn hull p → dist2 q p < 2 ^ 64) → AreIn hull m → AreClose q m
hull_close hull q m f h = All-weaker (λ (i : Item). IsIn hull i.point) (λ (i : Item). dist2 q i.point < 2 ^ 64) (λ i inside. f i.point inside) m h
