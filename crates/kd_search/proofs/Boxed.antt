-- The live items in a box.
use Rattle.std.proofs.Common.{◌≡◌, ◌+◌, arith, Bool, true, false, cond, List, [], ◌∷◌, ◌++◌, length, refl, sym, ap, ◌∙◌, length-append}
use Rattle.std.specs.Prelude.{filter}
use Rattle.std.proofs.lemmas.Bool.{false_from_ne_true, cond-true, cond-false}
use Rattle.std.proofs.lemmas.List.Elements.{filter-append}
use Rattle.std.proofs.lemmas.List.Sorted.{length_permutation}
use Rattle.point_geom.specs.Place.{Bounds, Span}
use Rattle.point_geom.specs.Boxes.{holds}
use Rattle.point_geom.specs.Extents.{covers, meets}
use Rattle.point_geom.proofs.Laws.{held_meets, covered_held}
use Rattle.node_labels.specs.Labels.{is_live}
use Rattle.map_items.specs.declared.item.Item.{Item}
use Rattle.map_items.specs.Contents.{in_box, kept, live_items}
use Rattle.map_fold.specs.Answers.{inside_all, count}
use Rattle.kd_tree.specs.Contents.{by_number}
use Rattle.kd_tree.proofs.Numbered.{by_number-filter, by_number_moves}
use Rattle.kd_search.specs.Points.{AreIn}
use Rattle.kd_search.proofs.Walks.{first_in, rest_in, live-kept, live-append}

pub inside-append : (c : Bounds) (xs ys : List Item) → inside_all (xs ++ ys) c ≡ inside_all xs c ++ inside_all ys c
inside-append c xs ys = ap (filter (in_box c)) (live-append xs ys) ∙ filter-append (in_box c) (live_items xs) (live_items ys)

-- a node's item and what is in its children
pub inside-top : (c : Bounds) (i : Item) (left right : List Item) → inside_all (kept (i ∷ []) ++ (left ++ right)) c ≡ inside_all (i ∷ []) c ++ (inside_all left c ++ inside_all right c)
inside-top c i left right =
    inside-append c (kept (i ∷ [])) (left ++ right)
    ∙ ap (λ z. filter (in_box c) z ++ inside_all (left ++ right) c) (live-kept i)
    ∙ ap (λ z. inside_all (i ∷ []) c ++ z) (inside-append c left right)

-- what a box doesn't meet holds nothing in it
pub inside_missed : (c : Bounds) (e : Span) (xs : List Item) → AreIn e xs → meets c e ≡ false → inside_all xs c ≡ []
inside_missed c e [] h m = refl
inside_missed c e (x ∷ xs) h m = by_live (is_live x.label) (inside_missed c e xs (rest_in e x xs h) m)
  where
    out : holds c x.point ≡ false
    out = false_from_ne_true _ (λ held. absurd (cc (held_meets c e x.point held (first_in e x xs h))))

    by_live : (b : Bool) → inside_all xs c ≡ [] → filter (in_box c) (cond b (x ∷ live_items xs) (live_items xs)) ≡ []
    by_live true rest = cond-false (holds c x.point) _ _ out ∙ rest
    by_live false rest = rest

-- of what a box covers all live items are in it
pub inside_covered : (c : Bounds) (e : Span) (xs : List Item) → AreIn e xs → covers c e ≡ true → inside_all xs c ≡ live_items xs
inside_covered c e [] h m = refl
inside_covered c e (x ∷ xs) h m = by_live (is_live x.label) (inside_covered c e xs (rest_in e x xs h) m)
  where
    held : holds c x.point ≡ true
    held = covered_held c e x.point m (first_in e x xs h)

    by_live : (b : Bool) → inside_all xs c ≡ live_items xs → filter (in_box c) (cond b (x ∷ live_items xs) (live_items xs)) ≡ cond b (x ∷ live_items xs) (live_items xs)
    by_live true rest = cond-true (holds c x.point) _ _ held ∙ ap (λ ys. x ∷ ys) rest
    by_live false rest = rest

-- to put items in order doesn't change which are in the box
pub inside-by_number : (c : Bounds) (xs : List Item) → inside_all (by_number xs) c ≡ by_number (inside_all xs c)
inside-by_number c xs =
    ap (filter (in_box c)) (sym (by_number-filter (λ i. is_live i.label) xs)) ∙ sym (by_number-filter (in_box c) (live_items xs))

-- nor how many
pub count-by_number : (c : Bounds) (xs : List Item) → count (by_number xs) c ≡ count xs c
count-by_number c xs = ap length (inside-by_number c xs) ∙ length_permutation (inside_all xs c) (by_number (inside_all xs c)) (by_number_moves (inside_all xs c))

-- those at the top and in the children together
pub count-top : (c : Bounds) (i : Item) (left right : List Item) → count (kept (i ∷ []) ++ (left ++ right)) c ≡ count (i ∷ []) c + count left c + count right c
count-top c i left right =
    let whole = ap length (inside-top c i left right) in
    omega (arith, whole, length-append (inside_all (i ∷ []) c) (inside_all left c ++ inside_all right c), length-append (inside_all left c) (inside_all right c))
