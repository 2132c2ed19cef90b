-- The best item of a list.
use Rattle.std.proofs.Common.{◌≡◌, inl, true, false, cond, List, [], ◌∷◌, ◌++◌, refl, sym, ap, ◌∙◌, subst, Option, Some, None}
use Rattle.std.specs.Prelude.{IfSome, IsNone, ◌↔◌}
use Rattle.point_geom.specs.Place.{Bounds}
use Rattle.map_items.specs.declared.item.Item.{Item}
use Rattle.map_items.specs.Contents.{centre_cmp, comes_before, least, live_items, in_box, kept, Member}
use Rattle.map_fold.specs.Answers.{inside_all}
use Rattle.map_fold.proofs.Centre.{least_first, least_member, one_best}
use Rattle.map_fold.proofs.Found.{member-filter, member-filter_of}
use Rattle.map_fold.proofs.Thinning.{inside_is}
use Rattle.kd_tree.specs.Contents.{AreDistinct, by_number}
use Rattle.kd_tree.proofs.Numbered.{numbered_from, numbered_in, one_item}
use Rattle.kd_search.specs.Best.{best_of, best_inside, IsBest, better, best_from}
use Rattle.kd_search.proofs.Boxed.{inside-by_number, inside-top}

-- the best of two lists, one after the other
pub best_from-append : (c : Bounds) (best : Option Item) (xs ys : List Item) → best_from c best (xs ++ ys) ≡ best_from c (best_from c best xs) ys
best_from-append c best [] ys = refl
best_from-append c best (x ∷ xs) ys = best_from-append c (better c best x) xs ys

best_from-some : (c : Bounds) (i : Item) (m : List Item) → best_from c (Some i) m ≡ Some (least (centre_cmp c) i m)
best_from-some c i [] = refl
best_from-some c i (j ∷ m) = elim (comes_before c j i) as (λ b. best_from c (cond b (Some j) (Some i)) m ≡ Some (least (centre_cmp c) (cond b j i) m)) [
  | true ↦ best_from-some c j m
  | false ↦ best_from-some c i m
]

-- from nothing, it is the least item
pub best_from-none : (c : Bounds) (m : List Item) → best_from c None m ≡ best_of c m
best_from-none c [] = refl
best_from-none c (i ∷ m) = best_from-some c i m

-- the same live items in another order have the same best
pub best_of_same : (c : Bounds) (xs ys : List Item) → ((i : Item) → Member i xs → Member i ys)
    → ((i : Item) → Member i ys → Member i xs)
    → ((i j : Item) → Member i xs → Member j xs → i.number ≡ j.number → i ≡ j) → best_of c xs ≡ best_of c ys
best_of_same c [] [] to back once = refl
best_of_same c [] (y ∷ ys) to back once = absurd (back y (inl refl))
best_of_same c (x ∷ xs) [] to back once = absurd (to x (inl refl))
best_of_same c (x ∷ xs) (y ∷ ys) to back once =
    let i = least (centre_cmp c) x xs in
    let j = least (centre_cmp c) y ys in
    let here = least_member c x xs in
    let there = back j (least_member c y ys) in
    ap (λ (w : Item). Some w) (once i j here there (one_best c i j (least_first c y ys i (to i here)) (least_first c x xs j there)))

-- to put items in order changes no best
pub best-by_number : (c : Bounds) (m : List Item) → AreDistinct m → best_inside (by_number m) c ≡ best_inside m c
best-by_number c m distinct =
    ap (best_of c) (inside-by_number c m)
    ∙ sym (best_of_same c (inside_all m c) (by_number (inside_all m c)) (λ i. numbered_in i (inside_all m c)) (λ i. numbered_from i (inside_all m c))
    (λ i j n o. one_item m i j distinct (inside_is c m i n).0 (inside_is c m j o).0))

-- the best of the live items in the box is what its name says
pub best_is : (m : List Item) (c : Bounds) → IfSome (best_inside m c) (IsBest m c)
best_is m c = by_list (inside_all m c) refl
  where
    by_list : (xs : List Item) → inside_all m c ≡ xs → IfSome (best_of c xs) (IsBest m c)
    by_list [] e = tt
    by_list (x ∷ xs) e =
        let i = least (centre_cmp c) x xs in
        let is = member-filter (in_box c) i (live_items m) (subst (Member i) (sym e) (least_member c x xs)) in
        record {
          live = is.0;
          held = is.1;
          first = λ j n held. least_first c x xs j (subst (Member j) e (member-filter_of (in_box c) j (live_items m) n held));
        }

-- there is none exactly where no live item is in the box
pub best_none : (m : List Item) (c : Bounds) → IsNone (best_inside m c) ↔ (inside_all m c ≡ [])
best_none m c = by_list (inside_all m c)
  where
    by_list : (xs : List Item) → IsNone (best_of c xs) ↔ (xs ≡ [])
    by_list [] = ((λ h. refl), λ e. refl)
    by_list (x ∷ xs) = ((λ h. absurd (cc)), λ e. absurd (cc))

-- a node's item and then both children, one after the other
pub best_in_turn : (c : Bounds) (i : Item) (left right whole : List Item) (best one two three : Option Item) → whole ≡ kept (i ∷ []) ++ (left ++ right)
    → one ≡ best_from c best (inside_all (i ∷ []) c) → two ≡ best_from c one (inside_all left c) → three ≡ best_from c two (inside_all right c)
    → three ≡ best_from c best (inside_all whole c)
best_in_turn c i left right whole best one two three all e f g =
    g ∙ ap (λ z. best_from c z (inside_all right c)) f ∙ sym (best_from-append c one (inside_all left c) (inside_all right c))
    ∙ ap (λ z. best_from c z (inside_all left c ++ inside_all right c)) e
    ∙ sym (best_from-append c best (inside_all (i ∷ []) c) (inside_all left c ++ inside_all right c))
    ∙ ap (best_from c best) (sym (ap (λ m. inside_all m c) all ∙ inside-top c i left right))
