-- Live items of a tree.
use Rattle.std.proofs.Common.{◌≡◌, ℕ, Bool, true, false, cond, List, [], ◌∷◌, ◌++◌, refl, sym, ap, ◌∙◌, arith, Option}
use Rattle.std.specs.Prelude.{◌==◌, not, filter}
use Rattle.std.proofs.lemmas.List.{append_assoc}
use Rattle.std.proofs.lemmas.List.Filters.{sum_by-filter_both}
use Rattle.point_geom.specs.Place.{Place, Bounds}
use Rattle.node_labels.specs.Labels.{is_live, keep_tag}
use Rattle.map_items.specs.declared.item.Item.{Item}
use Rattle.map_items.specs.Contents.{in_box, kept, live_items}
use Rattle.map_fold.specs.Answers.{inside_all, nearest}
use Rattle.kd_tree.specs.Shape.{Shape}
use Rattle.kd_tree.specs.Walk.{walk}
use Rattle.kd_tree.specs.Sound.{IsSound}
use Rattle.kd_tree.specs.Contents.{AreDistinct, by_number, contents}
use Rattle.kd_tree.proofs.Actions.{sound_once}
use Rattle.kd_tree.proofs.Contents.{once_walk}
use Rattle.kd_tree.proofs.Numbered.{by_number-filter}
use Rattle.kd_search.proofs.Boxed.{inside-by_number}
use Rattle.kd_frozen.specs.declared.cell.Cell.{Cell}
use Rattle.kd_frozen.specs.Cells.{items_of}
use Rattle.kd_search.proofs.Walks.{live-append, live-kept}

-- a node's item and those of its sides
pub live-top : (i : Item) (left right : List Item) → live_items (kept (i ∷ []) ++ (left ++ right)) ≡ live_items (i ∷ []) ++ (live_items left ++ live_items right)
live-top i left right =
    live-append (kept (i ∷ [])) (left ++ right) ∙ ap (λ z. z ++ live_items (left ++ right)) (live-kept i)
    ∙ ap (λ z. live_items (i ∷ []) ++ z) (live-append left right)

-- the live ones among the live are all of them
pub live_twice : (m : List Item) → live_items (live_items m) ≡ live_items m
live_twice [] = refl
live_twice (i ∷ m) = by_live (is_live i.label) refl (live_twice m)
  where
    by_live : (b : Bool) → is_live i.label ≡ b → live_items (live_items m) ≡ live_items m → live_items (cond b (i ∷ live_items m) (live_items m)) ≡ cond b (i ∷ live_items m) (live_items m)
    by_live true e k = rw e (ap (λ z. i ∷ z) k)
    by_live false e k = k

-- a search looks at them alone
pub nearest-live : (m : List Item) (k : ℕ) (q : Place) (r : Option ℕ) → nearest (live_items m) k q r ≡ nearest m k q r
nearest-live m k q r = rw (live_twice m) refl

-- no number is twice among those that pass a test
pub distinct_filter : (p : Item → Bool) (m : List Item) → AreDistinct m → AreDistinct (filter p m)
distinct_filter p m k = record { once = λ n. omega (arith, k.once n, sum_by-filter_both p (λ i. not (p i)) (λ _. refl) (λ (i : Item). cond (n == i.number) 1 0) m) }

pub live_distinct : (t : Shape) → IsSound t → AreDistinct (live_items (walk keep_tag t))
live_distinct t sound = distinct_filter (λ i. is_live i.label) (walk keep_tag t) (once_walk t (sound_once t sound))

pub inside_distinct : (c : Bounds) (t : Shape) → IsSound t → AreDistinct (inside_all (walk keep_tag t) c)
inside_distinct c t sound = distinct_filter (in_box c) (live_items (walk keep_tag t)) (live_distinct t sound)

-- a node's items after the old ones, and then those of its sides
pub gathered : (old own one other whole first second new : List Item) → whole ≡ own ++ (one ++ other) → first ≡ old ++ own → second ≡ first ++ one → new ≡ second ++ other → new ≡ old ++ whole
gathered old own one other whole first second new all e f g =
    g ∙ ap (λ z. z ++ other) (f ∙ ap (λ z. z ++ one) e) ∙ append_assoc (old ++ own) one other ∙ append_assoc old own (one ++ other) ∙ ap (λ z. old ++ z) (sym all)

-- what was gathered, by number
pub live_contents : (t : Shape) (m : List Item) → m ≡ live_items (walk keep_tag t) → by_number m ≡ live_items (contents t)
live_contents t m e = ap by_number e ∙ by_number-filter (λ i. is_live i.label) (walk keep_tag t)

pub inside_contents : (c : Bounds) (t : Shape) (m : List Item) → m ≡ inside_all (walk keep_tag t) c → by_number m ≡ inside_all (contents t) c
inside_contents c t m e = ap by_number e ∙ sym (inside-by_number c (walk keep_tag t))

-- cells that were gathered after none
pub from_nothing : (old new : List Cell) (m : List Item) → old ≡ [] → items_of new ≡ items_of old ++ m → items_of new ≡ m
from_nothing old new m none e = e ∙ ap (λ z. items_of z ++ m) none
