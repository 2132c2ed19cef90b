-- What is sought of a list.
use Rattle.std.proofs.Common.{◌≡◌, ℕ, ◌<◌, ◌≤◌, ◌&&◌, Bool, true, false, not, cond, List, [], ◌∷◌, ◌++◌, All, filter, length, take, refl, ap, sym, ◌∙◌, arith, ◌==◌}
use Rattle.std.specs.Prelude.{nat_le}
use Rattle.std.specs.List.{AllByRecursion}
use Rattle.std.proofs.lemmas.Bool.Decides.{nat_tests}
use Rattle.std.proofs.lemmas.List.Elements.{recursion_from_All}
use Rattle.std.proofs.lemmas.List.Filters.{sum_by-filter_both}
use Rattle.point_geom.specs.Place.{Bounds, Place, Span}
use Rattle.point_geom.specs.Extents.{IsIn}
use Rattle.node_labels.specs.Labels.{is_live, keep_tag}
use Rattle.node_labels.specs.declared.tag.Tag.{Tag}
use Rattle.map_items.specs.declared.item.Item.{Item}
use Rattle.map_items.specs.Contents.{in_box, is_above}
use Rattle.map_fold.specs.Answers.{inside_all}
use Rattle.map_fold.specs.Neighbours.{is_near, near}
use Rattle.kd_tree.specs.Shape.{Shape, numbers}
use Rattle.kd_tree.specs.Walk.{extent, walk}
use Rattle.kd_tree.specs.Sound.{IsSound}
use Rattle.kd_tree.specs.Contents.{AreDistinct, by_number, contents}
use Rattle.kd_tree.proofs.Actions.{sound_once}
use Rattle.kd_tree.proofs.Contents.{once_walk}
use Rattle.kd_tree.proofs.Extents.{extent_fits, walk_in}
use Rattle.kd_tree.proofs.Held.{contents_rise, walk_numbers}
use Rattle.kd_tree.proofs.Numbered.{Above, Rises, by_number-filter}
use Rattle.item_lists.specs.Listed.{numbered_from}
use Rattle.item_lists.specs.Sought.{has, wanted}
use Rattle.item_lists.specs.declared.sought.Sought.{Sought}
use Rattle.item_lists.specs.declared.sought.Sought.TheVariants.{Held, InBox, InBall}
use Rattle.std.specs.Prelude.{Option, Some, None, nat_lt}
use Rattle.std.proofs.lemmas.List.{length-take, take-append-le}

-- what fails the test of the last number fails all
never : (a b : Bool) → (a && (b && false)) ≡ false
never true true = refl
never true false = refl
never false b = refl

later : (a : Bool) → (a && false) ≡ false
later true = refl
later false = refl

none_before : (from most : ℕ) (b : Option ℕ) (s : Sought) (m : List Item) → most < from → AllByRecursion (λ i. i.number ≤ most) m → wanted from b s m ≡ []
none_before from most b s [] lt k = refl
none_before from most b s (i ∷ m) lt k =
    let low : nat_le from i.number ≡ false = grind (arith, nat_tests, k.0) in
    let out : (is_above b i.number && (has s i && nat_le from i.number)) ≡ false = rw low (never (is_above b i.number) (has s i)) in
    rw out (none_before from most b s m lt k.1)

-- a tree whose numbers are all below has none
pub numbered_before : (from most : ℕ) (b : Option ℕ) (s : Sought) (a : Tag) (t : Shape) → most < from → All (λ n. n ≤ most) (numbers t) → wanted from b s (walk a t) ≡ []
numbered_before from most b s a t lt k =
    none_before from most b s (walk a t) lt
    (recursion_from_All (λ (i : Item). i.number ≤ most) (walk a t) (walk_numbers (λ n. n ≤ most) a t (recursion_from_All (λ n. n ≤ most) (numbers t) k)))

-- a number from one on that isn't below the bound isn't either
not_above : (b : Option ℕ) (n k : ℕ) → is_above b n ≡ false → n ≤ k → is_above b k ≡ false
not_above None n k e le = absurd (cc e)
not_above (Some bound) n k e le = grind (arith, nat_tests, e, le)

none_beyond : (from least : ℕ) (b : Option ℕ) (s : Sought) (m : List Item) → is_above b least ≡ false → AllByRecursion (λ i. least ≤ i.number) m → wanted from b s m ≡ []
none_beyond from least b s [] e k = refl
none_beyond from least b s (i ∷ m) e k =
    let out : is_above b i.number ≡ false = not_above b least i.number e k.0 in
    rw out (none_beyond from least b s m e k.1)

-- nor has one whose numbers are all from the bound on
pub numbered_beyond : (from least : ℕ) (b : Option ℕ) (s : Sought) (a : Tag) (t : Shape) → is_above b least ≡ false → All (λ n. least ≤ n) (numbers t) → wanted from b s (walk a t) ≡ []
numbered_beyond from least b s a t e k =
    none_beyond from least b s (walk a t) e
    (recursion_from_All (λ (i : Item). least ≤ i.number) (walk a t) (walk_numbers (λ n. least ≤ n) a t (recursion_from_All (λ n. least ≤ n) (numbers t) k)))

none_there : (from : ℕ) (b : Option ℕ) (s : Sought) (e : Span) (m : List Item) → ((i : Item) → IsIn e i.point → has s i ≡ false) → AllByRecursion (λ i. IsIn e i.point) m → wanted from b s m ≡ []
none_there from b s e [] out k = refl
none_there from b s e (i ∷ m) out k =
    let no : has s i ≡ false = out i k.0 in
    let none : (is_above b i.number && (has s i && nat_le from i.number)) ≡ false = rw no (later (is_above b i.number)) in
    rw none (none_there from b s e m out k.1)

-- a tree that lies where nothing is sought has none
pub lies_apart : (from : ℕ) (b : Option ℕ) (s : Sought) (e : Span) (a : Tag) (t : Shape) → Some e ≡ extent t → ((i : Item) → IsIn e i.point → has s i ≡ false) → wanted from b s (walk a t) ≡ []
lies_apart from b s e a t is out =
    none_there from b s e (walk a t) out (recursion_from_All (λ (i : Item). IsIn e i.point) (walk a t) (walk_in a t e (extent_fits t e (sym is))))

at_least : (n : ℕ) (m : List Item) → Above n m → AllByRecursion (λ i. n ≤ i.number) m
at_least n [] h = tt
at_least n (j ∷ m) h = (omega (arith, h.0), at_least n m h.1)

one_more : (c : Bool) (i : Item) (xs ys rest : List Item) → xs ≡ ys ++ rest → cond c (i ∷ xs) xs ≡ cond c (i ∷ ys) ys ++ rest
one_more true i xs ys rest e = ap (λ z. i ∷ z) e
one_more false i xs ys rest e = e

-- Where the numbers rise, what is below a bound is a prefix of the whole.
front_of : (from bound : ℕ) (s : Sought) (m : List Item) → Rises m → (rest : List Item) × (wanted from None s m ≡ wanted from (Some bound) s m ++ rest)
front_of from bound s [] k = ([], refl)
front_of from bound s (i ∷ m) k = by_bound (nat_lt i.number bound) refl (front_of from bound s m k.1)
  where
    by_bound : (c : Bool) → nat_lt i.number bound ≡ c → ((rest : List Item) × (wanted from None s m ≡ wanted from (Some bound) s m ++ rest))
        → (rest : List Item) × (wanted from None s (i ∷ m) ≡ wanted from (Some bound) s (i ∷ m) ++ rest)
    by_bound true e rest = (rest.0, rw e (one_more (has s i && nat_le from i.number) i (wanted from None s m) (wanted from (Some bound) s m) rest.0 rest.1))
    by_bound false e rest =
        let none : wanted from (Some bound) s m ≡ [] = none_beyond from i.number (Some bound) s m e (at_least i.number m k.0) in
        (wanted from None s (i ∷ m), rw (e, none) refl)

-- where there is enough below the bound, the first of it are the first of all
pub enough : (from bound : ℕ) (s : Sought) (most : ℕ) (t : Shape) (page : List Item) → IsSound t → page ≡ take most (wanted from (Some bound) s (contents t)) → length page ≡ most
    → page ≡ take most (wanted from None s (contents t))
enough from bound s most t page sound e long =
    let part = wanted from (Some bound) s (contents t) in
    let rest = front_of from bound s (contents t) (contents_rise t sound) in
    let many : most ≤ length part = omega (arith, ap length e, long, length-take most part) in
    e ∙ sym (ap (take most) rest.1 ∙ take-append-le most part rest.0 many)

-- what passes two tests, one after the other
both_tests : (p q : Item → Bool) (m : List Item) → filter p (filter q m) ≡ filter (λ i. q i && p i) m
both_tests p q [] = refl
both_tests p q (i ∷ m) = by_first (q i) (both_tests p q m)
  where
    by_first : (b : Bool) → filter p (filter q m) ≡ filter (λ i. q i && p i) m
        → filter p (cond b (i ∷ filter q m) (filter q m))
        ≡ cond (b && p i) (i ∷ filter (λ i. q i && p i) m) (filter (λ i. q i && p i) m)
    by_first true k = ap (λ z. cond (p i) (i ∷ z) z) k
    by_first false k = k

pub wanted-held : (from : ℕ) (m : List Item) → wanted from None Held m ≡ numbered_from from m
wanted-held from m = refl

pub wanted-box : (from : ℕ) (c : Bounds) (m : List Item) → wanted from None (InBox c) m ≡ numbered_from from (inside_all m c)
wanted-box from c m =
    sym (ap (numbered_from from) (both_tests (in_box c) (λ i. is_live i.label) m) ∙ both_tests (λ i. nat_le from i.number) (λ i. is_live i.label && in_box c i) m)

pub wanted-near : (from : ℕ) (q : Place) (d : ℕ) (m : List Item) → wanted from None (InBall q d) m ≡ numbered_from from (near m q d)
wanted-near from q d m =
    sym (ap (numbered_from from) (both_tests (is_near q d) (λ i. is_live i.label) m) ∙ both_tests (λ i. nat_le from i.number) (λ i. is_live i.label && is_near q d i) m)

-- no number occurs twice among those that pass a test
distinct_filter : (p : Item → Bool) (m : List Item) → AreDistinct m → AreDistinct (filter p m)
distinct_filter p m k = record { once = λ n. omega (arith, k.once n, sum_by-filter_both p (λ i. not (p i)) (λ _. refl) (λ (i : Item). cond (n == i.number) 1 0) m) }

pub distinct_wanted : (from : ℕ) (b : Option ℕ) (s : Sought) (t : Shape) → IsSound t → AreDistinct (wanted from b s (walk keep_tag t))
distinct_wanted from b s t sound = distinct_filter (λ i. is_above b i.number && (has s i && nat_le from i.number)) (walk keep_tag t) (once_walk t (sound_once t sound))

-- what is sought of the contents is what is sought of the walk, by number
pub wanted-by_number : (from : ℕ) (b : Option ℕ) (s : Sought) (t : Shape) → by_number (wanted from b s (walk keep_tag t)) ≡ wanted from b s (contents t)
wanted-by_number from b s t = by_number-filter (λ i. is_above b i.number && (has s i && nat_le from i.number)) (walk keep_tag t)
