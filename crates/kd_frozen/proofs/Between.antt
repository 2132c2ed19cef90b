-- Cells of which no number is twice: sides of a segment, and what a leaf's next cell gives.
use Rattle.std.proofs.Common.{◌≡◌, ℕ, ◌+◌, ◌≤◌, inl, inr, true, false, cond, List, [], ◌∷◌, ◌++◌, take, refl, sym, ap, ◌∙◌, arith, Option}
use Rattle.std.specs.Prelude.{◌==◌, not, sum_by}
use Rattle.std.proofs.lemmas.List.{take-take}
use Rattle.std.proofs.lemmas.List.Sums.{sum_by-append, sum_by-cons}
use Rattle.point_geom.specs.Place.{Place}
use Rattle.node_labels.specs.Labels.{is_dropped}
use Rattle.map_items.specs.declared.item.Item.{Item}
use Rattle.map_items.specs.Contents.{kept}
use Rattle.map_fold.specs.declared.hits.Hit.{Hit}
use Rattle.map_fold.specs.Answers.{candidates}
use Rattle.kd_tree.specs.Contents.{AreDistinct}
use Rattle.kd_search.specs.Nearest.{put_all}
use Rattle.kd_search.specs.Sides.{IsEitherWay}
use Rattle.kd_search.proofs.Others.{HitsApart, candidates_apart, three_of}
use Rattle.kd_search.proofs.Offered.{candidates-append, candidates-top, near_first, put_all-append, put_all-put_all}

-- no number is twice in a prefix
pub front_once : (xs ys : List Item) → AreDistinct (xs ++ ys) → AreDistinct xs
front_once xs ys k = record { once = λ n. let g : Item → ℕ = λ w. cond (n == w.number) 1 0 in omega (arith, sum_by-append g xs ys, k.once n) }

kept_fewer : (g : Item → ℕ) (i : Item) → sum_by g (kept (i ∷ [])) ≤ g i
kept_fewer g i =
    elim (is_dropped i.label) as (λ b. sum_by g (cond (not b) (i ∷ []) []) ≤ g i) [
      | true ↦ omega arith
      | false ↦ omega (arith, sum_by-cons g i [])
    ]

front_distinct : (left right : List Item) (i : Item) → AreDistinct (left ++ i ∷ right) → AreDistinct (kept (i ∷ []) ++ (left ++ right))
front_distinct left right i k = record {
  once = λ n.
      let g : Item → ℕ = λ w. cond (n == w.number) 1 0 in
      omega (arith, sum_by-append g left (i ∷ right), sum_by-cons g i right, sum_by-append g (kept (i ∷ [])) (left ++ right), sum_by-append g left right, kept_fewer g i, k.once n);
}

fewer : (others one other : List Item) (i : Item) (n : ℕ) → AreDistinct (i ∷ others) → others ≡ one ++ other
    → sum_by (λ w. cond (n == w.number) 1 0) one + sum_by (λ w. cond (n == w.number) 1 0) other ≤ 1
fewer others one other i n k e =
    let g : Item → ℕ = λ w. cond (n == w.number) 1 0 in
    omega (arith, sum_by-cons g i others, ap (sum_by g) e, sum_by-append g one other, k.once n)

-- no number is twice on one side
pub near_distinct : (others near far : List Item) (i : Item) → AreDistinct (i ∷ others) → IsEitherWay others near far → AreDistinct near
near_distinct others near far i k (inl e) = record { once = λ n. omega (arith, fewer others near far i n k e) }
near_distinct others near far i k (inr e) = record { once = λ n. omega (arith, fewer others far near i n k e) }

pub far_distinct : (others near far : List Item) (i : Item) → AreDistinct (i ∷ others) → IsEitherWay others near far → AreDistinct far
far_distinct others near far i k (inl e) = record { once = λ n. omega (arith, fewer others near far i n k e) }
far_distinct others near far i k (inr e) = record { once = λ n. omega (arith, fewer others far near i n k e) }

moved : (q : Place) (r : Option ℕ) (i : Item) (left right : List Item) (hits : List Hit)
    → AreDistinct (kept (i ∷ []) ++ (left ++ right))
    → put_all (candidates (kept (i ∷ []) ++ (left ++ right)) q r) hits
    ≡ put_all (candidates (left ++ i ∷ right) q r) hits
moved q r i left right hits d =
    let own = candidates (i ∷ []) q r in
    let one = candidates left q r in
    let other = candidates right q r in
    let t = three_of i left right (left ++ right) (kept (i ∷ []) ++ (left ++ right)) d refl (inl refl) in
    let apart : HitsApart own one = candidates_apart q r (i ∷ []) left t.item_one in
    ap (λ z. put_all z hits) (candidates-top q r i left right)
    ∙ put_all-append own (one ++ other) hits ∙ ap (put_all own) (put_all-append one other hits)
    ∙ put_all-put_all own one (put_all other hits) apart
    ∙ ap (put_all one) (sym (put_all-append own other hits))
    ∙ sym (put_all-append one (own ++ other) hits)
    ∙ ap (λ z. put_all (one ++ z) hits) (sym (candidates-append q r (i ∷ []) right))
    ∙ ap (λ z. put_all z hits) (sym (candidates-append q r left (i ∷ right)))

-- one item more, after the others
pub one_more : (k : ℕ) (q : Place) (r : Option ℕ) (i : Item) (m : List Item) (hits one two : List Hit) → AreDistinct (m ++ i ∷ [])
    → one ≡ take k (put_all (candidates m q r) hits) → two ≡ take k (put_all (candidates (i ∷ []) q r) one)
    → two ≡ take k (put_all (candidates (m ++ i ∷ []) q r) hits)
one_more k q r i m hits one two d e f =
    let front = front_distinct m [] i d in
    let same : two ≡ take k two = f ∙ sym (take-take k k (put_all (candidates (i ∷ []) q r) one) (omega arith)) ∙ ap (take k) (sym f) in
    near_first k q r i m [] (m ++ []) (kept (i ∷ []) ++ (m ++ [])) hits one two two front refl (inl refl) e f same ∙ ap (take k) (moved q r i m [] hits front)
