-- Lists of items with different numbers, and their candidates.
use Rattle.std.proofs.Common.{◌≡◌, ℕ, ◌≤◌, inl, inr, cond, List, [], ◌∷◌, ◌++◌, refl, sym, ap, ◌∙◌, subst, arith, Option}
use Rattle.std.specs.Prelude.{◌==◌}
use Rattle.std.proofs.lemmas.List.Sums.{sum_by-append}
use Rattle.point_geom.specs.Place.{Place}
use Rattle.node_labels.specs.Labels.{is_live, keep_tag}
use Rattle.node_labels.specs.declared.tag.Tag.{Tag}
use Rattle.map_fold.specs.declared.hits.Hit.{Hit}
use Rattle.map_items.specs.declared.item.Item.{Item}
use Rattle.map_items.specs.Contents.{kept, live_items, Member}
use Rattle.map_fold.specs.Answers.{candidates}
use Rattle.map_fold.proofs.Found.{candidate_is, member-filter}
use Rattle.kd_tree.specs.Shape.{Shape}
use Rattle.kd_tree.specs.Walk.{walk, times}
use Rattle.kd_tree.specs.Sound.{IsSound}
use Rattle.kd_tree.specs.Contents.{AreDistinct}
use Rattle.node_labels.proofs.Laws.{composed-keep_left}
use Rattle.kd_tree.proofs.Actions.{sound_once, times-composed}
use Rattle.kd_tree.proofs.Contents.{times_walk}
use Rattle.kd_tree.proofs.Numbered.{counted_in}
use Rattle.kd_search.specs.Sides.{IsEitherWay}
use Rattle.kd_search.proofs.Walks.{live-kept}

-- no number of a hit of the one is that of a hit of the other
abbrev pub HitsApart : List Hit → List Hit → Type 0
HitsApart xs ys = (g h : Hit) → Member g xs → Member h ys → g.number ≡ h.number → ⊥

-- no number of a live item of the one is that of a live item of the other
abbrev pub AreApart : List Item → List Item → Type 0
AreApart xs ys = (i j : Item) → Member i (live_items xs) → Member j (live_items ys) → i.number ≡ j.number → ⊥

-- then the candidates' numbers differ too
pub candidates_apart : (q : Place) (r : Option ℕ) (xs ys : List Item) → AreApart xs ys → HitsApart (candidates xs q r) (candidates ys q r)
candidates_apart q r xs ys k g h m n e =
    let a = candidate_is xs q r g m in
    let b = candidate_is ys q r h n in
    k a.item b.item a.live b.live (sym (ap (λ (w : Hit). w.number) a.shown) ∙ e ∙ ap (λ (w : Hit). w.number) b.shown)

pub live_in : (j : Item) (xs : List Item) → Member j (live_items xs) → Member j xs
live_in j xs m = (member-filter (λ i. is_live i.label) j xs m).0

pub member-left : (j : Item) (xs ys : List Item) → Member j xs → Member j (xs ++ ys)
member-left j [] ys m = absurd m
member-left j (x ∷ xs) ys (inl e) = inl e
member-left j (x ∷ xs) ys (inr m) = inr (member-left j xs ys m)

pub member-right : (j : Item) (xs ys : List Item) → Member j ys → Member j (xs ++ ys)
member-right j [] ys m = m
member-right j (x ∷ xs) ys m = inr (member-right j xs ys m)

both_apart : (xs ys : List Item) → AreDistinct (xs ++ ys) → (i j : Item) → Member i xs → Member j ys → i.number ≡ j.number → ⊥
both_apart xs ys k i j m n e =
    let g : Item → ℕ = λ w. cond (j.number == w.number) 1 0 in
    absurd (omega (arith, counted_in i j.number xs m e, counted_in j j.number ys n refl, sum_by-append g xs ys, k.once j.number))

rest_distinct : (xs ys : List Item) → AreDistinct (xs ++ ys) → AreDistinct ys
rest_distinct xs ys k = record { once = λ n. let g : Item → ℕ = λ w. cond (n == w.number) 1 0 in omega (arith, sum_by-append g xs ys, k.once n) }

-- a node's item and both of its children have different numbers, pair by pair
pub record AreThree (i : Item) (one other : List Item) : Type 0 where
  pub item_one : AreApart (i ∷ []) one
  pub item_other : AreApart (i ∷ []) other
  pub children : AreApart one other

kept_live : (i j : Item) → Member j (live_items (i ∷ [])) → Member j (kept (i ∷ []))
kept_live i j m = live_in j (kept (i ∷ [])) (subst (Member j) (sym (live-kept i)) m)

three : (i : Item) (one other : List Item) → AreDistinct (kept (i ∷ []) ++ (one ++ other)) → AreThree i one other
three i one other k =
    let first = both_apart (kept (i ∷ [])) (one ++ other) k in
    let second = both_apart one other (rest_distinct (kept (i ∷ [])) (one ++ other) k) in
    record {
      item_one = λ a b m n e. first a b (kept_live i a m) (member-left b one other (live_in b one n)) e;
      item_other = λ a b m n e. first a b (kept_live i a m) (member-right b one other (live_in b other n)) e;
      children = λ a b m n e. second a b (live_in a one m) (live_in b other n) e;
    }

-- so it is where no number is twice in all of them
pub three_of : (i : Item) (one other children whole : List Item) → AreDistinct whole → whole ≡ kept (i ∷ []) ++ children → IsEitherWay children one other → AreThree i one other
three_of i one other children whole k all (inl e) = three i one other (subst AreDistinct (all ∙ ap (λ m. kept (i ∷ []) ++ m) e) k)
three_of i one other children whole k all (inr e) =
    let t = three i other one (subst AreDistinct (all ∙ ap (λ m. kept (i ∷ []) ++ m) e) k) in
    record { item_one = t.item_other; item_other = t.item_one; children = λ a b m n f. t.children b a n m (sym f) }

-- no number is twice in what remains of a tree under an action
pub walk_distinct : (a : Tag) (t : Shape) → IsSound t → AreDistinct (walk a t)
walk_distinct a t k = record {
  once = λ n.
      let fewer : times n a t ≤ times n keep_tag t = subst (λ b. times n b t ≤ times n keep_tag t) (composed-keep_left a) (times-composed n keep_tag a t) in
      omega (arith, times_walk n a t, fewer, sound_once t k n);
}
