-- Boxes that are thinned one after another, and together.
use Rattle.std.proofs.Common.{◌≡◌, ℕ, ◌+◌, Bool, true, false, List, [], ◌∷◌, ◌++◌, inl, inr, refl, ap, subst, sym, ◌∙◌}
use Rattle.std.proofs.lemmas.Bool.{and_parts, eqb-true, true≢false}
use Rattle.std.specs.Prelude.{◌||◌, ◌&&◌, ◌==◌, cond, filter, not}
use Rattle.std.specs.Cmp.Derive.{both_true}
use Rattle.std.proofs.lemmas.List.Folds.{list_any-append}
use Rattle.point_geom.specs.Place.{IsAt, Place, Bounds}
use Rattle.point_geom.specs.Boxes.{holds, unit_box}
use Rattle.point_geom.proofs.Laws.{unit_alone, unit_held}
use Rattle.node_labels.specs.Labels.{is_dropped, is_live, thin_tag}
use Rattle.node_labels.specs.declared.label.Label.{Label}
use Rattle.node_labels.specs.declared.label.Label.TheVariants.{Live, Suspended, Dropped}
use Rattle.map_items.specs.declared.item.Item.{Item}
use Rattle.map_items.specs.Contents.{AreContents, Member, in_box, mark}
use Rattle.map_fold.specs.Answers.{count, inside_all}
use Rattle.map_fold.proofs.Thinning.{is_live_in, left_out, mark-thin}
use Rattle.kd_tree.specs.Contents.{AreKept}
use Rattle.kd_search.specs.Best.{IsBest}
use Rattle.kd_mark.proofs.InBox.{mark_none}
use Rattle.map_update.specs.Clearing.{in_some}
use Rattle.map_update.proofs.Entering.{live_inside}
use Rattle.map_update.proofs.Winners.{alone_inside}

-- what is thinned in some places and then in others is thinned in all of them
thinned_twice : (f g : Place → Bool) (m : List Item) → mark (mark m (λ i. f i.point) thin_tag) (λ i. g i.point) thin_tag ≡ mark m (λ i. f i.point || g i.point) thin_tag
thinned_twice f g [] = refl
thinned_twice f g (i ∷ m) = one (thinned_twice f g m) i.label (f i.point) (g i.point) refl refl
  where
    one : mark (mark m (λ j. f j.point) thin_tag) (λ j. g j.point) thin_tag ≡ mark m (λ j. f j.point || g j.point) thin_tag
        → (x : Label) (b c : Bool) → f i.point ≡ b → g i.point ≡ c
        → mark (mark (record i { label = x } ∷ m) (λ j. f j.point) thin_tag) (λ j. g j.point) thin_tag ≡ mark (record i { label = x } ∷ m) (λ j. f j.point || g j.point) thin_tag
    one rest Live true c e k = rw e rest
    one rest Live false true e k = rw (e, k) rest
    one rest Live false false e k = rw (e, k) (ap (λ xs. record i { label = Live } ∷ xs) rest)
    one rest Suspended true true e k = rw (e, k) (ap (λ xs. record i { label = Suspended } ∷ xs) rest)
    one rest Suspended true false e k = rw (e, k) (ap (λ xs. record i { label = Suspended } ∷ xs) rest)
    one rest Suspended false true e k = rw (e, k) (ap (λ xs. record i { label = Suspended } ∷ xs) rest)
    one rest Suspended false false e k = rw (e, k) (ap (λ xs. record i { label = Suspended } ∷ xs) rest)
    one rest Dropped true c e k = rw e rest
    one rest Dropped false true e k = rw (e, k) rest
    one rest Dropped false false e k = rw (e, k) rest

-- a first box, and then the others
pub thinned_first : (c : Bounds) (cs : List Bounds) (m : List Item) → mark (mark m (in_box c) thin_tag) (in_some cs) thin_tag ≡ mark m (in_some (c ∷ cs)) thin_tag
thinned_first c cs m = thinned_twice (holds c) (λ p. in_some cs (record { number = 0; point = p; label = Live })) m

or_false : (b : Bool) → (b || false) ≡ b
or_false true = refl
or_false false = refl

-- some boxes, and then a last one
pub thinned_last : (c : Bounds) (cs : List Bounds) (m : List Item) → mark m (in_some (cs ++ c ∷ [])) thin_tag ≡ mark (mark m (in_some cs) thin_tag) (in_box c) thin_tag
thinned_last c cs m = ap (λ chosen. mark m chosen thin_tag) (λ k i. last i k) ∙ sym (thinned_twice (λ p. in_some cs (record { number = 0; point = p; label = Live })) (holds c) m)
  where
    last : (i : Item) → in_some (cs ++ c ∷ []) i ≡ (in_some cs i || holds c i.point)
    last i = list_any-append (λ (d : Bounds). in_box d i) cs (c ∷ []) ∙ ap (λ b. in_some cs i || b) (or_false (holds c i.point))

-- where no box is thinned, all that a map holds stays
pub thinned_none : (m : List Item) → AreKept m → mark m (in_some []) thin_tag ≡ m
thinned_none m k = mark_none (in_some []) thin_tag m (λ n d below. refl) k

-- what is live in a box is the same, where the thinned ones have nothing in common with it
pub inside_apart : (c : Bounds) (cs : List Bounds) (low high : ℕ) (m : List Item) → ((i : Item) → in_box c i ≡ true → in_some cs i ≡ false) → AreContents low high m
    → inside_all (mark m (in_some cs) thin_tag) c ≡ inside_all m c
inside_apart c cs low high [] apart k = refl
inside_apart c cs low high (i ∷ m) apart k = one (inside_apart c cs (i.number + 1) high m apart k.3) i.label (holds c i.point) (in_some cs i) refl refl k.2
  where
    one : inside_all (mark m (in_some cs) thin_tag) c ≡ inside_all m c → (x : Label) (b d : Bool) → holds c i.point ≡ b → in_some cs i ≡ d → is_dropped x ≡ false
        → inside_all (mark (record i { label = x } ∷ m) (in_some cs) thin_tag) c ≡ inside_all (record i { label = x } ∷ m) c
    one rest Live true true e f kept = absurd (true≢false (sym f ∙ apart i e))
    one rest Live true false e f kept = rw (f, e) (ap (λ xs. record i { label = Live } ∷ xs) rest)
    one rest Live false true e f kept = rw (f, e) rest
    one rest Live false false e f kept = rw (f, e) rest
    one rest Suspended b true e f kept = rw f rest
    one rest Suspended b false e f kept = rw f rest
    one rest Dropped b d e f kept = absurd (true≢false kept)

-- a part of a box, which thins the items as the box does
pub record ThinsAs (m : List Item) (c d : Bounds) : Type 0 where
  pub part : (i : Item) → in_box d i ≡ true → in_box c i ≡ true
  pub same : mark m (in_box d) thin_tag ≡ mark m (in_box c) thin_tag

filter_agree : (p q : Item → Bool) (m : List Item) → ((i : Item) → Member i m → p i ≡ q i) → filter p m ≡ filter q m
filter_agree p q [] same = refl
filter_agree p q (i ∷ m) same = rw (same i (inl refl)) (ap (λ xs. cond (q i) (i ∷ xs) xs) (filter_agree p q m (λ k there. same k (inr there))))

-- a box holds all of a place or nothing
held_at : (c : Bounds) (p q : Place) → IsAt p q → holds c q ≡ holds c p
held_at c p q k = rw (k.x, k.y, k.z) refl

only : (x y : Item) → Member x (y ∷ []) → x ≡ y
only x y (inl same) = same
only x y (inr none) = absurd none

out : (a b x : Bool) → (b ≡ true → x ≡ true) → (a && x) ≡ false → (a && b) ≡ false
out true true x f e = absurd (true≢false (sym (f refl) ∙ e))
out true false x f e = refl
out false b x f e = refl

-- where one item is live in a box, its place alone thins as the box does
alone_thins : (high : ℕ) (m : List Item) (c : Bounds) (i : Item) → AreContents 0 high m → holds c i.point ≡ true → inside_all m c ≡ i ∷ [] → ThinsAs m c (unit_box i.point)
alone_thins high m c i k inside one = record {
  part = part;
  same = mark-thin d 0 high m k ∙ filter_agree (left_out d) (left_out c) m (λ j there. ap not (agree j there (is_live_in c j) refl)) ∙ sym (mark-thin c 0 high m k);
}
  where
    d : Bounds
    d = unit_box i.point

    part : (j : Item) → in_box d j ≡ true → in_box c j ≡ true
    part j e = held_at c i.point j.point (unit_alone i.point j.point e) ∙ inside

    agree : (j : Item) → Member j m → (b : Bool) → is_live_in c j ≡ b → is_live_in d j ≡ is_live_in c j
    agree j there true e =
        let same : j ≡ i = only j i (subst (Member j) one (live_inside c m j there e)) in
        let live = (and_parts (is_live j.label) (in_box c j) e).0 in
        both_true live (subst (λ (x : Item). in_box d x ≡ true) (sym same) (unit_held i.point i.point (record { x = refl; y = refl; z = refl }))) ∙ sym e
    agree j there false e = out (is_live j.label) (in_box d j) (in_box c j) (part j) e ∙ sym e

-- so does what is thinned of a voxel
pub lost_thins : (high : ℕ) (m : List Item) (c d : Bounds) (i : Item) (n : ℕ) → AreContents 0 high m → IsBest m c i → n ≡ count m c → d ≡ cond (n == 1) (unit_box i.point) c → ThinsAs m c d
lost_thins high m c d i n k best all is = over (n == 1) refl
  where
    over : (b : Bool) → (n == 1) ≡ b → ThinsAs m c d
    over true e =
        let one = alone_inside m c i best (sym all ∙ eqb-true n 1 e) in
        subst (ThinsAs m c) (sym (is ∙ ap (λ (b : Bool). cond b (unit_box i.point) c) e)) (alone_thins high m c i k best.held one)
    over false e = subst (ThinsAs m c) (sym (is ∙ ap (λ (b : Bool). cond b (unit_box i.point) c) e)) (record { part = λ j there. there; same = refl })
