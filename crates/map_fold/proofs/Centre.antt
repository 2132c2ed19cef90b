-- The order of items towards the centre of a box. Of items with different numbers one comes first.
use Rattle.std.proofs.Common.{◌≡◌, ℕ, inl, inr, Bool, true, false, cond, List, [], ◌∷◌, refl, sym, ap, ◌∙◌, subst}
use Rattle.std.specs.Cmp.{IsTotalOrder, IsStrictWeakOrder}
use Rattle.std.specs.FinMap.{nat_cmp-IsAntisymmetric}
use Rattle.std.specs.Ordering.{ordering_reverse, is_lt, nat_cmp}
use Rattle.std.specs.declared.cmp.Ordering.{Ordering}
use Rattle.std.specs.declared.cmp.Ordering.TheVariants.{Less, Equal, Greater}
use Rattle.std.proofs.lemmas.Cmp.{then_total, on_total, nat_cmp_total, tied_itself}
use Rattle.std.proofs.lemmas.List.MinMax.{ranks_by}
use Rattle.point_geom.specs.Place.{Place, Bounds}
use Rattle.point_geom.specs.Axes.{place_cmp}
use Rattle.point_geom.specs.Distances.{centre_dist2}
use Rattle.node_labels.specs.Labels.{is_live}
use Rattle.node_labels.specs.declared.label.Label.{Label}
use Rattle.node_labels.specs.declared.label.Label.TheVariants.{Live, Suspended, Dropped}
use Rattle.map_items.specs.declared.item.Item.{Item}
use Rattle.map_items.specs.Contents.{centre_cmp, comes_before, least, Member}
use Rattle.map_fold.specs.Thinned.{NoneBefore}
use Rattle.map_fold.proofs.Order.{place_cmp_total, then_equal}

pub centre_cmp_total : (c : Bounds) → IsTotalOrder (centre_cmp c)
centre_cmp_total c =
    then_total (on_total (λ (i : Item). centre_dist2 c i.point) nat_cmp_total)
    (then_total (on_total (λ (i : Item). i.point) place_cmp_total) (on_total (λ (i : Item). i.number) nat_cmp_total))

-- no item comes before one that comes before it
pub order : (c : Bounds) → IsStrictWeakOrder (comes_before c)
order c = ranks_by (centre_cmp_total c) (λ (i : Item). i)

pub not_itself : (c : Bounds) (i : Item) → comes_before c i i ≡ false
not_itself c i = ap is_lt (tied_itself (centre_cmp_total c) i)

-- the least is one of them
pub least_member : (c : Bounds) (i : Item) (m : List Item) → Member (least (centre_cmp c) i m) (i ∷ m)
least_member c i [] = inl refl
least_member c i (j ∷ m) = chosen (comes_before c j i) (least_member c j m) (least_member c i m)
  where
    chosen : (b : Bool) → Member (least (centre_cmp c) j m) (j ∷ m) → Member (least (centre_cmp c) i m) (i ∷ m) → Member (least (centre_cmp c) (cond b j i) m) (i ∷ j ∷ m)
    chosen true n k = inr n
    chosen false n k = elim k [ inl e ↦ inl e | inr later ↦ inr (inr later) ]

-- nothing comes before the least
pub least_first : (c : Bounds) (i : Item) (m : List Item) → NoneBefore c (least (centre_cmp c) i m) (i ∷ m)
least_first c i [] k (inl e) = subst (λ (v : Item). comes_before c v i ≡ false) (sym e) (not_itself c i)
least_first c i [] k (inr n) = absurd n
least_first c i (j ∷ m) k n = over (comes_before c j i) refl (least_first c j m) (least_first c i m) n
  where
    over : (b : Bool) → comes_before c j i ≡ b → NoneBefore c (least (centre_cmp c) j m) (j ∷ m) → NoneBefore c (least (centre_cmp c) i m) (i ∷ m)
        → Member k (i ∷ j ∷ m) → comes_before c k (least (centre_cmp c) (cond b j i) m) ≡ false
    over true e f g (inl is) =
        subst (λ (v : Item). comes_before c v (least (centre_cmp c) j m) ≡ false) (sym is)
        ((order c).chain i j (least (centre_cmp c) j m) ((order c).one_way j i e) (f j (inl refl)))
    over true e f g (inr later) = f k later
    over false e f g (inl is) = g k (inl is)
    over false e f g (inr (inl is)) = subst (λ (v : Item). comes_before c v (least (centre_cmp c) i m) ≡ false) (sym is) ((order c).chain j i (least (centre_cmp c) i m) e (g i (inl refl)))
    over false e f g (inr (inr later)) = g k (inr later)

-- of two that are compared both ways, neither is less only where they are equal
pub neither : (o p : Ordering) → o ≡ ordering_reverse p → is_lt o ≡ false → is_lt p ≡ false → o ≡ Equal
neither Less p e f g = absurd (cc)
neither Equal p e f g = refl
neither Greater Less e f g = absurd (cc)
neither Greater Equal e f g = absurd (cc)
neither Greater Greater e f g = absurd (cc)

pub live_is : (x : Label) → is_live x ≡ true → x ≡ Live
live_is Live e = refl
live_is Suspended e = absurd (cc)
live_is Dropped e = absurd (cc)

pub items_alike : (i j : Item) → i.number ≡ j.number → i.point ≡ j.point → i.label ≡ j.label → i ≡ j
items_alike i j e f g =
    let F : ℕ → Place → Label → Item = λ x y z. record { number = x; point = y; label = z } in
    ap (λ x. F x i.point i.label) e ∙ ap (λ y. F j.number y i.label) f ∙ ap (λ z. F j.number j.point z) g

-- items of which neither comes before the other have one number
pub one_best : (c : Bounds) (i j : Item) → comes_before c i j ≡ false → comes_before c j i ≡ false → i.number ≡ j.number
one_best c i j e f =
    let equal = neither (centre_cmp c i j) (centre_cmp c j i) ((centre_cmp_total c).antisymm i j) e f in
    let s = then_equal (nat_cmp (centre_dist2 c i.point) (centre_dist2 c j.point)) _ equal in
    let t = then_equal (place_cmp i.point j.point) _ s.1 in
    nat_cmp-IsAntisymmetric i.number j.number t.1
