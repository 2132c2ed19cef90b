-- The order of hits: it is total, and the first k in it are one list.
use Rattle.std.proofs.Common.{◌≡◌, ◌⊎◌, inl, inr, true, refl, sym, ap, ◌∙◌}
use Rattle.std.specs.Cmp.{IsTotalOrder, IsStrictWeakOrder}
use Rattle.std.specs.FinMap.{nat_cmp-IsAntisymmetric}
use Rattle.std.specs.Ordering.{ordering_then, ordering_reverse, is_lt, nat_cmp}
use Rattle.std.specs.declared.cmp.Ordering.{Ordering}
use Rattle.std.specs.declared.cmp.Ordering.TheVariants.{Less, Equal, Greater}
use Rattle.std.proofs.lemmas.Cmp.{then_total, on_total, nat_cmp_total, int_cmp_total}
use Rattle.std.proofs.lemmas.List.MinMax.{ranks_by}
use Rattle.std.proofs.lemmas.Bool.{false≢true}
use Rattle.point_geom.specs.Place.{Place}
use Rattle.point_geom.specs.Axes.{place_cmp}
use Rattle.map_fold.specs.declared.hits.Hit.{Hit}
use Rattle.map_fold.specs.Answers.{hit_cmp, is_nearer}

pub place_cmp_total : IsTotalOrder place_cmp
place_cmp_total = then_total (on_total (λ (p : Place). p.x) int_cmp_total) (then_total (on_total (λ (p : Place). p.y) int_cmp_total) (on_total (λ (p : Place). p.z) int_cmp_total))

pub hit_cmp_total : IsTotalOrder hit_cmp
hit_cmp_total = then_total (on_total (λ (h : Hit). h.dist2) nat_cmp_total) (then_total (on_total (λ (h : Hit). h.point) place_cmp_total) (on_total (λ (h : Hit). h.number) nat_cmp_total))

-- no hit comes before one that comes before it
pub nearer_order : IsStrictWeakOrder is_nearer
nearer_order = ranks_by hit_cmp_total (λ (h : Hit). h)

-- both of two that are compared one after the other are equal
pub then_equal : (o p : Ordering) → ordering_then o p ≡ Equal → (o ≡ Equal) × (p ≡ Equal)
then_equal Less p e = absurd (cc)
then_equal Equal p e = (refl, e)
then_equal Greater p e = absurd (cc)

-- hits between which the order doesn't decide have one number
pub hit_cmp-Equal : (a b : Hit) → hit_cmp a b ≡ Equal → a.number ≡ b.number
hit_cmp-Equal a b e =
    let s = then_equal (nat_cmp a.dist2 b.dist2) _ e in
    let t = then_equal (place_cmp a.point b.point) _ s.1 in
    nat_cmp-IsAntisymmetric a.number b.number t.1

pub nearer_not_back : (a b : Hit) → is_nearer a b ≡ true → is_nearer b a ≡ true → ⊥
nearer_not_back a b h k = absurd (false≢true (sym (nearer_order.one_way a b h) ∙ k))

pub nearer_not_itself : (a : Hit) → is_nearer a a ≡ true → ⊥
nearer_not_itself a h = nearer_not_back a a h h

less_is : (o : Ordering) → is_lt o ≡ true → o ≡ Less
less_is Less e = refl
less_is Equal e = absurd (cc)
less_is Greater e = absurd (cc)

pub nearer_chain : (a b c : Hit) → is_nearer a b ≡ true → is_nearer b c ≡ true → is_nearer a c ≡ true
nearer_chain a b c h k = ap is_lt (hit_cmp_total.trans a b c (less_is (hit_cmp a b) h) (less_is (hit_cmp b c) k))

by_ordering : (a b : Hit) (o : Ordering) → hit_cmp a b ≡ o → (a.number ≡ b.number) ⊎ ((is_nearer a b ≡ true) ⊎ (is_nearer b a ≡ true))
by_ordering a b Less e = inr (inl (ap is_lt e))
by_ordering a b Equal e = inl (hit_cmp-Equal a b e)
by_ordering a b Greater e = inr (inr (greater_back (hit_cmp b a) (sym e ∙ hit_cmp_total.antisymm a b)))
  where
    greater_back : (o : Ordering) → Greater ≡ ordering_reverse o → is_lt o ≡ true
    greater_back Less e = refl
    greater_back Equal e = absurd (cc)
    greater_back Greater e = absurd (cc)

-- of two hits with different numbers one comes first
pub nearer_either : (a b : Hit) → (a.number ≡ b.number) ⊎ ((is_nearer a b ≡ true) ⊎ (is_nearer b a ≡ true))
nearer_either a b = by_ordering a b (hit_cmp a b) refl
