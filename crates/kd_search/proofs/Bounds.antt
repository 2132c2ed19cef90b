-- The bound of a search, and what it leaves out.
use Rattle.std.proofs.Common.{◌≡◌, ℕ, zero, suc, ◌-◌, ◌^◌, ◌<◌, ◌≤◌, min, get_or, inl, inr, arith, List, [], ◌∷◌, length, take, refl, sym, ap, ◌∙◌, subst, Option}
use Rattle.std.proofs.lemmas.Bool.{cond_both, cases_lt}
use Rattle.std.proofs.lemmas.List.Elements.{All-weaker}
use Rattle.point_geom.specs.Place.{Place, Span}
use Rattle.point_geom.specs.Distances.{dist2}
use Rattle.point_geom.specs.Extents.{IsIn, span_dist2}
use Rattle.point_geom.proofs.Laws.{reach}
use Rattle.map_fold.specs.declared.hits.Hit.{Hit}
use Rattle.map_items.specs.declared.item.Item.{Item}
use Rattle.map_fold.specs.Answers.{is_nearer, put_hit, candidates}
use Rattle.kd_search.specs.Points.{AreIn, AreAway}
use Rattle.kd_search.specs.Nearest.{put_all, AreBefore, AreFull, IsBound}
use Rattle.kd_search.proofs.Shortlist.{held_same, held_more, full_at, full_stays, candidates_away, candidates_beyond}

-- what is in a box is as far as the box
pub in_away : (e : Span) (q : Place) (m : List Item) → AreIn e m → AreAway (span_dist2 e q) q m
in_away e q m h = All-weaker (λ (i : Item). IsIn e i.point) (λ (i : Item). span_dist2 e q ≤ dist2 q i.point) (λ i inside. reach e i.point q inside) m h

-- what is farther than the bound changes nothing
pub left_out : (k : ℕ) (q : Place) (r : Option ℕ) (hits : List Hit) (bound d : ℕ) (m : List Item)
    → IsBound k r hits bound → bound < d → d < 2 ^ 128 → AreAway d q m → hits ≡ take k (put_all (candidates m q r) hits)
left_out k q r hits bound d m b l f h = elim (b.beyond d l f) [
  | inl out ↦ held_same k hits b.held ∙ ap (λ z. take k (put_all z hits)) (sym (candidates_beyond d q r m h out))
  | inr full ↦ full_stays k d (candidates m q r) hits full (candidates_away d q r m h)
]

put_before : (d : ℕ) (h : Hit) (hits : List Hit) → h.dist2 < d → AreBefore d hits → AreBefore d (put_hit h hits)
put_before d h [] e k = (e, tt)
put_before d h (g ∷ hits) e k = cond_both (is_nearer g h) _ _ (AreBefore d) (λ _. (k.0, put_before d h hits e k.1)) (λ _. (e, k))

take_before : (d k : ℕ) (hits : List Hit) → AreBefore d hits → AreBefore d (take k hits)
take_before d zero hits h = tt
take_before d (suc k) [] h = tt
take_before d (suc k) (g ∷ hits) h = (h.0, take_before d k hits h.1)

length-put_hit : (h : Hit) (hits : List Hit) → length (put_hit h hits) ≡ suc (length hits)
length-put_hit h [] = refl
length-put_hit h (g ∷ hits) = cond_both (is_nearer g h) _ _ (λ (xs : List Hit). length xs ≡ suc (suc (length hits))) (λ _. ap suc (length-put_hit h hits)) (λ _. refl)

length-take_suc : (k : ℕ) (hits : List Hit) → length hits ≡ suc k → length (take k hits) ≡ k
length-take_suc zero hits e = refl
length-take_suc (suc k) [] e = absurd (omega arith)
length-take_suc (suc k) (g ∷ hits) e = ap suc (length-take_suc k hits (omega arith))

full_put : (k d : ℕ) (h : Hit) (hits : List Hit) → h.dist2 < d → AreFull k hits d → AreFull k (take k (put_hit h hits)) d
full_put k d h hits e f = record {
  all = length-take_suc k (put_hit h hits) (length-put_hit h hits ∙ ap suc f.all);
  before = take_before d k (put_hit h hits) (put_before d h hits e f.before);
}

-- a hit that is within the bound leaves it a bound
pub bound_stays : (k : ℕ) (r : Option ℕ) (h : Hit) (hits new : List Hit) (bound : ℕ) → IsBound k r hits bound → h.dist2 ≤ bound → new ≡ take k (put_hit h hits) → IsBound k r new bound
bound_stays k r h hits new bound b near e = record {
  held = held_more k (h ∷ []) hits new b.held e;
  admits = b.admits;
  beyond = λ d l f. elim (b.beyond d l f) [
    | inl out ↦ inl out
    | inr full ↦ inr (subst (λ (xs : List Hit). AreFull k xs d) (sym e) (full_put k d h hits (omega arith) full))
  ];
}

-- where k hits are held, the distance of the last one is a bound too
pub bound_drawn : (k : ℕ) (r : Option ℕ) (hits : List Hit) (x : Hit) (bound : ℕ) → 1 ≤ k → length hits ≡ k → IsBound k r hits bound → IsBound k r hits (min bound (get_or hits (k - 1) x).dist2)
bound_drawn k r hits x bound some all b = record {
  held = b.held;
  admits = λ d l. b.admits d (omega arith);
  beyond = λ d l f. elim (cases_lt (get_or hits (k - 1) x).dist2 d) [
    | inl less ↦ inr (full_at k d hits x some b.held all less)
    | inr from ↦ b.beyond d (omega arith) f
  ];
}
