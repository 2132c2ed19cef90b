-- The hits that are held, and what is too far to come among them.
use Rattle.std.proofs.Common.{◌≡◌, ℕ, zero, suc, ◌<◌, ◌≤◌, ◌-◌, ◌*◌, get_or, inl, inr, arith, Bool, true, false, cond, List, [], ◌∷◌, ◌++◌, length, take, map, refl, sym, ap, ◌∙◌, subst, Option, Some, None}
use Rattle.std.specs.Prelude.{filter}
use Rattle.std.proofs.lemmas.Bool.{cond_both, cond-false, lt-ltb, leb-false, lt-leb, cases_lt}
use Rattle.std.proofs.lemmas.List.{take_all}
use Rattle.std.proofs.lemmas.List.Elements.{All-head, All-tail}
use Rattle.point_geom.specs.Place.{Place}
use Rattle.point_geom.specs.Distances.{dist2}
use Rattle.node_labels.specs.Labels.{is_live}
use Rattle.map_fold.specs.declared.hits.Hit.{Hit}
use Rattle.map_items.specs.declared.item.Item.{Item}
use Rattle.map_items.specs.Contents.{live_items}
use Rattle.map_fold.specs.Answers.{is_nearer, put_hit, hit_of, is_within, candidates}
use Rattle.map_fold.proofs.Order.{nearer_not_back}
use Rattle.map_fold.proofs.Ranking.{put_hit-take}
use Rattle.kd_search.specs.Points.{AreAway}
use Rattle.kd_search.specs.Nearest.{put_all, is_admitted, AreFrom, AreBefore, Recede, AreNearestFirst, AreFull}

-- what is less far comes first
nearer_by : (g h : Hit) → g.dist2 < h.dist2 → is_nearer g h ≡ true
nearer_by g h e = rw (lt-ltb g.dist2 h.dist2 e) refl

nearer_from : (g h : Hit) → is_nearer g h ≡ true → g.dist2 ≤ h.dist2
nearer_from g h e = elim (cases_lt h.dist2 g.dist2) [ inl less ↦ absurd (nearer_not_back g h e (nearer_by h g less)) | inr from ↦ from ]

from_before : (g h : Hit) → is_nearer g h ≡ false → h.dist2 ≤ g.dist2
from_before g h e = elim (cases_lt g.dist2 h.dist2) [ inl less ↦ absurd (cc (nearer_by g h less, e)) | inr from ↦ from ]

from_less : (c d : ℕ) (hits : List Hit) → c ≤ d → AreFrom d hits → AreFrom c hits
from_less c d [] h k = tt
from_less c d (g ∷ hits) h k = (omega (arith, k.0), from_less c d hits h k.1)

put_from : (d : ℕ) (h : Hit) (hits : List Hit) → d ≤ h.dist2 → AreFrom d hits → AreFrom d (put_hit h hits)
put_from d h [] e k = (e, tt)
put_from d h (g ∷ hits) e k = cond_both (is_nearer g h) _ _ (AreFrom d) (λ _. (k.0, put_from d h hits e k.1)) (λ _. (e, k))

put_recede : (h : Hit) (hits : List Hit) → Recede hits → Recede (put_hit h hits)
put_recede h [] k = (tt, tt)
put_recede h (g ∷ hits) k =
    cond_both (is_nearer g h) _ _ Recede
    (λ e. (put_from g.dist2 h hits (nearer_from g h e) k.0, put_recede h hits k.1))
    (λ e. ((from_before g h e, from_less h.dist2 g.dist2 hits (from_before g h e) k.0), k))

take_from : (d k : ℕ) (hits : List Hit) → AreFrom d hits → AreFrom d (take k hits)
take_from d zero hits h = tt
take_from d (suc k) [] h = tt
take_from d (suc k) (g ∷ hits) h = (h.0, take_from d k hits h.1)

take_recede : (k : ℕ) (hits : List Hit) → Recede hits → Recede (take k hits)
take_recede zero hits h = tt
take_recede (suc k) [] h = tt
take_recede (suc k) (g ∷ hits) h = (take_from g.dist2 k hits h.0, take_recede k hits h.1)

take_few : (k : ℕ) (hits : List Hit) → length (take k hits) ≤ k
take_few zero hits = omega arith
take_few (suc k) [] = omega arith
take_few (suc k) (g ∷ hits) = omega (arith, take_few k hits)

pub put_all_recede : (found hits : List Hit) → Recede hits → Recede (put_all found hits)
put_all_recede [] hits h = h
put_all_recede (g ∷ found) hits h = put_recede g (put_all found hits) (put_all_recede found hits h)

-- after more hits the first k are held
pub held_more : (k : ℕ) (found hits new : List Hit) → AreNearestFirst k hits → new ≡ take k (put_all found hits) → AreNearestFirst k new
held_more k found hits new h e =
    subst (AreNearestFirst k) (sym e) (record { few = take_few k (put_all found hits); recede = take_recede k (put_all found hits) (put_all_recede found hits h.recede) })

-- no more hits leave what is held
pub held_same : (k : ℕ) (hits : List Hit) → AreNearestFirst k hits → hits ≡ take k (put_all [] hits)
held_same k hits h = sym (take_all k hits h.few)

from_at : (d j : ℕ) (hits : List Hit) (x : Hit) → AreFrom d hits → j < length hits → d ≤ (get_or hits j x).dist2
from_at d j [] x h l = absurd (omega arith)
from_at d zero (g ∷ hits) x h l = h.0
from_at d (suc j) (g ∷ hits) x h l = from_at d j hits x h.1 (omega arith)

before_at : (d j : ℕ) (hits : List Hit) (x : Hit) → Recede hits → length hits ≡ suc j → (get_or hits j x).dist2 < d → AreBefore d hits
before_at d j [] x h l e = tt
before_at d zero (g ∷ []) x h l e = (e, tt)
before_at d zero (g ∷ f ∷ hits) x h l e = absurd (omega arith)
before_at d (suc j) (g ∷ hits) x h l e = (omega (arith, from_at g.dist2 j hits x h.0 (omega arith), e), before_at d j hits x h.1 (omega arith) e)

-- where the last of k hits is nearer than this, all are
pub full_at : (k d : ℕ) (hits : List Hit) (x : Hit) → 1 ≤ k → AreNearestFirst k hits → length hits ≡ k → (get_or hits (k - 1) x).dist2 < d → AreFull k hits d
full_at k d hits x some h l e = record { all = l; before = before_at d (k - 1) hits x h.recede (omega arith) e }

put_behind : (d : ℕ) (h : Hit) (hits : List Hit) → d ≤ h.dist2 → AreBefore d hits → put_hit h hits ≡ hits ++ h ∷ []
put_behind d h [] e k = refl
put_behind d h (g ∷ hits) e k = rw (nearer_by g h (omega (arith, k.0))) (ap (λ ys. g ∷ ys) (put_behind d h hits e k.1))

take-front : (k : ℕ) (hits more : List Hit) → length hits ≡ k → take k (hits ++ more) ≡ hits
take-front zero [] more e = refl
take-front zero (g ∷ hits) more e = absurd (omega arith)
take-front (suc k) [] more e = absurd (omega arith)
take-front (suc k) (g ∷ hits) more e = ap (λ ys. g ∷ ys) (take-front k hits more (omega arith))

-- what is as far as this doesn't come among k that are nearer
pub full_stays : (k d : ℕ) (found hits : List Hit) → AreFull k hits d → AreFrom d found → hits ≡ take k (put_all found hits)
full_stays k d [] hits f h = sym (take_all k hits (omega (arith, f.all)))
full_stays k d (g ∷ found) hits f h =
    sym (
    sym (put_hit-take k g (put_all found hits)) ∙ ap (λ z. take k (put_hit g z)) (sym (full_stays k d found hits f h.1))
    ∙ ap (take k) (put_behind d g hits h.0 f.before) ∙ take-front k hits (g ∷ []) f.all
    )

pub within_admitted : (r : Option ℕ) (h : Hit) → is_within r h ≡ is_admitted r h.dist2
within_admitted None h = refl
within_admitted (Some r) h = refl

admitted_less : (r : Option ℕ) (c d : ℕ) → c ≤ d → is_admitted r c ≡ false → is_admitted r d ≡ false
admitted_less None c d h e = absurd (cc)
admitted_less (Some r) c d h e = lt-leb d (r * r) (omega (arith, leb-false c (r * r) e))

first_away : (d : ℕ) (q : Place) (i : Item) (m : List Item) → AreAway d q (i ∷ m) → d ≤ dist2 q i.point
first_away d q i m h = All-head (λ (j : Item). d ≤ dist2 q j.point) i m h

rest_away : (d : ℕ) (q : Place) (i : Item) (m : List Item) → AreAway d q (i ∷ m) → AreAway d q m
rest_away d q i m h = All-tail (λ (j : Item). d ≤ dist2 q j.point) i m h

-- candidates are as far as their items
pub candidates_away : (d : ℕ) (q : Place) (r : Option ℕ) (m : List Item) → AreAway d q m → AreFrom d (candidates m q r)
candidates_away d q r [] h = tt
candidates_away d q r (i ∷ m) h = by_live (is_live i.label) (candidates_away d q r m (rest_away d q i m h))
  where
    by_near : (b : Bool) → AreFrom d (candidates m q r) → AreFrom d (cond b (hit_of q i ∷ candidates m q r) (candidates m q r))
    by_near true rest = (first_away d q i m h, rest)
    by_near false rest = rest

    by_live : (b : Bool) → AreFrom d (candidates m q r) → AreFrom d (filter (is_within r) (map (hit_of q) (cond b (i ∷ live_items m) (live_items m))))
    by_live true rest = by_near (is_within r (hit_of q i)) rest
    by_live false rest = rest

-- beyond the greatest distance there is none
pub candidates_beyond : (d : ℕ) (q : Place) (r : Option ℕ) (m : List Item) → AreAway d q m → is_admitted r d ≡ false → candidates m q r ≡ []
candidates_beyond d q r [] h f = refl
candidates_beyond d q r (i ∷ m) h f = by_live (is_live i.label) (candidates_beyond d q r m (rest_away d q i m h) f)
  where
    out : is_within r (hit_of q i) ≡ false
    out = within_admitted r (hit_of q i) ∙ admitted_less r d (dist2 q i.point) (first_away d q i m h) f

    by_live : (b : Bool) → candidates m q r ≡ [] → filter (is_within r) (map (hit_of q) (cond b (i ∷ live_items m) (live_items m))) ≡ []
    by_live true rest = cond-false (is_within r (hit_of q i)) _ _ out ∙ rest
    by_live false rest = rest
