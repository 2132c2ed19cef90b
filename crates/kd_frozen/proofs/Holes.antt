-- A cell that is put in its place among those that were found.
use Rattle.std.proofs.Common.{◌≡◌, ℕ, zero, suc, ◌+◌, ◌-◌, ◌<◌, ◌≤◌, false, true, List, [], ◌∷◌, ◌++◌, length, take, drop, set, get_or, append-nil, refl, sym, ap, ◌∙◌, subst, arith}
use Rattle.std.specs.List.{insert}
use Rattle.std.proofs.Math.Seq.{take-append_seam, take-set-lt}
use Rattle.std.proofs.lemmas.List.{drop_all, get_or-map, get_or-take, length-map, length-take-le, map_more, set_at, take_all, take_at, take_more}
use Rattle.std.proofs.lemmas.List.Edits.{get_or-insert_below, insert_end}
use Rattle.map_fold.specs.declared.hits.Hit.{Hit}
use Rattle.map_fold.specs.Answers.{is_nearer, put_hit}
use Rattle.map_fold.specs.Nearest.{AreRanked}
use Rattle.map_fold.proofs.Ranked.{passed, put_hit_ranked, stopped, take_ranked}
use Rattle.kd_frozen.specs.declared.shortlist.Near.{Near}
use Rattle.kd_frozen.specs.Shortlist.{hit_at, hits_of}

map-insert : (xs : List Near) (at : ℕ) (x : Near) → hits_of (insert xs at x) ≡ insert (hits_of xs) at (hit_at x)
map-insert xs zero x = refl
map-insert [] (suc at) x = refl
map-insert (y ∷ xs) (suc at) x = ap (λ z. hit_at y ∷ z) (map-insert xs at x)

-- one that is put in before its twin, or behind it
insert_twin : (xs : List Near) (j : ℕ) (x : Near) → j < length xs → x ≡ get_or xs j x → insert xs (suc j) x ≡ insert xs j x
insert_twin [] j x lt e = absurd (omega arith)
insert_twin (y ∷ xs) zero x lt e = ap (λ z. z ∷ x ∷ xs) (sym e) ∙ ap (λ z. x ∷ z ∷ xs) e
insert_twin (y ∷ xs) (suc j) x lt e = ap (λ z. y ∷ z) (insert_twin xs j x (omega arith) e)

set-insert : (xs : List Near) (at : ℕ) (y x : Near) → at ≤ length xs → set (insert xs at y) at x ≡ insert xs at x
set-insert xs at y x le = set_at (take at xs) y (drop at xs) x at (length-take-le at xs le)

-- The first `len + 1` of xs are the first `len` of the old ones, with something between them.
pub record HasHole (xs old : List Near) (len at : ℕ) : Type 0 where
  pub filler : Near
  pub is : take (len + 1) xs ≡ insert (take len old) at filler

-- behind all
pub hole_behind : (old : List Near) (len : ℕ) (d : Near) → len < length old → HasHole old old len len
hole_behind old len d lt = record {
  filler = get_or old len d;
  is =
      take_more old len d lt
      ∙ sym (ap (λ n. insert (take len old) n (get_or old len d)) (sym (length-take-le len old (omega arith))) ∙ insert_end (take len old) (get_or old len d));
}

-- what is before it
hole_before : (xs old : List Near) (len n j : ℕ) (x : Near) → n ≡ suc j → n ≤ len → len < length old → HasHole xs old len n → x ≡ get_or xs j x → x ≡ get_or (take len old) j x
hole_before xs old len n j x e le lt h is =
    is ∙ sym (get_or-take (len + 1) xs j x (omega arith)) ∙ ap (λ z. get_or z j x) h.is
    ∙ get_or-insert_below (take len old) n h.filler x j (omega arith) (omega (arith, length-take-le len old (omega arith)))

-- moves up
pub hole_moved : (xs old : List Near) (len n j : ℕ) (x : Near) → n ≡ suc j → n ≤ len → len < length old → HasHole xs old len n → x ≡ get_or xs j x → HasHole (set xs n x) old len j
hole_moved xs old len n j x e le lt h is = record {
  filler = x;
  is =
      let long : length (take len old) ≡ len = length-take-le len old (omega arith) in
      take-set-lt (len + 1) xs n x (omega arith) ∙ ap (λ z. set z n x) h.is ∙ set-insert (take len old) n h.filler x (omega (arith, long))
      ∙ ap (λ m. insert (take len old) m x) e
      ∙ insert_twin (take len old) j x (omega (arith, long)) (hole_before xs old len n j x e le lt h is);
}

-- and is filled
hole_filled : (xs old : List Near) (len at : ℕ) (x : Near) → at ≤ len → len < length old → HasHole xs old len at → insert (hits_of (take len old)) at (hit_at x) ≡ put_hit (hit_at x) (hits_of (take len old))
    → hits_of (take (len + 1) (set xs at x)) ≡ put_hit (hit_at x) (hits_of (take len old))
hole_filled xs old len at x le lt h put =
    let long : length (take len old) ≡ len = length-take-le len old (omega arith) in
    ap hits_of (take-set-lt (len + 1) xs at x (omega arith) ∙ ap (λ z. set z at x) h.is ∙ set-insert (take len old) at h.filler x (omega (arith, long)))
    ∙ map-insert (take len old) at x ∙ put

-- the hit of the one that is before the hole
pub hit_before : (xs old : List Near) (len n j : ℕ) (x : Near) → n ≡ suc j → n ≤ len → len < length old → HasHole xs old len n → x ≡ get_or xs j x → hit_at x ≡ get_or (hits_of (take len old)) j (hit_at x)
hit_before xs old len n j x e le lt h is =
    ap hit_at (hole_before xs old len n j x e le lt h is)
    ∙ sym (get_or-map hit_at (take len old) j x (hit_at x) (omega (arith, length-take-le len old (omega arith))))

pub hits_length : (old : List Near) (len : ℕ) → len ≤ length old → length (hits_of (take len old)) ≡ len
hits_length old len le = omega (arith, length-map (take len old) hit_at, length-take-le len old le)

-- The search for its place, from the end: how it begins,
pub whole_first : (h : Hit) (hits : List Hit) (n : ℕ) → length hits ≡ n → put_hit h hits ≡ put_hit h (take n hits) ++ drop n hits
whole_first h hits n e =
    sym (
    ap (λ z. put_hit h z ++ drop n hits) (take_all n hits (omega (arith, e))) ∙ ap (λ z. put_hit h hits ++ z) (drop_all n hits (omega (arith, e)))
    ∙ append-nil (put_hit h hits)
    )

-- how it ends behind one that comes before it,
pub hole_last : (xs old : List Near) (len at j : ℕ) (x near : Near) → AreRanked (hits_of (take len old)) → at ≡ suc j → at ≤ len → len < length old → HasHole xs old len at → x ≡ get_or xs j x
    → is_nearer (hit_at x) (hit_at near) ≡ true → put_hit (hit_at near) (hits_of (take len old)) ≡ put_hit (hit_at near) (take at (hits_of (take len old))) ++ drop at (hits_of (take len old))
    → hits_of (take (len + 1) (set xs at near)) ≡ put_hit (hit_at near) (hits_of (take len old))
hole_last xs old len at j x near s e le lt h is f put =
    let hits = hits_of (take len old) in
    let long : length hits ≡ len = hits_length old len (omega arith) in
    hole_filled xs old len at near le lt h
    (stopped (hit_at near) hits at j (hit_at x) s e (omega (arith, long)) (hit_before xs old len at j x e le lt h is) f put)

-- and before all
pub hole_first : (xs old : List Near) (len at : ℕ) (near : Near) → at ≡ 0 → len < length old → HasHole xs old len at
    → put_hit (hit_at near) (hits_of (take len old)) ≡ put_hit (hit_at near) (take at (hits_of (take len old))) ++ drop at (hits_of (take len old))
    → hits_of (take (len + 1) (set xs at near)) ≡ put_hit (hit_at near) (hits_of (take len old))
hole_first xs old len at near e lt h put =
    let hits = hits_of (take len old) in
    let own = hit_at near in
    let first : put_hit own hits ≡ put_hit own (take 0 hits) ++ drop 0 hits = put ∙ ap (λ n. put_hit own (take n hits) ++ drop n hits) e in
    hole_filled xs old len at near (omega arith) lt h (ap (λ n. insert hits n own) e ∙ sym first)

-- the k-th, and those before it
last_of : (nears : List Near) (k : ℕ) (x : Near) → 1 ≤ k → k ≤ length nears → x ≡ get_or nears (k - 1) x → hits_of (take k nears) ≡ hits_of (take (k - 1) nears) ++ hit_at x ∷ []
last_of nears k x some le is =
    let next : k ≡ k - 1 + 1 = omega arith in
    ap (λ n. hits_of (take n nears)) next ∙ map_more hit_at nears (k - 1) x (omega arith) ∙ ap (λ z. hits_of (take (k - 1) nears) ++ hit_at z ∷ []) (sym is)

pub front_ranked : (nears : List Near) (k : ℕ) (x : Near) → 1 ≤ k → k ≤ length nears → x ≡ get_or nears (k - 1) x → AreRanked (hits_of (take k nears)) → AreRanked (hits_of (take (k - 1) nears))
front_ranked nears k x some le is s =
    let front = hits_of (take (k - 1) nears) in
    subst AreRanked (take-append_seam front (hit_at x ∷ [])) (take_ranked (length front) (front ++ hit_at x ∷ []) (subst AreRanked (last_of nears k x some le is) s))

last_hit : (nears : List Near) (k : ℕ) (x : Near) → 1 ≤ k → k ≤ length nears → x ≡ get_or nears (k - 1) x → hit_at x ≡ get_or (hits_of (take k nears)) (k - 1) (hit_at x)
last_hit nears k x some le is =
    ap hit_at (is ∙ sym (get_or-take k nears (k - 1) x (omega arith)))
    ∙ sym (get_or-map hit_at (take k nears) (k - 1) x (hit_at x) (omega (arith, length-take-le k nears le)))

-- over the k-th, which doesn't come before it
pub put_full : (nears new : List Near) (k : ℕ) (x near : Near) → 1 ≤ k → k ≤ length nears → length new ≡ length nears → x ≡ get_or nears (k - 1) x → is_nearer (hit_at x) (hit_at near) ≡ false
    → hits_of (take (k - 1 + 1) new) ≡ put_hit (hit_at near) (hits_of (take (k - 1) nears)) → hits_of (take k new) ≡ take k (put_hit (hit_at near) (hits_of (take k nears)))
put_full nears new k x near some le same is f put =
    let h = hit_at near in
    let front = hits_of (take (k - 1) nears) in
    let hits = hits_of (take k nears) in
    let all : length hits ≡ k = hits_length nears k le in
    let next : k ≡ k - 1 + 1 = omega arith in
    let placed : hits_of (take k new) ≡ put_hit h front = ap (λ n. hits_of (take n new)) next ∙ put in
    let long : length (put_hit h front) ≡ k = ap length (sym placed) ∙ hits_length new k (omega arith) in
    let before : take (k - 1) hits ≡ front = ap (take (k - 1)) (last_of nears k x some le is) ∙ take_at front (hit_at x ∷ []) (k - 1) (hits_length nears (k - 1) (omega arith)) in
    let past = passed h hits k (k - 1) (hit_at x) (omega arith) (omega (arith, all)) (last_hit nears k x some le is) f (whole_first h hits k all) in
    placed ∙ sym (ap (take k) (past ∙ ap (λ z. put_hit h z ++ drop (k - 1) hits) before) ∙ take_at (put_hit h front) (drop (k - 1) hits) k long)

-- behind the k-th
pub put_past : (nears : List Near) (k : ℕ) (x near : Near) → 1 ≤ k → k ≤ length nears → x ≡ get_or nears (k - 1) x → AreRanked (hits_of (take k nears)) → is_nearer (hit_at x) (hit_at near) ≡ true
    → hits_of (take k nears) ≡ take k (put_hit (hit_at near) (hits_of (take k nears)))
put_past nears k x near some le is s t =
    let h = hit_at near in
    let hits = hits_of (take k nears) in
    let all : length hits ≡ k = hits_length nears k le in
    let put : insert hits k h ≡ put_hit h hits = stopped h hits k (k - 1) (hit_at x) s (omega arith) (omega (arith, all)) (last_hit nears k x some le is) t (whole_first h hits k all) in
    let behind : insert hits k h ≡ hits ++ h ∷ [] = ap (λ n. insert hits n h) (sym all) ∙ insert_end hits h in
    sym (ap (take k) (sym put ∙ behind) ∙ take_at hits (h ∷ []) k all)

pub placed_ranked : (new nears : List Near) (n len : ℕ) (near : Near) → AreRanked (hits_of (take len nears)) → hits_of (take n new) ≡ put_hit (hit_at near) (hits_of (take len nears)) → AreRanked (hits_of (take n new))
placed_ranked new nears n len near s e = subst AreRanked (sym e) (put_hit_ranked (hit_at near) (hits_of (take len nears)) s)
