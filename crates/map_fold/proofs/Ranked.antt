-- Where a hit goes among hits in order, looked for from the end.
use Rattle.std.proofs.Common.{◌≡◌, ℕ, zero, suc, ◌<◌, ◌⊎◌, inl, inr, Bool, true, false, cond, List, [], ◌∷◌, ◌++◌, length, take, drop, get_or, refl, sym, ap, ◌∙◌, subst, append_assoc}
use Rattle.std.specs.List.{insert}
use Rattle.std.proofs.Math.Seq.{take-suc}
use Rattle.map_fold.specs.declared.hits.Hit.{Hit}
use Rattle.map_fold.specs.Answers.{put_hit, is_nearer}
use Rattle.map_fold.specs.Nearest.{AreRanked}
use Rattle.map_items.specs.Contents.{Member}
use Rattle.map_fold.proofs.Order.{nearer_order}
use Rattle.map_fold.proofs.FirstOnes.{member-put_hit, member-take, put_hit_by, put_hit_front}
use Rattle.map_items.proofs.Numbered.{drop-at}

tested : (b : Bool) → (b ≡ true) ⊎ (b ≡ false)
tested true = inl refl
tested false = inr refl

-- one more in its place among hits in order
pub put_hit_ranked : (h : Hit) (xs : List Hit) → AreRanked xs → AreRanked (put_hit h xs)
put_hit_ranked h [] s = ((λ g m. absurd m), tt)
put_hit_ranked h (x ∷ xs) s =
    elim (tested (is_nearer x h)) [
      | inl e ↦ subst AreRanked (sym (put_hit_by h x xs e)) (
        (λ g m. elim (member-put_hit g h xs m) [ inl same ↦ subst (λ (w : Hit). is_nearer w x ≡ false) (sym same) (nearer_order.one_way x h e) | inr n ↦ s.0 g n ]),
        put_hit_ranked h xs s.1,
      )
      | inr e ↦ subst AreRanked (sym (put_hit_front h x xs e)) (
        (λ g m. elim m [ inl same ↦ subst (λ (w : Hit). is_nearer w h ≡ false) (sym same) e | inr n ↦ nearer_order.chain g x h (s.0 g n) e ]),
        s,
      )
    ]

-- a prefix of hits in order
pub take_ranked : (k : ℕ) (xs : List Hit) → AreRanked xs → AreRanked (take k xs)
take_ranked zero xs s = tt
take_ranked (suc k) [] s = tt
take_ranked (suc k) (x ∷ xs) s = ((λ g m. s.0 g (member-take g k xs m)), take_ranked k xs s.1)

-- a last hit that doesn't come before h stays the last
put_hit-last : (h x : Hit) (xs : List Hit) → is_nearer x h ≡ false → put_hit h (xs ++ x ∷ []) ≡ put_hit h xs ++ x ∷ []
put_hit-last h x [] e = put_hit_front h x [] e
put_hit-last h x (y ∷ xs) e =
    elim (is_nearer y h) as (λ b. cond b (y ∷ put_hit h (xs ++ x ∷ [])) (h ∷ y ∷ (xs ++ x ∷ [])) ≡ cond b (y ∷ put_hit h xs) (h ∷ y ∷ xs) ++ x ∷ []) [
      | true ↦ ap (λ ys. y ∷ ys) (put_hit-last h x xs e)
      | false ↦ refl
    ]

member_last : (x : Hit) (xs : List Hit) → Member x (xs ++ x ∷ [])
member_last x [] = inl refl
member_last x (y ∷ xs) = inr (member_last x xs)

-- where the last of hits in order comes before h, h goes behind it
put_hit-behind : (h x : Hit) (xs : List Hit) → AreRanked (xs ++ x ∷ []) → is_nearer x h ≡ true → put_hit h (xs ++ x ∷ []) ≡ (xs ++ x ∷ []) ++ h ∷ []
put_hit-behind h x [] s e = put_hit_by h x [] e
put_hit-behind h x (y ∷ xs) s e =
    elim (tested (is_nearer y h)) [
      | inl f ↦ put_hit_by h y (xs ++ x ∷ []) f ∙ ap (λ ys. y ∷ ys) (put_hit-behind h x xs s.1 e)
      | inr f ↦ absurd (cc (e, nearer_order.chain x y h (s.0 x (member_last x xs)) f))
    ]

one_more : (hits : List Hit) (n j : ℕ) (x : Hit) → n ≡ suc j → j < length hits → x ≡ get_or hits j x → take n hits ≡ take j hits ++ x ∷ []
one_more hits n j x e below is = rw e (take-suc hits j x below ∙ ap (λ y. take j hits ++ y ∷ []) (sym is))

-- the search from the end passes x, which doesn't come before h
pub passed : (h : Hit) (hits : List Hit) (n j : ℕ) (x : Hit) → n ≡ suc j → j < length hits → x ≡ get_or hits j x → is_nearer x h ≡ false
    → put_hit h hits ≡ put_hit h (take n hits) ++ drop n hits → put_hit h hits ≡ put_hit h (take j hits) ++ drop j hits
passed h hits n j x e below is f so_far =
    so_far
    ∙ ap (λ ys. put_hit h ys ++ drop n hits) (one_more hits n j x e below is)
    ∙ ap (λ ys. ys ++ drop n hits) (put_hit-last h x (take j hits) f)
    ∙ append_assoc (put_hit h (take j hits)) (x ∷ []) (drop n hits)
    ∙ ap (λ ys. put_hit h (take j hits) ++ ys) (sym (drop-at hits n j x e below is))

-- it ends behind x, which comes before h
pub stopped : (h : Hit) (hits : List Hit) (n j : ℕ) (x : Hit) → AreRanked hits → n ≡ suc j → j < length hits → x ≡ get_or hits j x → is_nearer x h ≡ true
    → put_hit h hits ≡ put_hit h (take n hits) ++ drop n hits → insert hits n h ≡ put_hit h hits
stopped h hits n j x s e below is f so_far =
    let front = one_more hits n j x e below is in
    let ranked : AreRanked (take j hits ++ x ∷ []) = subst AreRanked front (take_ranked n hits s) in
    let behind : put_hit h (take n hits) ≡ take n hits ++ h ∷ [] = rw front (put_hit-behind h x (take j hits) ranked f) in
    sym (so_far ∙ ap (λ ys. ys ++ drop n hits) behind ∙ append_assoc (take n hits) (h ∷ []) (drop n hits))
