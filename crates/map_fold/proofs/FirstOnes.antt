-- The first k hits of a list in order.
use Rattle.std.proofs.Common.{◌≡◌, ℕ, zero, suc, ◌≤◌, ◌⊎◌, inl, inr, Bool, true, false, cond, List, [], ◌∷◌, length, take, refl, sym, ap, ◌∙◌, subst, arith}
use Rattle.map_fold.specs.declared.hits.Hit.{Hit}
use Rattle.map_fold.specs.Answers.{is_nearer, put_hit, in_order}
use Rattle.map_fold.specs.Nearest.{IsInOrder, AreFirst}
use Rattle.map_items.specs.Contents.{Member}
use Rattle.map_fold.proofs.Order.{nearer_not_back, nearer_not_itself, nearer_chain, nearer_either}

-- no number is in the list twice
abbrev pub Apart : List Hit → Type 0
Apart [] = Unit {0}
Apart (h ∷ hits) = ((g : Hit) → Member g hits → g.number ≡ h.number → ⊥) × Apart hits

-- what is put in is in the list
pub member-put_hit : (g h : Hit) (xs : List Hit) → Member g (put_hit h xs) → (g ≡ h) ⊎ Member g xs
member-put_hit g h [] m = m
member-put_hit g h (x ∷ xs) m =
    elim (is_nearer x h) as (λ b. Member g (cond b (x ∷ put_hit h xs) (h ∷ x ∷ xs)) → (g ≡ h) ⊎ Member g (x ∷ xs)) [
      | true ↦ λ n. elim n [ inl e ↦ inr (inl e) | inr q ↦ elim (member-put_hit g h xs q) [ inl e ↦ inl e | inr w ↦ inr (inr w) ] ]
      | false ↦ λ n. n
    ] m

pub put_hit_new : (h : Hit) (xs : List Hit) → Member h (put_hit h xs)
put_hit_new h [] = inl refl
put_hit_new h (x ∷ xs) = elim (is_nearer x h) as (λ b. Member h (cond b (x ∷ put_hit h xs) (h ∷ x ∷ xs))) [ true ↦ inr (put_hit_new h xs) | false ↦ inl refl ]

pub put_hit_old : (g h : Hit) (xs : List Hit) → Member g xs → Member g (put_hit h xs)
put_hit_old g h [] m = absurd m
put_hit_old g h (x ∷ xs) (inl e) = elim (is_nearer x h) as (λ b. Member g (cond b (x ∷ put_hit h xs) (h ∷ x ∷ xs))) [ true ↦ inl e | false ↦ inr (inl e) ]
put_hit_old g h (x ∷ xs) (inr m) = elim (is_nearer x h) as (λ b. Member g (cond b (x ∷ put_hit h xs) (h ∷ x ∷ xs))) [ true ↦ inr (put_hit_old g h xs m) | false ↦ inr (inr m) ]

-- the same hits are in the ordered list
pub in_order_from : (g : Hit) (xs : List Hit) → Member g (in_order xs) → Member g xs
in_order_from g [] m = m
in_order_from g (x ∷ xs) m = elim (member-put_hit g x (in_order xs) m) [ inl e ↦ inl e | inr n ↦ inr (in_order_from g xs n) ]

pub in_order_to : (g : Hit) (xs : List Hit) → Member g xs → Member g (in_order xs)
in_order_to g [] m = m
in_order_to g (x ∷ xs) (inl e) = subst (λ (h : Hit). Member h (put_hit x (in_order xs))) (sym e) (put_hit_new x (in_order xs))
in_order_to g (x ∷ xs) (inr m) = put_hit_old g x (in_order xs) (in_order_to g xs m)

-- whether a test passes
tested : (b : Bool) → (b ≡ true) ⊎ (b ≡ false)
tested true = inl refl
tested false = inr refl

not_before : (x h : Hit) → is_nearer x h ≡ false → (h.number ≡ x.number → ⊥) → is_nearer h x ≡ true
not_before x h e other =
    elim (nearer_either h x) [
      | inl same ↦ absurd (other same)
      | inr either ↦ elim either [ inl first ↦ first | inr back ↦ absurd (cc (back, e)) ]
    ]

pub put_hit_by : (h x : Hit) (xs : List Hit) → is_nearer x h ≡ true → put_hit h (x ∷ xs) ≡ x ∷ put_hit h xs
put_hit_by h x xs e = rw e refl

pub put_hit_front : (h x : Hit) (xs : List Hit) → is_nearer x h ≡ false → put_hit h (x ∷ xs) ≡ h ∷ x ∷ xs
put_hit_front h x xs e = rw e refl

pub put_hit_in_order : (h : Hit) (xs : List Hit) → IsInOrder xs → ((g : Hit) → Member g xs → g.number ≡ h.number → ⊥) → IsInOrder (put_hit h xs)
put_hit_in_order h [] s new = ((λ g m. absurd m), tt)
put_hit_in_order h (x ∷ xs) s new =
    elim (tested (is_nearer x h)) [
      | inl e ↦ subst IsInOrder (sym (put_hit_by h x xs e)) (
        (λ g m. elim (member-put_hit g h xs m) [ inl same ↦ subst (λ (w : Hit). is_nearer x w ≡ true) (sym same) e | inr n ↦ s.0 g n ]),
        put_hit_in_order h xs s.1 (λ g m. new g (inr m)),
      )
      | inr e ↦
          let first : is_nearer h x ≡ true = not_before x h e (λ same. new x (inl refl) (sym same)) in
          subst IsInOrder (sym (put_hit_front h x xs e)) (
            (λ g m. elim m [ inl same ↦ subst (λ (w : Hit). is_nearer h w ≡ true) (sym same) first | inr n ↦ nearer_chain h x g first (s.0 g n) ]),
            s,
          )
    ]

pub in_order_is : (xs : List Hit) → Apart xs → IsInOrder (in_order xs)
in_order_is [] a = tt
in_order_is (x ∷ xs) a = put_hit_in_order x (in_order xs) (in_order_is xs a.1) (λ g m. a.0 g (in_order_from g xs m))

-- a member of a prefix is one of the list
pub member-take : (g : Hit) (k : ℕ) (xs : List Hit) → Member g (take k xs) → Member g xs
member-take g zero xs m = absurd m
member-take g (suc k) [] m = absurd m
member-take g (suc k) (x ∷ xs) (inl e) = inl e
member-take g (suc k) (x ∷ xs) (inr m) = inr (member-take g k xs m)

take_in_order : (k : ℕ) (xs : List Hit) → IsInOrder xs → IsInOrder (take k xs)
take_in_order zero xs s = tt
take_in_order (suc k) [] s = tt
take_in_order (suc k) (x ∷ xs) s = ((λ g m. s.0 g (member-take g k xs m)), take_in_order k xs s.1)

take_few : (k : ℕ) (xs : List Hit) → length (take k xs) ≤ k
take_few zero xs = omega arith
take_few (suc k) [] = omega arith
take_few (suc k) (x ∷ xs) = omega (arith, take_few k xs)

-- what is in an ordered list is among the first k, or comes after k of it
take_rest : (k : ℕ) (xs : List Hit) (h : Hit) → IsInOrder xs → Member h xs
    → Member h (take k xs) ⊎ ((length (take k xs) ≡ k) × ((g : Hit) → Member g (take k xs) → is_nearer g h ≡ true))
take_rest zero xs h s m = inr (refl, λ g n. absurd n)
take_rest (suc k) [] h s m = absurd m
take_rest (suc k) (x ∷ xs) h s (inl e) = inl (inl e)
take_rest (suc k) (x ∷ xs) h s (inr m) =
    elim (take_rest k xs h s.1 m) [
      | inl n ↦ inl (inr n)
      | inr far ↦ inr (
        omega (arith, far.0),
        λ g n. elim n [ inl same ↦ subst (λ (w : Hit). is_nearer w h ≡ true) (sym same) (s.0 h m) | inr later ↦ far.1 g later ],
      )
    ]

-- the first k in order of a list in which no number is twice
pub first_are : (k : ℕ) (xs : List Hit) → Apart xs → AreFirst k xs (take k (in_order xs))
first_are k xs a =
    let s = in_order_is xs a in
    record {
      ordered = take_in_order k (in_order xs) s;
      few = take_few k (in_order xs);
      from = λ h m. in_order_from h xs (member-take h k (in_order xs) m);
      rest = λ h m. take_rest k (in_order xs) h s (in_order_to h xs m);
    }

-- the same hits in another order have the same first k
pub first_same : (k : ℕ) (xs ys hits : List Hit) → ((h : Hit) → Member h xs → Member h ys) → ((h : Hit) → Member h ys → Member h xs) → AreFirst k xs hits → AreFirst k ys hits
first_same k xs ys hits to back f = record { ordered = f.ordered; few = f.few; from = λ h m. to h (f.from h m); rest = λ h m. f.rest h (back h m) }

-- the first k in order of an ordered list are its first k
first_front : (k : ℕ) (xs hits : List Hit) → IsInOrder xs → AreFirst k xs hits → hits ≡ take k xs
first_front k [] [] s f = nothing k
  where
    nothing : (k : ℕ) → [] ≡ take k (let none : List Hit = [] in none)
    nothing zero = refl
    nothing (suc k) = refl
first_front k [] (h ∷ hits) s f = absurd (f.from h (inl refl))
first_front zero (x ∷ xs) [] s f = refl
first_front zero (x ∷ xs) (h ∷ hits) s f = absurd (omega (arith, f.few))
first_front (suc k) (x ∷ xs) [] s f =
    elim (f.rest x (inl refl)) [ inl m ↦ absurd m | inr far ↦ absurd (omega (arith, far.0)) ]
first_front (suc k) (x ∷ xs) (h ∷ hits) s f =
    let same : h ≡ x = is_head in
    let F : Hit → List Hit → List Hit = λ y ys. y ∷ ys in
    ap (λ y. F y hits) same ∙ ap (λ ys. F x ys) (first_front k xs hits s.1 (tail same))
  where
    not_earlier : is_nearer h x ≡ true → ⊥
    not_earlier e = elim (f.from h (inl refl)) [
      | inl same ↦ nearer_not_itself x (subst (λ (w : Hit). is_nearer w x ≡ true) same e)
      | inr m ↦ nearer_not_back x h (s.0 h m) e
    ]

    is_head : h ≡ x
    is_head = elim (f.rest x (inl refl)) [
      | inl m ↦ elim m [ inl same ↦ sym same | inr later ↦ absurd (not_earlier (f.ordered.0 x later)) ]
      | inr far ↦ absurd (not_earlier (far.1 h (inl refl)))
    ]

    tail : h ≡ x → AreFirst k xs hits
    tail same = record {
      ordered = f.ordered.1;
      few = omega (arith, f.few);
      from = λ g m. elim (f.from g (inr m)) [
        | inl e ↦ absurd (nearer_not_itself x (subst (λ (w : Hit). is_nearer w x ≡ true) same (subst (λ (w : Hit). is_nearer h w ≡ true) e (f.ordered.0 g m))))
        | inr n ↦ n
      ];
      rest = λ g m. elim (f.rest g (inr m)) [
        | inl n ↦ elim n [
          | inl e ↦ absurd (nearer_not_itself x (subst (λ (w : Hit). is_nearer x w ≡ true) (e ∙ same) (s.0 g m)))
          | inr later ↦ inl later
        ]
        | inr far ↦ inr (omega (arith, far.0), λ w n. far.1 w (inr n))
      ];
    }

-- the first k in order are one list
pub first_unique : (k : ℕ) (xs hits : List Hit) → Apart xs → AreFirst k xs hits → hits ≡ take k (in_order xs)
first_unique k xs hits a f =
    first_front k (in_order xs) hits (in_order_is xs a) (first_same k xs (in_order xs) hits (λ h m. in_order_to h xs m) (λ h m. in_order_from h xs m) f)
