-- Paths of which none begins with another, and what is balanced outside them.
use Rattle.std.proofs.Common.{◌≡◌, ℕ, Bool, true, false, List, [], ◌∷◌, ◌++◌, inl, inr, refl, ap}
use Rattle.std.specs.Prelude.{◌⊎◌}
use Rattle.kd_tree.specs.Shape.{Shape, leaf, fork}
use Rattle.kd_tree.specs.Apart.{AreAllApart, AreApart, IsClear, is_here, onward}
use Rattle.kd_tree.specs.declared.path.Side.{Side}
use Rattle.kd_tree.specs.declared.path.Side.TheVariants.{Left, Right}
use Rattle.kd_mark.specs.Several.{IsBalancedClear}
use Rattle.kd_update.specs.Detached.{PartAt, paths}

pub apart_sym : (p q : List Side) → AreApart p q → AreApart q p
apart_sym [] q k = absurd k
apart_sym (side ∷ p) [] k = absurd k
apart_sym (Left ∷ p) (Left ∷ q) k = apart_sym p q k
apart_sym (Left ∷ p) (Right ∷ q) k = tt
apart_sym (Right ∷ p) (Left ∷ q) k = tt
apart_sym (Right ∷ p) (Right ∷ q) k = apart_sym p q k

-- no path is apart from itself
pub apart_itself : (p : List Side) → AreApart p p → ⊥
apart_itself [] k = k
apart_itself (Left ∷ p) k = apart_itself p k
apart_itself (Right ∷ p) k = apart_itself p k

-- one of several is clear of the others
pub clear_of_others : (front : List PartAt) (p : PartAt) (back : List PartAt) → AreAllApart (paths (front ++ p ∷ back)) → IsClear p.path (paths (front ++ back))
clear_of_others [] p back k = k.0
clear_of_others (q ∷ front) p back k = (apart_sym q.path p.path (first front k.0), clear_of_others front p back k.1)
  where
    first : (front : List PartAt) → IsClear q.path (paths (front ++ p ∷ back)) → AreApart q.path p.path
    first [] c = c.0
    first (r ∷ front) c = first front c.1

-- the path is one of these
abbrev pub IsOneOf : List Side → List (List Side) → Type 0
IsOneOf p [] = ⊥
IsOneOf p (q ∷ qs) = (p ≡ q) ⊎ IsOneOf p qs

-- each of the first is one of the second
abbrev pub AreOnesOf : List (List Side) → List (List Side) → Type 0
AreOnesOf ps qs = (p : List Side) → IsOneOf p ps → IsOneOf p qs

here_one : (ps : List (List Side)) → is_here ps ≡ true → IsOneOf [] ps
here_one [] e = absurd cc
here_one ([] ∷ ps) e = inl refl
here_one ((side ∷ p) ∷ ps) e = inr (here_one ps e)

one_here : (ps : List (List Side)) → IsOneOf [] ps → is_here ps ≡ true
one_here [] k = absurd k
one_here ([] ∷ ps) k = refl
one_here ((side ∷ p) ∷ ps) (inl e) = absurd cc
one_here ((side ∷ p) ∷ ps) (inr k) = one_here ps k

onward_one : (side : Side) (p : List Side) (ps : List (List Side)) → IsOneOf p (onward side ps) → IsOneOf (side ∷ p) ps
onward_one side p [] k = absurd k
onward_one side p ([] ∷ ps) k = inr (onward_one side p ps k)
onward_one Left p ((Left ∷ q) ∷ ps) (inl e) = inl (ap (λ (r : List Side). Left ∷ r) e)
onward_one Left p ((Left ∷ q) ∷ ps) (inr k) = inr (onward_one Left p ps k)
onward_one Left p ((Right ∷ q) ∷ ps) k = inr (onward_one Left p ps k)
onward_one Right p ((Left ∷ q) ∷ ps) k = inr (onward_one Right p ps k)
onward_one Right p ((Right ∷ q) ∷ ps) (inl e) = inl (ap (λ (r : List Side). Right ∷ r) e)
onward_one Right p ((Right ∷ q) ∷ ps) (inr k) = inr (onward_one Right p ps k)

one_onward : (side : Side) (p : List Side) (ps : List (List Side)) → IsOneOf (side ∷ p) ps → IsOneOf p (onward side ps)
one_onward side p [] k = absurd k
one_onward side p ([] ∷ ps) (inl e) = absurd cc
one_onward side p ([] ∷ ps) (inr k) = one_onward side p ps k
one_onward Left p ((Left ∷ q) ∷ ps) (inl e) = inl cc
one_onward Left p ((Left ∷ q) ∷ ps) (inr k) = inr (one_onward Left p ps k)
one_onward Left p ((Right ∷ q) ∷ ps) (inl e) = absurd cc
one_onward Left p ((Right ∷ q) ∷ ps) (inr k) = one_onward Left p ps k
one_onward Right p ((Left ∷ q) ∷ ps) (inl e) = absurd cc
one_onward Right p ((Left ∷ q) ∷ ps) (inr k) = one_onward Right p ps k
one_onward Right p ((Right ∷ q) ∷ ps) (inl e) = inl cc
one_onward Right p ((Right ∷ q) ∷ ps) (inr k) = inr (one_onward Right p ps k)

none_here : (ps qs : List (List Side)) → AreOnesOf ps qs → is_here qs ≡ false → is_here ps ≡ false
none_here ps qs f e = by (is_here ps) refl
  where
    by : (b : Bool) → is_here ps ≡ b → is_here ps ≡ false
    by true h = let k = one_here qs (f [] (here_one ps h)) in absurd cc
    by false h = h

-- what is balanced outside some paths is so outside more
pub balanced_more : (large : ℕ) (ps qs : List (List Side)) (t : Shape) → AreOnesOf ps qs → IsBalancedClear large ps t → IsBalancedClear large qs t
balanced_more large ps qs leaf f k = tt
balanced_more large ps qs (fork h l r) f k = λ e.
    let all = k (none_here ps qs f e) in (
      all.0,
      balanced_more large (onward Left ps) (onward Left qs) l (λ p m. one_onward Left p qs (f (Left ∷ p) (onward_one Left p ps m))) all.1,
      balanced_more large (onward Right ps) (onward Right qs) r (λ p m. one_onward Right p qs (f (Right ∷ p) (onward_one Right p ps m))) all.2,
    )

-- one of several is before the others
pub ones_moved : (front : List PartAt) (p : PartAt) (back : List PartAt) → AreOnesOf (paths (front ++ p ∷ back)) (p.path ∷ paths (front ++ back))
ones_moved [] p back q k = k
ones_moved (r ∷ front) p back q (inl e) = inr (inl e)
ones_moved (r ∷ front) p back q (inr k) = elim (ones_moved front p back q k) [ inl e ↦ inl e | inr m ↦ inr (inr m) ]
