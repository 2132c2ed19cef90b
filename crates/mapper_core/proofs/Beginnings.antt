-- Beginnings of one list.
use Rattle.std.proofs.Common.{◌≡◌, ℕ, zero, suc, ◌≤◌, List, [], ◌∷◌, ◌++◌, length, take, drop, Some, slice_get, refl, ap, sym, ◌∙◌, arith, append_assoc, append-nil, length-append}
use Rattle.std.proofs.Math.Seq.{take-append_seam}
use Rattle.std.proofs.lemmas.List.{take-append-le}
use mathlib.Core.List.{IsPrefix}

pub prefix_self : {A : Type 0} (xs : List A) → IsPrefix xs xs
prefix_self xs = ([], append-nil xs)

pub prefix_trans : {A : Type 0} (xs ys zs : List A) → IsPrefix xs ys → IsPrefix ys zs → IsPrefix xs zs
prefix_trans xs ys zs p q = (p.0 ++ q.0, sym (append_assoc xs p.0 q.0) ∙ (ap (λ w. w ++ q.0) p.1 ∙ q.1))

pub prefix_length : {A : Type 0} (xs ys : List A) → IsPrefix xs ys → length xs ≤ length ys
prefix_length xs ys p = let e = ap length p.1 in omega (arith, length-append xs p.0)

-- the first elements of a prefix are those of the whole
pub take_early : {A : Type 0} (xs ys : List A) (m : ℕ) → IsPrefix xs ys → m ≤ length xs → take m ys ≡ take m xs
take_early xs ys m p le = ap (take m) (sym p.1) ∙ take-append-le m xs p.0 le

pub take_prefix : {A : Type 0} (xs ys : List A) → IsPrefix xs ys → take (length xs) ys ≡ xs
take_prefix xs ys p = ap (take (length xs)) (sym p.1) ∙ take-append_seam xs p.0

pub drop_get : {A : Type 0} (xs : List A) (k : ℕ) (x : A) → slice_get xs k ≡ Some x → drop k xs ≡ x ∷ drop (suc k) xs
drop_get [] k x h = absurd cc
drop_get (y ∷ xs) zero x h = cc (h)
drop_get (y ∷ xs) (suc k) x h = drop_get xs k x h

pub get_of_drop : {A : Type 0} (xs rest : List A) (k : ℕ) (x : A) → drop k xs ≡ x ∷ rest → slice_get xs k ≡ Some x
get_of_drop [] rest zero x is = absurd (cc is)
get_of_drop [] rest (suc k) x is = absurd (cc is)
get_of_drop (y ∷ xs) rest zero x is = let e : y ≡ x = cc (is) in ap (λ z. Some z) e
get_of_drop (y ∷ xs) rest (suc k) x is = get_of_drop xs rest k x is

pub take_next : {A : Type 0} (xs : List A) (k : ℕ) (x : A) → slice_get xs k ≡ Some x → take (suc k) xs ≡ take k xs ++ x ∷ []
take_next [] k x at = absurd cc
take_next (y ∷ xs) zero x at = let e : y ≡ x = cc (at) in ap (λ z. z ∷ take 0 xs) e ∙ ap (λ ys. x ∷ ys) (none xs)
  where
    none : {A : Type 0} (zs : List A) → take 0 zs ≡ []
    none [] = refl
    none (z ∷ zs) = refl
take_next (y ∷ xs) (suc k) x at = ap (λ ys. y ∷ ys) (take_next xs k x at)
