-- The passes of the callers from 1 on, one by one.
use Rattle.std.proofs.Common.{◌≡◌, ℕ, ◌+◌, ◌<◌, ◌==◌, Bool, true, false, List, [], ◌∷◌, ◌++◌, length, Some, slice_get, ap, sym, ◌∙◌, refl, arith}
use Rattle.std.proofs.lemmas.Bool.Decides.{nat_tests}
use Rattle.shown_versions.specs.Marks.{Seen, seen_by_new}
use Rattle.published_map.proofs.Marking.{get_prefix, get_snoc}

made_by : (xs ys : List Seen) (x : Seen) (n k : ℕ) → ys ≡ xs ++ x ∷ [] → x ≡ seen_by_new (n + 1) → length xs ≡ n → ((j : ℕ) → j < n → slice_get xs j ≡ Some (seen_by_new (j + 1)))
    → k < n + 1 → (b : Bool) → (k == n) ≡ b → slice_get ys k ≡ Some (seen_by_new (k + 1))
made_by xs ys x n k is new long all le true at =
    let here : k ≡ n = grind (arith, nat_tests) in
    ap (λ zs. slice_get zs k) is ∙ (ap (λ j. slice_get (xs ++ x ∷ []) j) (here ∙ sym long) ∙ (get_snoc xs x ∙ ap (λ s. Some s) (new ∙ ap (λ j. seen_by_new (j + 1)) (sym here))))
made_by xs ys x n k is new long all le false at =
    let less : k < n = grind (arith, nat_tests) in get_prefix xs ys k (seen_by_new (k + 1)) (x ∷ [], sym is) (all k less)

pub made_snoc : (xs ys : List Seen) (x : Seen) (n : ℕ) → ys ≡ xs ++ x ∷ [] → x ≡ seen_by_new (n + 1) → length xs ≡ n → ((j : ℕ) → j < n → slice_get xs j ≡ Some (seen_by_new (j + 1)))
    → (k : ℕ) → k < n + 1 → slice_get ys k ≡ Some (seen_by_new (k + 1))
made_snoc xs ys x n is new long all k le = made_by xs ys x n k is new long all le (k == n) refl
