-- The first field, and the fields behind it.
use Rattle.std.proofs.Common.{◌≡◌, ℕ, ◌+◌, ◌-◌, ◌<◌, ◌≤◌, true, false, cond, nat_eq, suc, List, [], ◌∷◌, length, take, drop, refl, ap, ◌∙◌, arith}
use Rattle.std.specs.List.{onto_first}
use Rattle.std.proofs.lemmas.List.{take_rest}
use Rattle.log_numbers.specs.Numerals.{first_field}
use Rattle.scan_log.specs.Lines.{fields_of}

-- after a first field that ends before the bytes do come the others
fields_first : (xs : List ℕ) → length (first_field xs) < length xs
    → fields_of xs ≡ first_field xs ∷ fields_of (drop (length (first_field xs) + 1) xs)
fields_first [] h = absurd (omega arith)
fields_first (x ∷ xs) h =
    elim (nat_eq x 32) as (λ b. length (cond b [] (x ∷ first_field xs)) < length xs + 1 → cond b ([] ∷ fields_of xs) (onto_first x (fields_of xs))
    ≡ cond b [] (x ∷ first_field xs) ∷ fields_of (drop (length (cond b [] (x ∷ first_field xs)) + 1) (x ∷ xs))) [
      | true ↦ λ k. refl
      | false ↦ λ k. ap (onto_first x) (fields_first xs (omega arith)) ∙ further
    ] (omega arith)
  where
    further : (x ∷ first_field xs) ∷ fields_of (drop (length (first_field xs) + 1) xs)
        ≡ (x ∷ first_field xs) ∷ fields_of (drop (length (x ∷ first_field xs) + 1) (x ∷ xs))
    further =
        let e : length (x ∷ first_field xs) + 1 ≡ suc (length (first_field xs) + 1) = omega arith in
        rw e refl

pub fields_more : (xs : List ℕ) → length (first_field xs) < length xs
    → fields_of xs ≡ first_field xs ∷ fields_of (take (length xs - (length (first_field xs) + 1)) (drop (length (first_field xs) + 1) xs))
fields_more xs h = rw (take_rest xs (length (first_field xs) + 1)) (fields_first xs h)

-- a first field that is all bytes is the only one
pub fields_last : (xs : List ℕ) → length xs ≤ length (first_field xs) → fields_of xs ≡ first_field xs ∷ []
fields_last [] h = refl
fields_last (x ∷ xs) h =
    elim (nat_eq x 32) as (λ b. length xs + 1 ≤ length (cond b [] (x ∷ first_field xs)) → cond b ([] ∷ fields_of xs) (onto_first x (fields_of xs))
    ≡ cond b [] (x ∷ first_field xs) ∷ []) [
      | true ↦ λ k. absurd (omega arith)
      | false ↦ λ k. ap (onto_first x) (fields_last xs (omega arith))
    ] (omega arith)
