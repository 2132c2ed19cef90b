-- Where a byte is first.
use Rattle.std.proofs.Common.{◌≡◌, ℕ, ◌+◌, ◌<◌, Bool, true, false, nat_eq, nat_lt, List, length, Option, Some, None, refl, arith}
use Rattle.std.specs.List.{position, position_or_len}
use Rattle.std.proofs.lemmas.Bool.Decides.{nat_tests}
use Rattle.std.proofs.lemmas.List.Sums.{position_or_len_is}
use Rattle.memchr.specs.Find.{IsFirstByte, is_byte}

is_false : (b : Bool) → ¬ (b ≡ true) → b ≡ false
is_false true h = absurd (h refl)
is_false false h = refl

pub first_place : (b : ℕ) (xs : List ℕ) (r : Option ℕ) → IsFirstByte (is_byte b) xs r → r ≡ position (λ x. nat_eq x b) xs
first_place b xs (Some k) h =
    let high : k < length xs = h.0.high in
    let is : position_or_len (λ x. nat_eq x b) xs ≡ k =
    position_or_len_is (λ x. nat_eq x b) xs k 0 (omega arith) (λ j low. is_false _ (h.0.before j (omega arith) low)) (λ _. h.1) in
    let in_it : nat_lt k (length xs) ≡ true = grind (arith, nat_tests) in
    rw (is, in_it) refl
first_place b xs None h =
    let is : position_or_len (λ x. nat_eq x b) xs ≡ length xs =
    position_or_len_is (λ x. nat_eq x b) xs (length xs) 0 (omega arith) (λ j low. is_false _ (h j (omega arith) low)) (λ no. absurd (omega arith)) in
    let past : nat_lt (length xs) (length xs) ≡ false = grind (arith, nat_tests) in
    rw (is, past) refl
