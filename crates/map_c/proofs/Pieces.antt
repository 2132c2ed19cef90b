-- Lists made of one piece for each element.
use Rattle.std.proofs.Common.{◌≡◌, ◌+◌, ◌*◌, ◌<◌, ◌≤◌, ℕ, List, [], ◌++◌, length, length-append, take, sym, get_or, arith}
use Rattle.std.specs.List.{flat_map}
use Rattle.std.proofs.lemmas.List.{flat_map_more, take_more}

-- one piece more
pub piece_more : {X A : Type 0} (f : X → List A) (xs : List X) (i : ℕ) (d : X) → i < length xs → flat_map f (take (i + 1) xs) ≡ flat_map f (take i xs) ++ f (get_or xs i d)
piece_more f xs i d lt = rw (take_more xs i d lt) (sym (flat_map_more f [] (take i xs) (get_or xs i d)))

-- and n elements more
pub pieces_length : {X A : Type 0} (f : X → List A) (xs : List X) (i : ℕ) (d : X) (at : ℕ) → i < length xs → at ≡ length (flat_map f (take i xs))
    → at + length (f (get_or xs i d)) ≡ length (flat_map f (take (i + 1) xs))
pieces_length f xs i d at lt e = rw (piece_more f xs i d lt, e) (sym (length-append (flat_map f (take i xs)) (f (get_or xs i d))))

-- n pieces of at most k
pub pieces_fit : (i k at next : ℕ) → at ≤ i * k → next ≤ at + k → next ≤ (i + 1) * k
pieces_fit i k at next p q = grind (arith, p, q)
