-- Parts of a list of bytes, and prefixes that were written.
use Rattle.std.proofs.Common.{◌≡◌, ℕ, ◌+◌, ◌-◌, ◌≤◌, List, ◌++◌, length, take, drop, sym, ap, ◌∙◌, arith, length-drop, take-append-drop, Option}
use Rattle.std.specs.Prelude.{Result, Ok, Err, OnOk, OnErr}
use Rattle.std.specs.Io.KnownBytes.{Appends}
use Rattle.std.proofs.Math.Seq.{take-append_seam, take-length}
use Rattle.std.proofs.lemmas.List.{take_all, drop-drop, length-take-le}
use Rattle.byte_streams.specs.Outside.{AppendsFront}

-- a part from k on, as the code has it
pub rest_from : (k : ℕ) (xs : List ℕ) → take (length xs - k) (drop k xs) ≡ drop k xs
rest_from k xs = take_all (length xs - k) (drop k xs) (omega (arith, length-drop k xs))

-- n bytes at the place were copied to the front of a buffer
pub copied_front : (bytes copied buf : List ℕ) (at n : ℕ) → at + n ≤ length bytes → copied ≡ take n (drop at bytes)
    → drop at bytes ≡ take n (copied ++ drop n buf) ++ drop (at + n) bytes
copied_front bytes copied buf at n room e =
    let long : length copied ≡ n = rw e (length-take-le n (drop at bytes) (omega (arith, length-drop at bytes))) in
    let front : take n (copied ++ drop n buf) ≡ copied = ap (λ k. take k (copied ++ drop n buf)) (sym long) ∙ take-append_seam copied (drop n buf) in
    rw (front, e, ← drop-drop n at bytes) (sym (take-append-drop n (drop at bytes)))

-- all of it is a prefix
pub whole_front : (old new : Option (List ℕ)) (bytes : List ℕ) → Appends old new bytes → AppendsFront old new bytes
whole_front old new bytes h = (length bytes, rw take-length h)

-- whether all was written or not, a prefix was
pub front_either : {E : Type 0} (r : Result (Unit {0}) E) (old new : Option (List ℕ)) (bytes : List ℕ)
    → OnOk r (Appends old new bytes) → OnErr r (AppendsFront old new bytes) → AppendsFront old new bytes
front_either (Ok u) old new bytes h k = whole_front old new bytes h
front_either (Err e) old new bytes h k = k
