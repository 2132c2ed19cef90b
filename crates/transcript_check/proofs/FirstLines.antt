-- The first field and the first line of bytes, and the mark that a line spells.
use Rattle.std.proofs.Common.{◌≡◌, ℕ, zero, suc, ◌+◌, ◌<◌, Bool, true, false, List, [], ◌∷◌, ◌++◌, length, get_or, take, refl, sym, ap, ◌∙◌, arith, nat_eq, Option, Some, None, Result, Ok, Err, MatchOption, Bor, append_assoc}
use Rattle.std.specs.Prelude.{decimal}
use Rattle.std.specs.List.{AllByRecursion}
use Rattle.std.specs.Result.{result_ok}
use Rattle.std.proofs.lemmas.Bool.Decides.{nat_tests}
use Rattle.std.proofs.lemmas.List.{append_cancel_left}
use Rattle.memchr.specs.Find.{IsFirstByte, is_byte}
use Rattle.log_numbers.specs.Numerals.{first_field}
use Rattle.scan_log.specs.declared.fault.LogCause.{LogCause}
use Rattle.scan_log.specs.Numbers.{natural_in}
use Rattle.scan_log.proofs.NumbersAgain.{natural_in-decimal}
use Rattle.scan_log.proofs.Spelled.{natural_takes}
use Rattle.transcript_check.specs.Heads.{SpellsMark, IsNoFeed, IsMarked}

-- the byte at k is the first of its kind
pub record IsFirstAt (b : ℕ) (xs : List ℕ) (k : ℕ) : Type 0 where
  pub within : k < length xs
  pub here : get_or xs k 0 ≡ b
  pub before : (j : ℕ) → j < k → get_or xs j 0 ≡ b → ⊥

abbrev pub IsNowhere : ℕ → List ℕ → Type 0
IsNowhere b xs = (j : ℕ) → j < length xs → get_or xs j 0 ≡ b → ⊥

test_true : (x b : ℕ) → x ≡ b → nat_eq x b ≡ true
test_true x b e = grind (arith, nat_tests)

from_test : (x b : ℕ) → nat_eq x b ≡ true → x ≡ b
from_test x b e = grind (arith, nat_tests)

-- what `memchr` returns
pub first_at : (b : ℕ) (xs : List ℕ) (k : ℕ) → IsFirstByte (is_byte b) xs (Some k) → IsFirstAt b xs k
first_at b xs k h = record {
  within = h.0.high;
  here = from_test _ b h.1;
  before = λ j low e. h.0.before j (omega arith) low (test_true _ b e);
}

pub nowhere : (b : ℕ) (xs : List ℕ) → IsFirstByte (is_byte b) xs None → IsNowhere b xs
nowhere b xs h = λ j low e. h j (omega arith) low (test_true _ b e)

tail_first : (b x k : ℕ) (xs : List ℕ) → IsFirstAt b (x ∷ xs) (suc k) → IsFirstAt b xs k
tail_first b x k xs h = record {
  within = (let w : suc k < suc (length xs) = h.within in omega arith);
  here = h.here;
  before = λ j low e. h.before (suc j) (omega arith) e;
}

-- a space ends the first field
pub field_to : (xs : List ℕ) (k : ℕ) → IsFirstAt 32 xs k → take k xs ≡ first_field xs
field_to [] k h = absurd (let w : k < 0 = h.within in omega arith)
field_to (x ∷ xs) zero h = let e : nat_eq x 32 ≡ true = test_true x 32 h.here in rw e refl
field_to (x ∷ xs) (suc k) h =
    let e : nat_eq x 32 ≡ false = other x (h.before 0 (omega arith)) in
    rw e (ap (λ ys. x ∷ ys) (field_to xs k (tail_first 32 x k xs h)))
  where
    other : (x : ℕ) → (x ≡ 32 → ⊥) → nat_eq x 32 ≡ false
    other x never = by_case (nat_eq x 32) refl
      where
        by_case : (b : Bool) → nat_eq x 32 ≡ b → nat_eq x 32 ≡ false
        by_case true e = absurd (never (from_test x 32 e))
        by_case false e = e

-- without a space all is one field
pub field_all : (xs : List ℕ) → IsNowhere 32 xs → xs ≡ first_field xs
field_all [] h = refl
field_all (x ∷ xs) h =
    let e : nat_eq x 32 ≡ false = other x (h 0 (omega arith)) in
    rw e (ap (λ ys. x ∷ ys) (field_all xs (λ j low is. h (suc j) (omega arith) is)))
  where
    other : (x : ℕ) → (x ≡ 32 → ⊥) → nat_eq x 32 ≡ false
    other x never = by_case (nat_eq x 32) refl
      where
        by_case : (b : Bool) → nat_eq x 32 ≡ b → nat_eq x 32 ≡ false
        by_case true e = absurd (never (from_test x 32 e))
        by_case false e = e

-- what is after `front` and `word` is after `word`, in what is after `front`
pub behind_both : (front word line middle : List ℕ) (r : Option (Bor (List ℕ))) → line ≡ front ++ middle
    → MatchOption r ((rest : List ℕ) → middle ≡ word ++ rest → ⊥) (λ rest. middle ≡ word ++ rest.now)
    → MatchOption r ((rest : List ℕ) → line ≡ front ++ word ++ rest → ⊥) (λ rest. line ≡ front ++ word ++ rest.now)
behind_both front word line middle None e h =
    λ rest is. h rest (append_cancel_left front middle (word ++ rest) (sym e ∙ is ∙ append_assoc front word rest))
behind_both front word line middle (Some rest) e h = e ∙ ap (λ ys. front ++ ys) h ∙ sym (append_assoc front word rest.now)

-- the mark that is read behind the head is the one that the line spells
pub mark_read : (head : List ℕ) (line behind field : List ℕ) (r : Result ℕ LogCause) (o : Option ℕ)
    → line ≡ head ++ behind → field ≡ first_field behind → r ≡ natural_in 0 65536 field → o ≡ result_ok r
    → MatchOption o ((m : ℕ) → SpellsMark head line m → ⊥) (λ m. SpellsMark head line m)
mark_read head line behind field (Ok m) o begun is read same =
    rw same (
    let t = natural_takes 0 65536 field m (omega arith) (omega arith) (sym read) in
    record { behind = behind; begun = begun; number = sym is ∙ t.text; few = t.to })
mark_read head line behind field (Err e) o begun is read same =
    rw same (λ m s.
    let same_rest : behind ≡ s.behind = append_cancel_left (head) behind s.behind (sym begun ∙ s.begun) in
    let spelled : field ≡ decimal m = is ∙ ap first_field same_rest ∙ s.number in
    let good : natural_in 0 65536 field ≡ Ok m = ap (natural_in 0 65536) spelled ∙ natural_in-decimal 0 65536 m (omega arith) (omega arith) s.few in
    let clash : ◌≡◌ {A = Result ℕ LogCause} (Err e) (Ok m) = read ∙ good in
    cc)

-- the line before the first feed is the only one
pub line_before : (xs line behind : List ℕ) (k : ℕ) → IsFirstAt 10 xs k → AllByRecursion IsNoFeed line → xs ≡ (line ++ 10 ∷ []) ++ behind → line ≡ take k xs
line_before [] line behind k h plain e = absurd (let w : k < 0 = h.within in omega arith)
line_before (x ∷ xs) [] behind zero h plain e = refl
line_before (x ∷ xs) [] behind (suc k) h plain e = absurd (h.before 0 (omega arith) cc)
line_before (x ∷ xs) (b ∷ line) behind zero h plain e =
    let same : x ≡ b = cc in
    absurd (plain.0 (sym same ∙ h.here))
line_before (x ∷ xs) (b ∷ line) behind (suc k) h plain e =
    let same : x ≡ b = cc in
    let tail : xs ≡ (line ++ 10 ∷ []) ++ behind = cc in
    ap (λ y. y ∷ line) (sym same) ∙ ap (λ ys. x ∷ ys) (line_before xs line behind k (tail_first 10 x k xs h) plain.1 tail)

plain_before : (xs : List ℕ) (k : ℕ) → IsFirstAt 10 xs k → AllByRecursion IsNoFeed (take k xs)
plain_before [] zero h = tt
plain_before [] (suc k) h = tt
plain_before (x ∷ xs) zero h = tt
plain_before (x ∷ xs) (suc k) h = (h.before 0 (omega arith), plain_before xs k (tail_first 10 x k xs h))

ended_at : (xs : List ℕ) (k : ℕ) → IsFirstAt 10 xs k → take (k + 1) xs ≡ take k xs ++ 10 ∷ []
ended_at [] k h = absurd (let w : k < 0 = h.within in omega arith)
ended_at (x ∷ xs) zero h = ap (λ y. y ∷ []) h.here
ended_at (x ∷ xs) (suc k) h =
    let e : suc k + 1 ≡ suc (k + 1) = omega arith in
    rw e (ap (λ ys. x ∷ ys) (ended_at xs k (tail_first 10 x k xs h)))

-- the line up to the first feed, whose text spells the mark
pub marked_at : (head : List ℕ) (xs : List ℕ) (k m : ℕ) → IsFirstAt 10 xs k → SpellsMark head (take k xs) m → IsMarked head (take (k + 1) xs) m
marked_at head xs k m h s = record { line = take k xs; ended = ended_at xs k h; one = plain_before xs k h; spelled = s }

-- no line spells a mark where the text before the first feed spells none
pub none_marked : (head : List ℕ) (xs : List ℕ) (k : ℕ) → IsFirstAt 10 xs k → ((m : ℕ) → SpellsMark head (take k xs) m → ⊥)
    → (line behind : List ℕ) (m : ℕ) → xs ≡ line ++ behind → IsMarked head line m → ⊥
none_marked head xs k h never line behind m e is =
    let whole : xs ≡ (is.line ++ 10 ∷ []) ++ behind = e ∙ ap (λ (l : List ℕ). l ++ behind) is.ended in
    let same : is.line ≡ take k xs = line_before xs is.line behind k h is.one whole in
    never m (rw (← same) is.spelled)
