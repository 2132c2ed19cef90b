-- The exchange that adds a page keeps the rule of the book.
use Rattle.std.proofs.Common.{◌≡◌, ℕ, ◌+◌, ◌<◌, ◌≤◌, ◌==◌, Bool, true, false, List, [], ◌∷◌, ◌++◌, length, fold, refl, ap, sym, subst, arith, inl, length-append, None, ◌∙◌}
use Rattle.std.proofs.lemmas.List.{append-nil}
use Rattle.std.proofs.lemmas.Bool.Decides.{nat_tests}
use mathlib.Core.List.{IsPrefix}
use prog.Atomic.{either}
use Rattle.logbook.specs.Pages.{Cell, cell, keeps, no_nib, step, Moves, Goes}
use Rattle.shown_versions.specs.Book.{PageAt, IsBookOf, Adds}

abbrev Log : Type 0
Log = List PageAt

-- a prefix as long as the whole is the whole
prefix_whole : {A : Type 0} (xs ys : List A) → IsPrefix xs ys → length ys ≤ length xs → xs ≡ ys
prefix_whole [] [] p le = refl
prefix_whole [] (y ∷ ys) p le = absurd (omega arith)
prefix_whole (x ∷ xs) [] p le = absurd (cc (p.1))
prefix_whole (x ∷ xs) (y ∷ ys) p le =
    let rest : xs ≡ ys = prefix_whole xs ys (p.0, cc (p.1)) (omega arith) in cc (p.1, rest)

-- two prefixes of one list, of one length, are the same
pub prefix_same : {A : Type 0} (xs ys zs : List A) → IsPrefix xs zs → IsPrefix ys zs → length xs ≡ length ys → xs ≡ ys
prefix_same [] [] zs p q le = refl
prefix_same [] (y ∷ ys) zs p q le = absurd (omega arith)
prefix_same (x ∷ xs) [] zs p q le = absurd (omega arith)
prefix_same (x ∷ xs) (y ∷ ys) [] p q le = absurd (cc (p.1))
prefix_same (x ∷ xs) (y ∷ ys) (z ∷ zs) p q le =
    let heads : x ≡ y = cc (p.1, q.1) in
    let rest : xs ≡ ys = prefix_same xs ys zs (p.0, cc (p.1)) (q.0, cc (q.1)) (omega arith) in cc (heads, rest)

abbrev pub shown : Log → Log
shown log = []

abbrev pub moved : Log → Log → ℕ → Type 0
moved xs ys n = Unit {0}

adds_goes : (log v : Log) (e : PageAt) (old : ℕ) → length v ≡ old → IsPrefix v log → (b : Bool) → (length log == old) ≡ b
    → Goes IsBookOf shown moved 0 (v, (no_nib, None)) (λ n. either (n == old) (old + 1) n) (Adds (step 0 old (old + 1) e) (v, (no_nib, None))) ((length log, true) ∷ (0, true) ∷ []) log
adds_goes log v e old len pre true is =
    let here : length log ≡ old = grind (arith, nat_tests) in
    let same : v ≡ log = prefix_whole v log pre (omega arith) in
    let n : either (length log == old) (old + 1) (length log) ≡ length (log ++ e ∷ []) = rw is (omega (arith, length-append log (e ∷ []))) in (
      keeps,
      e ∷ [],
      None,
      tt,
      ap (λ (k : ℕ). (k, true) ∷ (0, true) ∷ []) n,
      inl (refl, refl),
      rw is (ap (λ w. w ++ e ∷ []) (sym same)),
    )
adds_goes log v e old len pre false is =
    let all : log ++ [] ≡ log = append-nil log in
    let n : either (length log == old) (old + 1) (length log) ≡ length (log ++ []) = rw is (ap length (sym all)) in (
      keeps,
      [],
      None,
      tt,
      ap (λ (k : ℕ). (k, true) ∷ (0, true) ∷ []) n,
      inl (refl, refl),
      rw is (ap length all),
    )

-- whatever the book is, the exchange adds the page to all that was seen, or finds that there are more
pub adds_moves : (v : Log) (e : PageAt) (old : ℕ) → length v ≡ old
    → Moves IsBookOf shown moved 0 (v, (no_nib, None)) (λ n. either (n == old) (old + 1) n) (Adds (step 0 old (old + 1) e) (v, (no_nib, None)))
adds_moves v e old len cs log kept pre away =
    let P : List Cell
    → Type 0 =
    λ c. (0 < length c) × ((cell c 0).1 ≡ true) × Goes IsBookOf shown moved 0 (v, (no_nib, None))
    (λ n. either (n == old) (old + 1) n) (Adds (step 0 old (old + 1) e) (v, (no_nib, None))) c log in
    subst P (sym kept) (omega arith, refl, adds_goes log v e old len pre (length log == old) refl)

last_counts : {A : Type 0} (b : A) (xs : List A) (x : A) → fold (λ _ h. h) b (xs ++ x ∷ []) ≡ x
last_counts b [] x = refl
last_counts b (y ∷ ys) x = last_counts y ys x
