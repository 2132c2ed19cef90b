-- One word and two.
use Rattle.std.proofs.Common.{◌≡◌, ◌↔◌, ℕ, ◌<◌, ◌≤◌, Bool, true, false, List, [], ◌∷◌, length, get_or, map, refl, sym, ap, ◌∙◌, arith}
use Rattle.std.specs.Bool.{Decides}
use Rattle.std.specs.Str.{bytes_eq}
use Rattle.std.proofs.lemmas.Slice.Eq.{bytes_eq-Decides}

-- the list of one word
pub one_word : {X Y : Type 0} (f : X → Y) (words : List X) (w : X) → 1 ≤ length words → length words < 2 → w ≡ get_or words 0 w → map f words ≡ f w ∷ []
one_word f [] w some few is = absurd (omega arith)
one_word f (x ∷ []) w some few is = ap (λ y. f y ∷ []) (sym is)
one_word f (x ∷ y ∷ words) w some few is = absurd (omega arith)

-- the list of two words
pub two_words : {X Y : Type 0} (f : X → Y) (words : List X) (v w : X) → 2 ≤ length words → length words < 3 → v ≡ get_or words 0 v → w ≡ get_or words 1 w → map f words ≡ f v ∷ f w ∷ []
two_words f [] v w some few is also = absurd (omega arith)
two_words f (x ∷ []) v w some few is also = absurd (omega arith)
two_words f (x ∷ y ∷ []) v w some few is also = cc
two_words f (x ∷ y ∷ z ∷ words) v w some few is also = absurd (omega arith)

tells_at : (b : Bool) (xs ys : List ℕ) → Decides b (xs ≡ ys) → (b ≡ true) ↔ (xs ∷ [] ≡ ys ∷ [])
tells_at true xs ys d = (λ _. ap (λ (x : List ℕ). x ∷ []) (d.0 refl), λ _. refl)
tells_at false xs ys d = (λ t. absurd (cc t), λ e. let same : xs ≡ ys = cc in let k : false ≡ true = d.1 same in cc)

-- a test of one word shows whether it is the list
pub tells_one : (b : Bool) (xs ys : List ℕ) → b ≡ bytes_eq xs ys → (b ≡ true) ↔ (xs ∷ [] ≡ ys ∷ [])
tells_one b xs ys e = rw e (tells_at (bytes_eq xs ys) xs ys (bytes_eq-Decides xs ys))

tells_both : (b : Bool) (xs ys vs ws : List ℕ) → xs ≡ ys → Decides b (vs ≡ ws) → (b ≡ true) ↔ (xs ∷ vs ∷ [] ≡ ys ∷ ws ∷ [])
tells_both true xs ys vs ws same d = (λ _. let e : vs ≡ ws = d.0 refl in cc (same, e), λ _. refl)
tells_both false xs ys vs ws same d = (λ t. absurd (cc t), λ e. let k : vs ≡ ws = cc (e) in let f : false ≡ true = d.1 k in cc (f))

first_same : (b : Bool) (xs ys : List ℕ) → Decides b (xs ≡ ys) → b ≡ true → xs ≡ ys
first_same true xs ys d t = d.0 refl
first_same false xs ys d t = absurd (cc t)

-- and so does one of two words
pub tells_two : (a b : Bool) (xs ys vs ws : List ℕ) → a ≡ bytes_eq xs ys → a ≡ true → b ≡ bytes_eq vs ws → (b ≡ true) ↔ (xs ∷ vs ∷ [] ≡ ys ∷ ws ∷ [])
tells_two a b xs ys vs ws e t h =
    rw h (tells_both (bytes_eq vs ws) xs ys vs ws (first_same (bytes_eq xs ys) xs ys (bytes_eq-Decides xs ys) (sym e ∙ t)) (bytes_eq-Decides vs ws))

-- where the first isn't the word, the list is another
pub tells_none : (a : Bool) (xs ys vs ws : List ℕ) → a ≡ bytes_eq xs ys → a ≡ false → (a ≡ true) ↔ (xs ∷ vs ∷ [] ≡ ys ∷ ws ∷ [])
tells_none a xs ys vs ws e f = (
  (λ t. absurd (cc (t, f))),
  λ same. let k : xs ≡ ys = cc (same) in e ∙ held (bytes_eq xs ys) (bytes_eq-Decides xs ys) k,
)
  where
    held : (b : Bool) → Decides b (xs ≡ ys) → xs ≡ ys → b ≡ true
    held true d k = refl
    held false d k = d.1 k
