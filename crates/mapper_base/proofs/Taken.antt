-- Which words are taken, and what is read in them.
use Rattle.std.proofs.Common.{◌≡◌, ◌≤◌, ◌==◌, ℕ, zero, suc, ◌&&◌, Bool, true, false, List, ◌∷◌, codes, decimal, bytes_eq, Option, Some, None, option_map, refl, sym, ap, ◌∙◌, subst, arith}
use Rattle.std.specs.Bool.{Decides}
use Rattle.std.proofs.lemmas.Bool.Decides.{nat_tests}
use Rattle.std.proofs.lemmas.Slice.Eq.{bytes_eq-Decides}
use Rattle.std.specs.Fmt.{digits}
use Rattle.std.specs.Prelude.{option_and_then}
use Rattle.clap.specs.Words.{Text, Row, takes, first_of, one_of, subcommand_of, is_simple, rows_of}
use Rattle.clap.specs.declared.parser.matches.Found.{Found}
use Rattle.clap.proofs.OnLiterals.{clap_on_literals}
use Rattle.clap.proofs.WalkLemmas.{first_value-rows, one_text-rows}
use Rattle.mapper_base.specs.declared.command_line.words.Ask.{Ask}
use Rattle.mapper_base.specs.declared.command_line.words.Ask.TheVariants.{Run, Serial, Make, Drive, Check}
use Rattle.mapper_base.specs.Asks.{CanBeDone, spelled}
use Rattle.mapper_base.specs.CommandLine.{IsMatch, mapper}
use Rattle.mapper_base.proofs.Digits.{taken_number}

abbrev pub is_text : Text → Option Text → Bool
is_text t None = false
is_text t (Some u) = bytes_eq u t

-- the subcommand of this name was met, and the text found
abbrev pub is_met : Text → Text → (List Row → Option Text) → Option (Text × List Row) → Bool
is_met word t read None = false
is_met word t read (Some p) = bytes_eq p.0 word && is_text t (read p.1)

abbrev pub argv : Ask → List Text
argv a = codes "mapper" ∷ spelled a

abbrev pub is_good : Ask → Bool
is_good Run = takes mapper (argv Run) && is_met (codes "run") (codes "false") (one_of (codes "serial")) (subcommand_of mapper (argv Run))
is_good Serial = takes mapper (argv Serial) && is_met (codes "run") (codes "true") (one_of (codes "serial")) (subcommand_of mapper (argv Serial))
is_good (Make n) = takes mapper (argv (Make n)) && is_met (codes "make") (decimal n) (first_of (codes "n")) (subcommand_of mapper (argv (Make n)))
is_good (Drive n) = takes mapper (argv (Drive n)) && is_met (codes "drive") (decimal n) (first_of (codes "n")) (subcommand_of mapper (argv (Drive n)))
is_good (Check n) = takes mapper (argv (Check n)) && is_met (codes "check") (decimal n) (first_of (codes "n")) (subcommand_of mapper (argv (Check n)))

abbrev pub all_make : ℕ → Bool
all_make zero = true
all_make (suc n) = is_good (Make (suc n)) && all_make n

abbrev pub all_drive : ℕ → Bool
all_drive zero = true
all_drive (suc n) = is_good (Drive (suc n)) && all_drive n

pub simple : is_simple mapper ≡ true
unfolding clap_on_literals
simple = refl

run_good : is_good Run ≡ true
unfolding clap_on_literals digits
run_good = refl

serial_good : is_good Serial ≡ true
unfolding clap_on_literals digits
serial_good = refl

make_good : all_make 200 ≡ true
unfolding clap_on_literals digits
make_good = refl

drive_good : all_drive 200 ≡ true
unfolding clap_on_literals digits
drive_good = refl

same_text : (t : Text) → bytes_eq t t ≡ true
same_text t = held (bytes_eq t t) (bytes_eq-Decides t t)
  where
    held : (b : Bool) → Decides b (t ≡ t) → b ≡ true
    held true d = refl
    held false d = d.1 refl

both_hold : (a b : Bool) → a ≡ true → b ≡ true → (a && b) ≡ true
both_hold true b s t = t
both_hold false b s t = s

is_met_by : (word t : Text) (read : List Row → Option Text) (q : Option (Text × List Row)) → option_map (λ p. p.0) q ≡ Some word
    → option_and_then (λ p. read p.1) q ≡ Some t → is_met word t read q ≡ true
is_met_by word t read None a b = absurd (cc a)
is_met_by word t read (Some p) a b = let named : p.0 ≡ word = cc (a) in rw (named, b) (both_hold _ _ (same_text word) (same_text t))

check_good : (n : ℕ) → n ≤ 268435456 → is_good (Check n) ≡ true
check_good n few =
    let taken = taken_number n few in
    both_hold _ _ taken.0 (is_met_by (codes "check") (decimal n) (first_of (codes "n")) _ taken.1 taken.2)

first_of_two : (a b : Bool) → (a && b) ≡ true → a ≡ true
first_of_two true b h = refl
first_of_two false b h = h

second_of_two : (a b : Bool) → (a && b) ≡ true → b ≡ true
second_of_two true b h = h
second_of_two false b h = absurd (cc h)

each_by : (P : ℕ → Bool) (n k : ℕ) → P (suc k) ≡ true → (n ≤ k → P n ≡ true) → n ≤ suc k → (b : Bool) → (n == suc k) ≡ b → P n ≡ true
each_by P n k last before le true is = let same : n ≡ suc k = grind (arith, nat_tests) in subst (λ z. P z ≡ true) (sym same) last
each_by P n k last before le false is = before (grind (arith, nat_tests))

make_each : (n k : ℕ) → all_make k ≡ true → 1 ≤ n → n ≤ k → is_good (Make n) ≡ true
make_each n zero all some le = absurd (omega arith)
make_each n (suc k) all some le =
    each_by (λ z. is_good (Make z)) n k (first_of_two (is_good (Make (suc k))) (all_make k) all)
    (λ less. make_each n k (second_of_two (is_good (Make (suc k))) (all_make k) all) some less) le (n == suc k) refl

drive_each : (n k : ℕ) → all_drive k ≡ true → 1 ≤ n → n ≤ k → is_good (Drive n) ≡ true
drive_each n zero all some le = absurd (omega arith)
drive_each n (suc k) all some le =
    each_by (λ z. is_good (Drive z)) n k (first_of_two (is_good (Drive (suc k))) (all_drive k) all)
    (λ less. drive_each n k (second_of_two (is_good (Drive (suc k))) (all_drive k) all) some less) le (n == suc k) refl

good : (a : Ask) → CanBeDone a → is_good a ≡ true
good Run ask = run_good
good Serial ask = serial_good
good (Make n) ask = make_each n 200 make_good ask.0 ask.1
good (Drive n) ask = drive_each n 200 drive_good ask.0 ask.1
good (Check n) ask = check_good n ask

-- the words that ask for something are taken
pub taken : (a : Ask) → CanBeDone a → takes mapper (argv a) ≡ true
taken Run ask = first_of_two _ _ (good Run ask)
taken Serial ask = first_of_two _ _ (good Serial ask)
taken (Make n) ask = first_of_two _ _ (good (Make n) ask)
taken (Drive n) ask = first_of_two _ _ (good (Drive n) ask)
taken (Check n) ask = first_of_two _ _ (good (Check n) ask)

holds_at : (b : Bool) (xs ys : List ℕ) → Decides b (xs ≡ ys) → b ≡ true → xs ≡ ys
holds_at true xs ys d t = d.0 refl
holds_at false xs ys d t = absurd (cc t)

text_is : (t : Text) (o : Option Text) → is_text t o ≡ true → o ≡ Some t
text_is t None h = absurd (cc h)
text_is t (Some u) h = ap (λ z. Some z) (holds_at (bytes_eq u t) u t (bytes_eq-Decides u t) h)

met_is : (word t : Text) (read : List Row → Option Text) (q : Option (Text × List Row)) (name : Text) (rows : List Row) → is_met word t read q ≡ true
    → option_map (λ p. p.0) q ≡ Some name → option_map (λ p. p.1) q ≡ Some rows → (name ≡ word) × (read rows ≡ Some t)
met_is word t read None name rows h a b = absurd (cc h)
met_is word t read (Some p) name rows h a b =
    let one : p.0 ≡ name = cc (a) in
    let two : p.1 ≡ rows = cc (b) in (
      sym one ∙ holds_at (bytes_eq p.0 word) p.0 word (bytes_eq-Decides p.0 word) (first_of_two (bytes_eq p.0 word) (is_text t (read p.1)) h),
      ap read (sym two) ∙ text_is t (read p.1) (second_of_two (bytes_eq p.0 word) (is_text t (read p.1)) h),
    )

-- what is read in the words that ask for something
pub parsed : (a : Ask) (t : Text) (f : Found) → CanBeDone a → option_map (λ p. p.0) (subcommand_of mapper (argv a)) ≡ Some t
    → option_map (λ p. p.1) (subcommand_of mapper (argv a)) ≡ Some (rows_of f) → IsMatch a t f
parsed Run t f ask a b =
    let m = met_is (codes "run") (codes "false") (one_of (codes "serial")) _ t (rows_of f) (second_of_two _ _ (good Run ask)) a b in
    (m.0, one_text-rows f (codes "serial") ∙ m.1)
parsed Serial t f ask a b =
    let m = met_is (codes "run") (codes "true") (one_of (codes "serial")) _ t (rows_of f) (second_of_two _ _ (good Serial ask)) a b in
    (m.0, one_text-rows f (codes "serial") ∙ m.1)
parsed (Make n) t f ask a b =
    let m = met_is (codes "make") (decimal n) (first_of (codes "n")) _ t (rows_of f) (second_of_two _ _ (good (Make n) ask)) a b in
    (m.0, first_value-rows f (codes "n") ∙ m.1)
parsed (Drive n) t f ask a b =
    let m = met_is (codes "drive") (decimal n) (first_of (codes "n")) _ t (rows_of f) (second_of_two _ _ (good (Drive n) ask)) a b in
    (m.0, first_value-rows f (codes "n") ∙ m.1)
parsed (Check n) t f ask a b =
    let m = met_is (codes "check") (decimal n) (first_of (codes "n")) _ t (rows_of f) (second_of_two _ _ (good (Check n) ask)) a b in
    (m.0, first_value-rows f (codes "n") ∙ m.1)

pub name_rows : {B : Type 0} (g : B → Text) (h : B → List Row) (o : Option B) → option_map g o ≡ option_map (λ (p : Text × List Row). p.0) (option_map (λ b. (g b, h b)) o)
name_rows g h None = refl
name_rows g h (Some b) = refl

met_some : (word t : Text) (read : List Row → Option Text) (q : Option (Text × List Row)) → is_met word t read q ≡ true → option_map (λ p. p.1) q ≡ None → ⊥
met_some word t read None h a = absurd (cc h)
met_some word t read (Some p) h a = absurd (cc a)

-- something is read in the words that ask for something
pub met : (a : Ask) → CanBeDone a → option_map (λ p. p.1) (subcommand_of mapper (argv a)) ≡ None → ⊥
met Run ask e = met_some (codes "run") (codes "false") (one_of (codes "serial")) _ (second_of_two _ _ (good Run ask)) e
met Serial ask e = met_some (codes "run") (codes "true") (one_of (codes "serial")) _ (second_of_two _ _ (good Serial ask)) e
met (Make n) ask e = met_some (codes "make") (decimal n) (first_of (codes "n")) _ (second_of_two _ _ (good (Make n) ask)) e
met (Drive n) ask e = met_some (codes "drive") (decimal n) (first_of (codes "n")) _ (second_of_two _ _ (good (Drive n) ask)) e
met (Check n) ask e = met_some (codes "check") (decimal n) (first_of (codes "n")) _ (second_of_two _ _ (good (Check n) ask)) e
