-- Words ask for one thing at most.
use Rattle.std.proofs.Common.{◌≡◌, ℕ, ◌≤◌, ◌+◌, ◌*◌, ◌==◌, true, false, List, [], length, get_or, decimal, refl, sym, ap, ◌∙◌, arith}
use Rattle.std.proofs.lemmas.Bool.Decides.{nat_tests}
use Rattle.std.proofs.lemmas.Fmt.{decimal_injective}
use Rattle.mapper_base.specs.declared.command_line.words.Ask.{Ask}
use Rattle.mapper_base.specs.declared.command_line.words.Ask.TheVariants.{Run, Serial, Make, Drive, Check}
use Rattle.mapper_base.specs.Asks.{Asks}

-- the number that is spelled is the number that was asked for
same_number : (m n : ℕ) → m ≤ 268435456 → n ≤ 268435456 → decimal m ≡ decimal n → m ≡ n
same_number m n p q e = decimal_injective m n (omega (arith, p)) (omega (arith, q)) e

-- how many words there are, and how the first begins: no two kinds of words agree in both
abbrev mark_of : List (List ℕ) → ℕ
mark_of words = 256 * length words + get_or (get_or words 0 []) 0 0

others : (vs ws words : List (List ℕ)) → words ≡ vs → words ≡ ws → (mark_of vs == mark_of ws) ≡ false → ⊥
others vs ws words is also other =
    let same : mark_of vs ≡ mark_of ws = ap mark_of (sym is ∙ also) in
    let test : (mark_of vs == mark_of ws) ≡ true = grind (arith, nat_tests) in
    cc (test, other)

pub same_ask : (a b : Ask) (words : List (List ℕ)) → Asks a words → Asks b words → a ≡ b
same_ask Run Run words asked also = refl
same_ask Run Serial words asked also = absurd (others _ _ words asked.1 also.1 refl)
same_ask Run (Make n) words asked also = absurd (others _ _ words asked.1 also.1 refl)
same_ask Run (Drive n) words asked also = absurd (others _ _ words asked.1 also.1 refl)
same_ask Run (Check n) words asked also = absurd (others _ _ words asked.1 also.1 refl)
same_ask Serial Run words asked also = absurd (others _ _ words asked.1 also.1 refl)
same_ask Serial Serial words asked also = refl
same_ask Serial (Make n) words asked also = absurd (others _ _ words asked.1 also.1 refl)
same_ask Serial (Drive n) words asked also = absurd (others _ _ words asked.1 also.1 refl)
same_ask Serial (Check n) words asked also = absurd (others _ _ words asked.1 also.1 refl)
same_ask (Make m) Run words asked also = absurd (others _ _ words asked.1 also.1 refl)
same_ask (Make m) Serial words asked also = absurd (others _ _ words asked.1 also.1 refl)
same_ask (Make m) (Make n) words asked also = ap Make (same_number m n (omega (arith, asked.0)) (omega (arith, also.0)) (cc (asked.1, also.1)))
same_ask (Make m) (Drive n) words asked also = absurd (others _ _ words asked.1 also.1 refl)
same_ask (Make m) (Check n) words asked also = absurd (others _ _ words asked.1 also.1 refl)
same_ask (Drive m) Run words asked also = absurd (others _ _ words asked.1 also.1 refl)
same_ask (Drive m) Serial words asked also = absurd (others _ _ words asked.1 also.1 refl)
same_ask (Drive m) (Make n) words asked also = absurd (others _ _ words asked.1 also.1 refl)
same_ask (Drive m) (Drive n) words asked also = ap Drive (same_number m n (omega (arith, asked.0)) (omega (arith, also.0)) (cc (asked.1, also.1)))
same_ask (Drive m) (Check n) words asked also = absurd (others _ _ words asked.1 also.1 refl)
same_ask (Check m) Run words asked also = absurd (others _ _ words asked.1 also.1 refl)
same_ask (Check m) Serial words asked also = absurd (others _ _ words asked.1 also.1 refl)
same_ask (Check m) (Make n) words asked also = absurd (others _ _ words asked.1 also.1 refl)
same_ask (Check m) (Drive n) words asked also = absurd (others _ _ words asked.1 also.1 refl)
same_ask (Check m) (Check n) words asked also = ap Check (same_number m n (omega (arith, asked.0)) (omega (arith, also.0)) (cc (asked.1, also.1)))
