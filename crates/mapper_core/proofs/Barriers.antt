-- Where marks are legal, a barrier's is the number of updates before it.
use Rattle.std.proofs.Common.{◌≡◌, ℕ, zero, suc, ◌+◌, ◌<◌, ◌≤◌, Bool, true, false, nat_le, if◌then◌else◌, List, [], ◌∷◌, take, length, map, Some, slice_get, refl, sym, ap, ◌∙◌, subst, arith, nat_lt, Option, None, ◌++◌}
use Rattle.std.proofs.lemmas.Bool.Decides.{nat_tests}
use Rattle.std.specs.Prelude.{MatchOption}
use Rattle.std.specs.List.{AllByRecursion}
use Rattle.std.specs.Option.{option_to_list}
use Rattle.map_items.specs.declared.update.Update.{Update}
use Rattle.scan_log.specs.declared.command.Command.{Command}
use Rattle.scan_log.specs.declared.command.Command.TheVariants.{Sync}
use Rattle.scan_log.specs.Commands.{command_update, updates_made}
use Rattle.scan_log.specs.Transcript.{updates_in, put_if, put_update, marked_updates}
use Rattle.scan_log.proofs.Whose.{anyone, anyone_concerned, follows_later}
use Rattle.scan_log.specs.Legal.{numbers_from, MayFollow, AllFollow, AreInOrder, IsLegal}

-- 1 where the mark isn't above top
abbrev one : ℕ → ℕ → ℕ
one top m = if nat_le m top then 1 else 0

one_low : (top m : ℕ) → m ≤ top → one top m ≡ 1
one_low top m le = let e : nat_le m top ≡ true = grind (arith, nat_tests) in rw e refl

one_high : (top m : ℕ) → top < m → one top m ≡ 0
one_high top m lt = let e : nat_le m top ≡ false = grind (arith, nat_tests) in rw e refl

-- how many are not above top
abbrev few : ℕ → List ℕ → ℕ
few top [] = 0
few top (m ∷ ms) = one top m + few top ms

few_high : (top n k : ℕ) → top < n → few top (numbers_from n k) ≡ 0
few_high top n zero lt = refl
few_high top n (suc k) lt = omega (arith, one_high top n lt, few_high top (n + 1) k (omega arith))

few_by : (top n k : ℕ) → n ≤ top + 1 → top + 1 ≤ n + k → (b : Bool) → nat_le n top ≡ b → n + few top (numbers_from n k) ≡ top + 1
few_by top n zero low high b is = omega arith
few_by top n (suc k) low high true is =
    let le : n ≤ top = grind (arith, nat_tests) in
    let a = one_low top n le in
    let e = few_by top (n + 1) k (omega arith) (omega arith) (nat_le (n + 1) top) refl in
    omega arith
few_by top n (suc k) low high false is =
    let lt : top < n = grind (arith, nat_tests) in
    let a = one_high top n lt in
    let e = few_high top (n + 1) k (omega arith) in
    omega arith

few_put_by : (top m : ℕ) (u : Update) (g : ℕ × Update) (hs : List (ℕ × Update)) → few top (map (λ h. h.0) (put_update m u hs)) ≡ one top m + few top (map (λ h. h.0) hs)
    → (b : Bool) → nat_lt g.0 m ≡ b → few top (map (λ h. h.0) (put_update m u (g ∷ hs))) ≡ one top m + few top (map (λ h. h.0) (g ∷ hs))
few_put_by top m u g hs more true is = rw is (omega (arith, more))
few_put_by top m u g hs more false is = rw is refl

few_put : (top m : ℕ) (u : Update) (hs : List (ℕ × Update)) → few top (map (λ h. h.0) (put_update m u hs)) ≡ one top m + few top (map (λ h. h.0) hs)
few_put top m u [] = refl
few_put top m u (g ∷ hs) = few_put_by top m u g hs (few_put top m u hs) (nat_lt g.0 m) refl

abbrev early_if : ℕ → ℕ → Option Update → ℕ → ℕ
early_if top m (Some u) k = one top m + k
early_if top m None k = k

-- how many updates have no mark above top
abbrev early : ℕ → List Command → List ℕ → ℕ
early top (c ∷ cs) (m ∷ ms) = early_if top m (command_update c) (early top cs ms)
early top [] ms = 0
early top (c ∷ cs) [] = 0

few_if : (top m : ℕ) (made : Option Update) (hs : List (ℕ × Update)) (k : ℕ) → few top (map (λ h. h.0) hs) ≡ k → few top (map (λ h. h.0) (put_if m made hs)) ≡ early_if top m made k
few_if top m (Some u) hs k e = few_put top m u hs ∙ ap (λ n. one top m + n) e
few_if top m None hs k e = e

early_few : (top : ℕ) (cs : List Command) (ms : List ℕ) → few top (map (λ h. h.0) (marked_updates cs ms)) ≡ early top cs ms
early_few top [] ms = refl
early_few top (c ∷ cs) [] = refl
early_few top (c ∷ cs) (m ∷ ms) = few_if top m (command_update c) _ _ (early_few top cs ms)

none_if : (top m : ℕ) (made : Option Update) (k : ℕ) → MatchOption made (top ≤ m) (λ u. top < m) → k ≡ 0 → early_if top m made k ≡ 0
none_if top m (Some u) k lt e = omega (arith, one_high top m lt, e)
none_if top m None k le e = e

-- after a barrier no update has such a mark
none_early : (top : ℕ) (cs : List Command) (ms : List ℕ) → AllFollow Sync top cs ms → early top cs ms ≡ 0
none_early top [] ms f = refl
none_early top (c ∷ cs) [] f = refl
none_early top (c ∷ cs) (m ∷ ms) f = none_if top m (command_update c) _ f.0 (none_early top cs ms f.1)

-- what comes later may follow
follows_at : (c : Command) (m : ℕ) (ds : List Command) (ns : List ℕ) (k : ℕ) (d : Command) (n : ℕ)
    → AllFollow c m ds ns → slice_get ds k ≡ Some d → slice_get ns k ≡ Some n → MayFollow c m d n
follows_at c m [] ns k d n f at there = absurd (cc at)
follows_at c m (e ∷ ds) [] k d n f at there = absurd (cc there)
follows_at c m (e ∷ ds) (j ∷ ns) zero d n f at there =
    let a : e ≡ d = cc at in let b : j ≡ n = cc there in subst (λ z. MayFollow c m z n) a (subst (λ z. MayFollow c m e z) b f.0)
follows_at c m (e ∷ ds) (j ∷ ns) (suc k) d n f at there = follows_at c m ds ns k d n f.1 at there

low_if : (top m : ℕ) (made : Option Update) (k : ℕ) (us : List Update) → m ≤ top → k ≡ length us → early_if top m made k ≡ length (option_to_list made ++ us)
low_if top m (Some u) k us le e = omega (arith, one_low top m le, e)
low_if top m None k us le e = e

early_at : (top : ℕ) (cs : List Command) (ms : List ℕ) (k : ℕ) → AreInOrder cs ms → slice_get cs k ≡ Some Sync → slice_get ms k ≡ Some top
    → early top cs ms ≡ updates_in (take k cs)
early_at top [] ms k o at there = absurd (cc at)
early_at top (c ∷ cs) [] k o at there = absurd (cc there)
early_at top (c ∷ cs) (m ∷ ms) zero o at there =
    let a : c ≡ Sync = cc at in
    let b : m ≡ top = cc there in
    let after : AllFollow Sync top cs ms = subst (λ z. AllFollow Sync z cs ms) b (subst (λ z. AllFollow z m cs ms) a o.0) in
    subst (λ z. early top (z ∷ cs) (m ∷ ms) ≡ 0) (sym a) (none_early top cs ms after)
early_at top (c ∷ cs) (m ∷ ms) (suc k) o at there =
    let le : m ≤ top = follows_later (anyone c) c m Sync top (anyone_concerned c) tt (follows_at c m cs ms k Sync top o.0 at there) in
    low_if top m (command_update c) _ (updates_made (take k cs)) le (early_at top cs ms k o.1 at there)

below_at : (P : ℕ → Type 0) (ms : List ℕ) (k n : ℕ) → AllByRecursion P ms → slice_get ms k ≡ Some n → P n
below_at P [] k n all there = absurd (cc there)
below_at P (m ∷ ms) zero n all there = subst P (cc there) all.0
below_at P (m ∷ ms) (suc k) n all there = below_at P ms k n all.1 there

pub barrier_is : (cs : List Command) (ms : List ℕ) (k n : ℕ) → IsLegal cs ms → slice_get cs k ≡ Some Sync → slice_get ms k ≡ Some n → n ≡ updates_in (take k cs)
barrier_is cs ms k n legal at there =
    let le : n ≤ updates_in cs = below_at (λ m. m ≤ updates_in cs) ms k n legal.none_above there in
    let a = few_by n 1 (updates_in cs) (omega arith) (omega arith) (nat_le 1 n) refl in
    let b : few n (map (λ h. h.0) (marked_updates cs ms)) ≡ few n (numbers_from 1 (updates_in cs)) = ap (few n) legal.each_once in
    let c = early_few n cs ms in
    let d = early_at n cs ms k legal.in_order at there in
    omega arith
