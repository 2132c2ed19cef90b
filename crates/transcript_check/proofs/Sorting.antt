-- The updates in the order of their marks.
use Rattle.std.proofs.Common.{◌≡◌, ℕ, suc, ◌<◌, ◌≤◌, Bool, true, false, cond, List, [], ◌∷◌, ◌++◌, length, get_or, drop, refl, sym, ap, ◌∙◌, subst, arith, nat_lt, nat_eq, inl, inr, Option, Some, None}
use Rattle.std.specs.Prelude.{filter}
use Rattle.std.specs.List.{AllByRecursion}
use Rattle.std.specs.List.Sorted.{IsNonDecreasingBy, IsStableByKey, ties}
use Rattle.std.specs.Ordering.{nat_cmp, is_lt}
use Rattle.std.proofs.lemmas.Bool.{cases_order}
use Rattle.std.proofs.lemmas.Bool.Decides.{nat_tests}
use Rattle.std.proofs.lemmas.List.{map_push, append_assoc, drop_all}
use Rattle.std.proofs.lemmas.List.Elements.{filter_agree}
use Rattle.map_items.specs.declared.update.Update.{Update}
use Rattle.scan_log.specs.Commands.{command_update}
use Rattle.scan_log.specs.declared.command.Command.{Command}
use Rattle.scan_log.specs.declared.command.Command.TheVariants.{Change}
use Rattle.scan_log.proofs.Whose.{makes_none}
use Rattle.scan_log.specs.Transcript.{marked_updates, put_if, put_update}
use Rattle.transcript_check.specs.MarkedLines.{updates_of}
use Rattle.transcript_check.specs.declared.order.Marked.{Marked}

abbrev pub first_if : ℕ → Option Update → List (ℕ × Update) → List (ℕ × Update)
first_if m (Some u) hs = (m, u) ∷ hs
first_if m None hs = hs

-- the updates with their marks, in the log's order
abbrev pub plain_updates : List Command → List ℕ → List (ℕ × Update)
plain_updates (c ∷ cs) (m ∷ marks) = first_if m (command_update c) (plain_updates cs marks)
plain_updates [] marks = []
plain_updates cs [] = []

-- has this mark
abbrev has : ℕ → ℕ × Update → Bool
has k h = nat_eq h.0 k

abbrev AllFrom : ℕ → List (ℕ × Update) → Type 0
AllFrom k hs = AllByRecursion (λ h. k ≤ h.0) hs

-- no mark is below one before it
abbrev Rising : List (ℕ × Update) → Type 0
Rising [] = Unit {0}
Rising (h ∷ hs) = AllFrom h.0 hs × Rising hs

all_from_less : (j k : ℕ) (hs : List (ℕ × Update)) → j ≤ k → AllFrom k hs → AllFrom j hs
all_from_less j k [] le a = tt
all_from_less j k (h ∷ hs) le a = (omega (arith, a.0), all_from_less j k hs le a.1)

all_from_put : (k m : ℕ) (u : Update) (hs : List (ℕ × Update)) → k ≤ m → AllFrom k hs → AllFrom k (put_update m u hs)
all_from_put k m u [] le a = (le, tt)
all_from_put k m u (h ∷ hs) le a = go (nat_lt h.0 m) (all_from_put k m u hs le a.1)
  where
    go : (b : Bool) → AllFrom k (put_update m u hs) → AllFrom k (cond b (h ∷ put_update m u hs) ((m, u) ∷ h ∷ hs))
    go true r = (a.0, r)
    go false r = (le, (a.0, a.1))

rising_put : (m : ℕ) (u : Update) (hs : List (ℕ × Update)) → Rising hs → Rising (put_update m u hs)
rising_put m u [] r = (tt, tt)
rising_put m u (h ∷ hs) r = go (nat_lt h.0 m) refl (rising_put m u hs r.1)
  where
    go : (b : Bool) → nat_lt h.0 m ≡ b → Rising (put_update m u hs) → Rising (cond b (h ∷ put_update m u hs) ((m, u) ∷ h ∷ hs))
    go true e q = (all_from_put h.0 m u hs (grind (arith, nat_tests)) r.0, q)
    go false e q = let le : m ≤ h.0 = grind (arith, nat_tests) in ((le, all_from_less m h.0 hs le r.0), r)

has_put : (k m : ℕ) (u : Update) (hs : List (ℕ × Update)) → filter (has k) (put_update m u hs) ≡ filter (has k) ((m, u) ∷ hs)
has_put k m u [] = refl
has_put k m u (h ∷ hs) = go (nat_lt h.0 m) refl (has_put k m u hs)
  where
    swap : (a b : Bool) → (a ≡ true → b ≡ true → ⊥) → (rest : List (ℕ × Update))
        → cond b (h ∷ cond a ((m, u) ∷ rest) rest) (cond a ((m, u) ∷ rest) rest)
        ≡ cond a ((m, u) ∷ cond b (h ∷ rest) rest) (cond b (h ∷ rest) rest)
    swap true true f rest = absurd (f refl refl)
    swap true false f rest = refl
    swap false true f rest = refl
    swap false false f rest = refl

    go : (b : Bool) → nat_lt h.0 m ≡ b → filter (has k) (put_update m u hs) ≡ filter (has k) ((m, u) ∷ hs)
        → filter (has k) (cond b (h ∷ put_update m u hs) ((m, u) ∷ h ∷ hs)) ≡ filter (has k) ((m, u) ∷ h ∷ hs)
    go true e r =
        ap (λ (rest : List (ℕ × Update)). cond (has k h) (h ∷ rest) rest) r
        ∙ swap (nat_eq m k) (has k h) (λ p q. let low : h.0 < m = grind (arith, nat_tests) in let one : m ≡ k =
        grind (arith, nat_tests) in let two : h.0 ≡ k = grind (arith, nat_tests) in absurd (omega arith))
        (filter (has k) hs)
    go false e r = refl

rising_if : (m : ℕ) (made : Option Update) (hs : List (ℕ × Update)) → Rising hs → Rising (put_if m made hs)
rising_if m (Some u) hs up = rising_put m u hs up
rising_if m None hs up = up

rising_marked : (cs : List Command) (marks : List ℕ) → Rising (marked_updates cs marks)
rising_marked [] [] = tt
rising_marked [] (m ∷ marks) = tt
rising_marked (c ∷ cs) [] = tt
rising_marked (c ∷ cs) (m ∷ marks) = rising_if m (command_update c) _ (rising_marked cs marks)

has_if : (k m : ℕ) (made : Option Update) (hs ps : List (ℕ × Update)) → filter (has k) hs ≡ filter (has k) ps → filter (has k) (put_if m made hs) ≡ filter (has k) (first_if m made ps)
has_if k m (Some u) hs ps e = has_put k m u hs ∙ ap (λ (rest : List (ℕ × Update)). cond (nat_eq m k) ((m, u) ∷ rest) rest) e
has_if k m None hs ps e = e

has_marked : (k : ℕ) (cs : List Command) (marks : List ℕ) → filter (has k) (marked_updates cs marks) ≡ filter (has k) (plain_updates cs marks)
has_marked k [] [] = refl
has_marked k [] (m ∷ marks) = refl
has_marked k (c ∷ cs) [] = refl
has_marked k (c ∷ cs) (m ∷ marks) = has_if k m (command_update c) _ _ (has_marked k cs marks)

-- nothing below the first has its mark
none_has : (k j : ℕ) (hs : List (ℕ × Update)) → j < k → AllFrom k hs → filter (has j) hs ≡ []
none_has k j [] low a = refl
none_has k j (h ∷ hs) low a =
    let other : nat_eq h.0 j ≡ false = (let from : k ≤ h.0 = a.0 in grind (arith, nat_tests)) in
    rw other (none_has k j hs low a.1)

own : (h : ℕ × Update) (hs : List (ℕ × Update)) → filter (has h.0) (h ∷ hs) ≡ h ∷ filter (has h.0) hs
own h hs = let e : nat_eq h.0 h.0 ≡ true = grind (arith, nat_tests) in rw e refl

-- what the tails have of a mark, where the heads are the same
tails : (k : ℕ) (h : ℕ × Update) (xs ys : List (ℕ × Update)) → filter (has k) (h ∷ xs) ≡ filter (has k) (h ∷ ys) → filter (has k) xs ≡ filter (has k) ys
tails k h xs ys e = go (has k h) e
  where
    go : (b : Bool) → cond b (h ∷ filter (has k) xs) (filter (has k) xs) ≡ cond b (h ∷ filter (has k) ys) (filter (has k) ys) → filter (has k) xs ≡ filter (has k) ys
    go true f = cc
    go false f = f

first_low : (x y : ℕ × Update) (xs ys : List (ℕ × Update)) → Rising (y ∷ ys) → filter (has x.0) (x ∷ xs) ≡ filter (has x.0) (y ∷ ys) → x.0 < y.0 → ⊥
first_low x y xs ys r e low =
    let here = own x xs in
    let none : filter (has x.0) (y ∷ ys) ≡ [] = none_has y.0 x.0 (y ∷ ys) low (omega arith, r.0) in
    cc

-- two rising lists that have the same of each mark are the same
pub same_rising : (xs ys : List (ℕ × Update)) → Rising xs → Rising ys → ((k : ℕ) → filter (has k) xs ≡ filter (has k) ys) → xs ≡ ys
same_rising [] [] r q h = refl
same_rising [] (y ∷ ys) r q h = absurd (let e = h y.0 in let here = own y ys in cc)
same_rising (x ∷ xs) [] r q h = absurd (let e = h x.0 in let here = own x xs in cc)
same_rising (x ∷ xs) (y ∷ ys) r q h =
    let heads : x ≡ y = elim (cases_order x.0 y.0) [
      | inl same ↦
          let one = own x xs in
          let two : filter (has x.0) (y ∷ ys) ≡ y ∷ filter (has x.0) ys = subst (λ (k : ℕ). filter (has k) (y ∷ ys) ≡ y ∷ filter (has k) ys) (sym same) (own y ys) in
          let e = h x.0 in
          cc
      | inr other ↦ elim other [
        | inl before ↦ absurd (first_low x y xs ys q (h x.0) before)
        | inr after ↦ absurd (first_low y x ys xs r (sym (h y.0)) after)
      ]
    ] in
    let rest : (k : ℕ) → filter (has k) (x ∷ xs) ≡ filter (has k) (x ∷ ys) = λ k. h k ∙ ap (λ (z : ℕ × Update). filter (has k) (z ∷ ys)) (sym heads) in
    ap (λ (z : ℕ × Update). z ∷ xs) heads ∙ ap (λ zs. y ∷ zs) (same_rising xs ys r.1 q.1 (λ k. tails k x xs ys (rest k)))

-- what a sort by the marks leaves rises
all_from_sorted : (k : ℕ) (us : List Marked) → ((j : ℕ) (d : Marked) → j < length us → k ≤ (get_or us j d).mark) → AllFrom k (updates_of us)
all_from_sorted k [] h = tt
all_from_sorted k (u ∷ us) h = (h 0 u (omega arith), all_from_sorted k us (λ j d low. h (suc j) d (omega arith)))

rising_sorted : (us : List Marked) → IsNonDecreasingBy (λ (u : Marked). u.mark) us → Rising (updates_of us)
rising_sorted [] s = tt
rising_sorted (u ∷ us) s =
    (all_from_sorted u.mark us (λ j d low. s 0 (suc j) d (omega arith) (omega arith)), rising_sorted us (λ i j d le low. s (suc i) (suc j) d (omega arith) (omega arith)))

has_updates : (k : ℕ) (us : List Marked) → filter (has k) (updates_of us) ≡ updates_of (filter (λ (u : Marked). nat_eq u.mark k) us)
has_updates k [] = refl
has_updates k (u ∷ us) = go (nat_eq u.mark k) (has_updates k us)
  where
    go : (b : Bool) → filter (has k) (updates_of us) ≡ updates_of (filter (λ (u : Marked). nat_eq u.mark k) us)
        → cond b ((u.mark, u.update.now) ∷ filter (has k) (updates_of us)) (filter (has k) (updates_of us))
        ≡ updates_of
        (cond b (u ∷ filter (λ (u : Marked). nat_eq u.mark k) us) (filter (λ (u : Marked). nat_eq u.mark k) us))
    go true r = ap (λ (hs : List (ℕ × Update)). (u.mark, u.update.now) ∷ hs) r
    go false r = r

abbrev by_mark : Marked → Marked → Bool
by_mark a b = is_lt (nat_cmp a.mark b.mark)

tie_is : (a b : Marked) → ties by_mark a b ≡ nat_eq b.mark a.mark
tie_is a b = elim (cases_order a.mark b.mark) [
  | inl same ↦
      let p : nat_lt a.mark b.mark ≡ false = grind (arith, nat_tests) in
      let q : nat_lt b.mark a.mark ≡ false = grind (arith, nat_tests) in
      let r : nat_eq a.mark b.mark ≡ true = grind (arith, nat_tests) in
      let t : nat_eq b.mark a.mark ≡ true = grind (arith, nat_tests) in
      rw (p, q, r, t) refl
  | inr other ↦ elim other [
    | inl before ↦
        let p : nat_lt a.mark b.mark ≡ true = grind (arith, nat_tests) in
        let t : nat_eq b.mark a.mark ≡ false = grind (arith, nat_tests) in
        rw (p, t) refl
    | inr after ↦
        let p : nat_lt a.mark b.mark ≡ false = grind (arith, nat_tests) in
        let q : nat_lt b.mark a.mark ≡ true = grind (arith, nat_tests) in
        let r : nat_eq a.mark b.mark ≡ false = grind (arith, nat_tests) in
        let t : nat_eq b.mark a.mark ≡ false = grind (arith, nat_tests) in
        rw (p, r, q, t) refl
  ]
]

-- a stable sort keeps what there is of each mark
has_sorted : (k : ℕ) (xs ys : List Marked) → length ys ≡ length xs → IsStableByKey (λ (u : Marked). u.mark) nat_cmp xs ys → filter (has k) (updates_of ys) ≡ filter (has k) (updates_of xs)
has_sorted k [] [] long s = refl
has_sorted k [] (y ∷ ys) long s = absurd (omega arith)
has_sorted k (x ∷ xs) ys long s =
    let probe : Marked = record { mark = k; update = x.update } in
    has_updates k ys
    ∙ ap updates_of (sym (filter_agree (ties by_mark probe) (λ (u : Marked). nat_eq u.mark k) (λ u. tie_is probe u) ys)
    ∙ s probe ∙ filter_agree (ties by_mark probe) (λ (u : Marked). nat_eq u.mark k) (λ u. tie_is probe u) (x ∷ xs))
    ∙ sym (has_updates k (x ∷ xs))

-- so the updates are in the order of their marks
pub sorted_updates : (cs : List Command) (marks : List ℕ) (xs ys : List Marked) → updates_of xs ≡ plain_updates cs marks → length ys ≡ length xs
    → IsNonDecreasingBy (λ (u : Marked). u.mark) ys → IsStableByKey (λ (u : Marked). u.mark) nat_cmp xs ys → updates_of ys ≡ marked_updates cs marks
sorted_updates cs marks xs ys is long up stable =
    same_rising (updates_of ys) (marked_updates cs marks) (rising_sorted ys up) (rising_marked cs marks) (λ k.
    has_sorted k xs ys long stable ∙ ap (filter (has k)) is ∙ sym (has_marked k cs marks))

-- one command more: an update goes to the end, another is passed over
pub update_more : (us all : List Marked) (caller : ℕ) (u : Marked) (from to : List Command) (marks rest : List ℕ) → all ≡ us ++ u ∷ []
    → from ≡ Change caller u.update.now ∷ to → marks ≡ u.mark ∷ rest → updates_of all ++ plain_updates to rest ≡ updates_of us ++ plain_updates from marks
update_more us all caller u from to marks rest grown e f =
    rw (grown, e, f) (ap (λ (hs : List (ℕ × Update)). hs ++ plain_updates to rest)
    (map_push (λ (u : Marked). (u.mark, u.update.now)) us u)
    ∙ append_assoc (updates_of us) ((u.mark, u.update.now) ∷ []) (plain_updates to rest))

skipped : (c : Command) (m : ℕ) (to : List Command) (rest : List ℕ) → ((caller : ℕ) (u : Update) → c ≡ Change caller u → ⊥) → plain_updates (c ∷ to) (m ∷ rest) ≡ plain_updates to rest
skipped c m to rest other = rw (makes_none c other) refl

pub update_none : (us all : List Marked) (c : Command) (m : ℕ) (from to : List Command) (marks rest : List ℕ) → all ≡ us → ((caller : ℕ) (u : Update) → c ≡ Change caller u → ⊥)
    → from ≡ c ∷ to → marks ≡ m ∷ rest → updates_of all ++ plain_updates to rest ≡ updates_of us ++ plain_updates from marks
update_none us all c m from to marks rest same other e f = rw (same, e, f) (ap (λ (hs : List (ℕ × Update)). updates_of us ++ hs) (sym (skipped c m to rest other)))

-- after all commands no update remains
pub plain_end : (cs : List Command) (marks : List ℕ) (n : ℕ) → length cs ≤ n → plain_updates (drop n cs) marks ≡ []
plain_end cs marks n h = rw (drop_all n cs h) (none marks)
  where
    none : (marks : List ℕ) → plain_updates [] marks ≡ []
    none [] = refl
    none (m ∷ marks) = refl
