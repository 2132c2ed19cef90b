-- The marks of all commands are in order where those of each caller are.
use Rattle.std.proofs.Common.{◌≡◌, ℕ, ◌<◌, ◌≤◌, Bool, true, false, List, [], ◌∷◌, refl, sym, ◌∙◌, subst, arith, nat_eq, Option, Some, None, IfSome}
use Rattle.std.specs.Prelude.{if◌then◌else◌, is_some, nat_le, nat_lt, MatchOption}
use Rattle.std.specs.Option.{unwrap_or}
use Rattle.std.specs.List.{AllByRecursion}
use Rattle.std.proofs.lemmas.Bool.Decides.{nat_tests}
use Rattle.map_items.specs.declared.update.Update.{Update}
use Rattle.scan_log.specs.Commands.{Concerns, command_caller, command_update, is_for, is_own_or_none}
use Rattle.scan_log.specs.declared.command.Command.{Command}
use Rattle.scan_log.specs.Legal.{IsLater, AllFollow, AreInOrder}
use Rattle.scan_log.specs.Plain.{IsPlain}
use Rattle.scan_log.specs.Scripts.{IsCaller}
use Rattle.scan_log.proofs.Whose.{concerns_for, follows_later, for_concerns, later_le, later_less, plain_caller}
use Rattle.transcript_check.specs.MarkedLines.{is_late, InOrderBehind, AreCallersInOrder}

-- each command that concerns the caller is late enough
abbrev AllLate : ℕ → Option ℕ → List Command → List ℕ → Type 0
AllLate x low [] marks = Unit {0}
AllLate x low (c ∷ cs) [] = Unit {0}
AllLate x low (c ∷ cs) (m ∷ marks) = (is_for x c ≡ true → is_late low c m ≡ true) × AllLate x low cs marks

-- the last mark behind this command
abbrev next_low : Bool → ℕ → Option ℕ → Option ℕ
next_low b m low = if b then Some m else low

caller_same : (x y : ℕ) → y ≡ x → nat_eq y x ≡ true
caller_same x y e = grind (arith, nat_tests)

later_by : (m : ℕ) (u : Option Update) (n : ℕ) → (if is_some u then nat_lt m n else nat_le m n) ≡ true → MatchOption u (m ≤ n) (λ u. m < n)
later_by m (Some u) n e = grind (arith, nat_tests)
later_by m None n e = grind (arith, nat_tests)

-- the test is what it is to be later
later : (m : ℕ) (c : Command) (n : ℕ) → is_late (Some m) c n ≡ true → IsLater m c n
later m c n e = later_by m (command_update c) n e

late_by : (m : ℕ) (u : Option Update) (n : ℕ) → MatchOption u (m ≤ n) (λ u. m < n) → (if is_some u then nat_lt m n else nat_le m n) ≡ true
late_by m (Some u) n e = (let h : m < n = e in grind (arith, nat_tests))
late_by m None n e = (let h : m ≤ n = e in grind (arith, nat_tests))

late : (m : ℕ) (c : Command) (n : ℕ) → IsLater m c n → is_late (Some m) c n ≡ true
late m c n e = late_by m (command_update c) n e

-- a command with a mark is followed by those that it lets follow
follow_late : (x : ℕ) (c : Command) (m : ℕ) (cs : List Command) (marks : List ℕ) → is_for x c ≡ true → AllFollow c m cs marks → AllLate x (Some m) cs marks
follow_late x c m [] marks e f = tt
follow_late x c m (d ∷ cs) [] e f = tt
follow_late x c m (d ∷ cs) (n ∷ marks) e f = ((λ of. late m d n (follows_later x c m d n (for_concerns x c e) (for_concerns x d of) f.0)), follow_late x c m cs marks e f.1)

-- marks in order are in order for each caller
pub behind_of : (x : ℕ) (low : Option ℕ) (cs : List Command) (marks : List ℕ) → AreInOrder cs marks → AllLate x low cs marks → InOrderBehind x low cs marks
behind_of x low [] marks o l = tt
behind_of x low (c ∷ cs) [] o l = tt
behind_of x low (c ∷ cs) (m ∷ marks) o l =
    (l.0, go (is_for x c) refl (λ e. behind_of x (Some m) cs marks o.1 (follow_late x c m cs marks e o.0)) (behind_of x low cs marks o.1 l.1))
  where
    go : (b : Bool) → is_for x c ≡ b → (is_for x c ≡ true → InOrderBehind x (Some m) cs marks) → InOrderBehind x low cs marks → InOrderBehind x (next_low b m low) cs marks
    go true e now before = now e
    go false e now before = before

none_low : (x : ℕ) (cs : List Command) (marks : List ℕ) → AllLate x None cs marks
none_low x [] marks = tt
none_low x (c ∷ cs) [] = tt
none_low x (c ∷ cs) (m ∷ marks) = ((λ _. refl), none_low x cs marks)

pub caller_of_all : (x : ℕ) (cs : List Command) (marks : List ℕ) → AreInOrder cs marks → AreCallersInOrder x cs marks
caller_of_all x cs marks o = behind_of x None cs marks o (none_low x cs marks)

lower : (x k m : ℕ) (cs : List Command) (marks : List ℕ) → k ≤ m → AllLate x (Some m) cs marks → AllLate x (Some k) cs marks
lower x k m [] marks le l = tt
lower x k m (c ∷ cs) [] le l = tt
lower x k m (c ∷ cs) (n ∷ marks) le l = ((λ of. late k c n (later_less k m c n le (later m c n (l.0 of)))), lower x k m cs marks le l.1)

-- behind a last mark all that concerns the caller is late enough
all_late : (x m : ℕ) (cs : List Command) (marks : List ℕ) → InOrderBehind x (Some m) cs marks → AllLate x (Some m) cs marks
all_late x m [] marks o = tt
all_late x m (c ∷ cs) [] o = tt
all_late x m (c ∷ cs) (n ∷ marks) o =
    (o.0, go (is_for x c) refl o.1 (λ e p. lower x m n cs marks (later_le m c n (later m c n (o.0 e))) (all_late x n cs marks p)) (λ p. all_late x m cs marks p))
  where
    go : (b : Bool) → is_for x c ≡ b → InOrderBehind x (next_low b n (Some m)) cs marks → (is_for x c ≡ true → InOrderBehind x (Some n) cs marks → AllLate x (Some m) cs marks)
        → (InOrderBehind x (Some m) cs marks → AllLate x (Some m) cs marks) → AllLate x (Some m) cs marks
    go true e p now before = now e p
    go false e p now before = before p

-- a command's caller, or any for a barrier
caller_of : Command → ℕ
caller_of c = unwrap_or (command_caller c) 1

own_caller : (o : Option ℕ) → is_own_or_none (unwrap_or o 1) o ≡ true
own_caller (Some k) = caller_same k k refl
own_caller None = refl

of_caller : (c : Command) → is_for (caller_of c) c ≡ true
unfolding caller_of
of_caller c = own_caller (command_caller c)

first_caller : (o : Option ℕ) → IfSome o IsCaller → IsCaller (unwrap_or o 1)
first_caller (Some k) h = h
first_caller None h = (omega arith, omega arith)

is_caller : (c : Command) → IsPlain c → IsCaller (caller_of c)
unfolding caller_of
is_caller c h = first_caller (command_caller c) (plain_caller c h)

all_follow : (c : Command) (m : ℕ) (cs : List Command) (marks : List ℕ) → IsPlain c → AllByRecursion IsPlain cs
    → ((x : ℕ) → IsCaller x → is_for x c ≡ true → AllLate x (Some m) cs marks) → AllFollow c m cs marks
all_follow c m [] marks own good l = tt
all_follow c m (d ∷ cs) [] own good l = tt
all_follow c m (d ∷ cs) (n ∷ marks) own good l = (may_by (command_caller c) (plain_caller c own) l, all_follow c m cs marks own good.1 (λ x is of. (l x is of).1))
  where
    at : (x : ℕ) → AllLate x (Some m) (d ∷ cs) (n ∷ marks) → Concerns x d → IsLater m d n
    at x k is = later m d n (k.0 (concerns_for x d is))

    may_by : (o : Option ℕ) → IfSome o IsCaller
        → ((x : ℕ) → IsCaller x → is_own_or_none x o ≡ true → AllLate x (Some m) (d ∷ cs) (n ∷ marks))
        → MatchOption o (IsLater m d n) (λ k. Concerns k d → IsLater m d n)
    may_by (Some k) own l = λ is. at k (l k own (caller_same k k refl)) is
    may_by None own l = at (caller_of d) (l (caller_of d) (is_caller d good.0) refl) (for_concerns (caller_of d) d (of_caller d))

from_callers : (lows : ℕ → Option ℕ) (cs : List Command) (marks : List ℕ) → AllByRecursion IsPlain cs
    → ((x : ℕ) → IsCaller x → InOrderBehind x (lows x) cs marks) → AreInOrder cs marks
from_callers lows [] marks good h = tt
from_callers lows (c ∷ cs) [] good h = tt
from_callers lows (c ∷ cs) (m ∷ marks) good h = (
  all_follow c m cs marks good.0 good.1 (λ x is of. all_late x m cs marks (subst (λ b. InOrderBehind x (next_low b m (lows x)) cs marks) of (h x is).1)),
  from_callers (λ x. next_low (is_for x c) m (lows x)) cs marks good.1 (λ x is. (h x is).1),
)

-- marks that are in order for each caller are in order
pub all_of_callers : (cs : List Command) (marks : List ℕ) → AllByRecursion IsPlain cs → ((x : ℕ) → IsCaller x → AreCallersInOrder x cs marks) → AreInOrder cs marks
all_of_callers cs marks good h = from_callers (λ x. None) cs marks good h

-- What is in order behind a command, and from it on.
pub record IsOneStep (x : ℕ) (low next : Option ℕ) (all cs : List Command) (marks rest : List ℕ) : Type 0 where
  pub onward : InOrderBehind x next cs rest → InOrderBehind x low all marks
  pub back : InOrderBehind x low all marks → InOrderBehind x next cs rest

-- a command that is late enough
pub step_late : (x : ℕ) (low next : Option ℕ) (c : Command) (m : ℕ) (all cs : List Command) (marks rest : List ℕ) → all ≡ c ∷ cs → marks ≡ m ∷ rest
    → is_for x c ≡ true → is_late low c m ≡ true → next ≡ Some m → IsOneStep x low next all cs marks rest
step_late x low next c m all cs marks rest e f own late new =
    rw (e, f, new) (record {
      onward = λ h. ((λ _. late), subst (λ b. InOrderBehind x (next_low b m low) cs rest) (sym own) h);
      back = λ h. subst (λ b. InOrderBehind x (next_low b m low) cs rest) own h.1;
    })

-- one that doesn't concern the caller
pub step_other : (x : ℕ) (low next : Option ℕ) (c : Command) (m : ℕ) (all cs : List Command) (marks rest : List ℕ) → all ≡ c ∷ cs → marks ≡ m ∷ rest
    → is_for x c ≡ false → next ≡ low → IsOneStep x low next all cs marks rest
step_other x low next c m all cs marks rest e f other new =
    rw (e, f, new) (record {
      onward = λ h. ((λ own. absurd (clash (sym own ∙ other))), subst (λ b. InOrderBehind x (next_low b m low) cs rest) (sym other) h);
      back = λ h. subst (λ b. InOrderBehind x (next_low b m low) cs rest) other h.1;
    })
  where
    clash : true ≡ false → ⊥
    clash h = cc

-- a command that isn't late enough
pub not_late : (x : ℕ) (low : Option ℕ) (c : Command) (m : ℕ) (all cs : List Command) (marks rest : List ℕ) → all ≡ c ∷ cs → marks ≡ m ∷ rest
    → is_for x c ≡ true → is_late low c m ≡ false → InOrderBehind x low all marks → ⊥
not_late x low c m all cs marks rest e f own late h =
    let k : InOrderBehind x low (c ∷ cs) (m ∷ rest) = rw (e, f) at h in
    let yes : is_late low c m ≡ true = k.0 own in
    cc
