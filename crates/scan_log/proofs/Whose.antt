-- Whose a command is, and which marks may come after which.
use Rattle.std.proofs.Common.{◌≡◌, ℕ, ◌<◌, ◌≤◌, ◌==◌, true, false, List, [], ◌∷◌, ◌+◌, ◌++◌, length, Option, Some, None, IfSome, ◌⊎◌, inl, inr, refl, sym, subst, arith}
use Rattle.std.specs.Prelude.{IsSomeAnd, MatchOption}
use Rattle.std.specs.Option.{option_to_list, unwrap_or}
use Rattle.std.proofs.lemmas.Bool.Decides.{nat_tests}
use Rattle.map_items.specs.declared.update.Update.{Update}
use Rattle.scan_log.specs.declared.command.Command.{Command}
use Rattle.scan_log.specs.declared.command.Command.TheVariants.{Change, Near, Nears, Inside, Ball, Lonely, Clusters, Pose, Sync}
use Rattle.scan_log.specs.Commands.{Concerns, IsBy, command_caller, command_update, is_by, is_for, is_own, is_own_or_none, updates_made}
use Rattle.scan_log.specs.Legal.{IsLater, MayFollow}
use Rattle.scan_log.specs.Plain.{IsPlain}
use Rattle.scan_log.specs.Scripts.{IsCaller}
use Rattle.scan_log.specs.Transcript.{updates_in}

own_concerned : (x : ℕ) (o : Option ℕ) → is_own_or_none x o ≡ true → IfSome o (λ k. k ≡ x)
own_concerned x (Some k) is = grind (arith, nat_tests)
own_concerned x None is = tt

pub for_concerns : (x : ℕ) (c : Command) → is_for x c ≡ true → Concerns x c
for_concerns x c is = own_concerned x (command_caller c) is

concerned_own : (x : ℕ) (o : Option ℕ) → IfSome o (λ k. k ≡ x) → is_own_or_none x o ≡ true
concerned_own x (Some k) is = let e : k ≡ x = is in grind (arith, nat_tests)
concerned_own x None is = refl

pub concerns_for : (x : ℕ) (c : Command) → Concerns x c → is_for x c ≡ true
concerns_for x c is = concerned_own x (command_caller c) is

-- somebody is asked by each command
pub anyone : Command → ℕ
anyone c = unwrap_or (command_caller c) 0

someone_concerned : (o : Option ℕ) → IfSome o (λ k. k ≡ unwrap_or o 0)
someone_concerned (Some k) = refl
someone_concerned None = tt

pub anyone_concerned : (c : Command) → Concerns (anyone c) c
unfolding anyone
anyone_concerned c = someone_concerned (command_caller c)

follows_by : (o : Option ℕ) (d : Command) (A : Type 0) → ((x : ℕ) → IfSome o (λ k. k ≡ x) → Concerns x d → A) → MatchOption o A (λ k. Concerns k d → A)
follows_by (Some k) d A f = λ is. f k refl is
follows_by None d A f = f (anyone d) tt (anyone_concerned d)

pub may_follow : (c : Command) (m : ℕ) (d : Command) (n : ℕ) → ((x : ℕ) → Concerns x c → Concerns x d → IsLater m d n) → MayFollow c m d n
may_follow c m d n f = follows_by (command_caller c) d (IsLater m d n) f

-- a command is a change, or makes no update
pub change_or_none : (c : Command) → ((caller : ℕ) × (u : Update) × (c ≡ Change caller u)) ⊎ (command_update c ≡ None)
change_or_none (Change caller u) = inl (caller, u, refl)
change_or_none (Near caller k p within) = inr refl
change_or_none (Nears caller k ps) = inr refl
change_or_none (Inside caller k b) = inr refl
change_or_none (Ball caller k r p) = inr refl
change_or_none (Lonely caller k r) = inr refl
change_or_none (Clusters caller k r) = inr refl
change_or_none (Pose caller rules p) = inr refl
change_or_none Sync = inr refl

pub makes_none : (c : Command) → ((caller : ℕ) (u : Update) → c ≡ Change caller u → ⊥) → command_update c ≡ None
makes_none c other = elim (change_or_none c) [
  | inl is ↦ absurd (other is.0 is.1 is.2)
  | inr none ↦ none
]

-- a later mark stays one where less is asked
later_update : (l m : ℕ) (u : Option Update) (n : ℕ) → l ≤ m → MatchOption u (m ≤ n) (λ u. m < n) → MatchOption u (l ≤ n) (λ u. l < n)
later_update l m (Some u) n le a = let k : m < n = a in omega arith
later_update l m None n le a = let j : m ≤ n = a in omega arith

pub later_less : (l m : ℕ) (c : Command) (n : ℕ) → l ≤ m → IsLater m c n → IsLater l c n
later_less l m c n le a = later_update l m (command_update c) n le a

update_le : (m : ℕ) (u : Option Update) (n : ℕ) → MatchOption u (m ≤ n) (λ u. m < n) → m ≤ n
update_le m (Some u) n a = let k : m < n = a in omega arith
update_le m None n a = a

pub later_le : (m : ℕ) (c : Command) (n : ℕ) → IsLater m c n → m ≤ n
later_le m c n a = update_le m (command_update c) n a

by_is_own : (o : Option ℕ) (x : ℕ) → IsSomeAnd o (λ k. k ≡ x) → is_own x o ≡ true
by_is_own (Some k) x is = let e : k ≡ x = is in grind (arith, nat_tests)
by_is_own None x is = absurd is

pub is_by_own : (c : Command) (x : ℕ) → IsBy c x → is_by x c ≡ true
is_by_own c x is = by_is_own (command_caller c) x is

by_is_other : (o : Option ℕ) (x y : ℕ) → IsSomeAnd o (λ k. k ≡ x) → (y == x) ≡ false → is_own y o ≡ false
by_is_other (Some k) x y is ne = let e : k ≡ x = is in grind (arith, nat_tests)
by_is_other None x y is ne = absurd is

pub is_by_other : (c : Command) (x y : ℕ) → IsBy c x → (y == x) ≡ false → is_by y c ≡ false
is_by_other c x y is ne = by_is_other (command_caller c) x y is ne

-- a caller's command asks that caller alone
own_or_none : (o : Option ℕ) (x : ℕ) → IsSomeAnd o (λ k. k ≡ x) → is_own_or_none x o ≡ true
own_or_none (Some k) x is = let e : k ≡ x = is in grind (arith, nat_tests)
own_or_none None x is = absurd is

pub for_own : (c : Command) (x : ℕ) → IsBy c x → is_for x c ≡ true
for_own c x is = own_or_none (command_caller c) x is

other_or_none : (o : Option ℕ) (x y : ℕ) → IsSomeAnd o (λ k. k ≡ x) → (y == x) ≡ false → is_own_or_none y o ≡ false
other_or_none (Some k) x y is ne = let e : k ≡ x = is in grind (arith, nat_tests)
other_or_none None x y is ne = absurd is

pub for_other : (c : Command) (x y : ℕ) → IsBy c x → (y == x) ≡ false → is_for y c ≡ false
for_other c x y is ne = other_or_none (command_caller c) x y is ne

same_caller : (o : Option ℕ) (x y : ℕ) → IsSomeAnd o (λ k. k ≡ x) → IfSome o (λ k. k ≡ y) → y ≡ x
same_caller (Some k) x y is e = let a : k ≡ x = is in let b : k ≡ y = e in cc (a, b)
same_caller None x y is e = absurd is

pub concerns_by : (c : Command) (x y : ℕ) → IsBy c x → Concerns y c → y ≡ x
concerns_by c x y is e = same_caller (command_caller c) x y is e

followed_by : (o : Option ℕ) (x : ℕ) (d : Command) (A : Type 0) → IfSome o (λ k. k ≡ x) → Concerns x d → MatchOption o A (λ k. Concerns k d → A) → A
followed_by (Some k) x d A is of f = f (subst (λ y. Concerns y d) (sym is) of)
followed_by None x d A is of f = f

-- what may follow a command is later, where both concern a caller
pub follows_later : (x : ℕ) (c : Command) (m : ℕ) (d : Command) (n : ℕ) → Concerns x c → Concerns x d → MayFollow c m d n → IsLater m d n
follows_later x c m d n is of f = followed_by (command_caller c) x d (IsLater m d n) is of f

-- a command that can be run is one of eight callers', if it is anybody's
pub plain_caller : (c : Command) → IsPlain c → IfSome (command_caller c) IsCaller
plain_caller (Change caller u) own = own
plain_caller (Near caller k p within) own = own.0
plain_caller (Nears caller k ps) own = own.0
plain_caller (Inside caller k b) own = own.0
plain_caller (Ball caller k r p) own = own.0
plain_caller (Lonely caller k r) own = own.0
plain_caller (Clusters caller k r) own = own.0
plain_caller (Pose caller rules p) own = absurd own
plain_caller Sync own = tt

one_more : (made : Option Update) (us : List Update) (n : ℕ) → length us ≤ n → length (option_to_list made ++ us) ≤ n + 1
one_more (Some u) us n le = omega arith
one_more None us n le = omega arith

-- no more updates than commands
pub updates_few : (cs : List Command) → updates_in cs ≤ length cs
updates_few [] = omega arith
updates_few (c ∷ cs) = omega (arith, one_more (command_update c) (updates_made cs) (length cs) (updates_few cs))
