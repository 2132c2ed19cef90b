-- Slices of a script's commands.
use Rattle.std.proofs.Common.{◌≡◌, ℕ, zero, suc, ◌+◌, ◌-◌, ◌≤◌, true, false, List, [], ◌∷◌, ◌++◌, length, take, drop, Some, None, IfSome, slice_get, refl, ap, ◌∙◌, subst, arith}
use Rattle.std.specs.Prelude.{◌<◌, is_none, IsSomeAnd}
use Rattle.std.specs.List.{AllByRecursion}
use Rattle.std.specs.declared.option.Option.{Option}
use Rattle.scan_log.specs.Commands.{command_caller}
use Rattle.scan_log.specs.declared.command.Command.{Command}
use Rattle.scan_log.specs.declared.command.Command.TheVariants.{Change, Near, Nears, Inside, Ball, Lonely, Clusters, Pose, Sync}
use Rattle.shown_versions.specs.Marks.{Seen}
use Rattle.scan_log.specs.Scripts.{ScriptAt, points_of}
use Rattle.scan_log.specs.Poses.{no_regions, plain_command, plain_from, plain_script, regions_after}
use Rattle.local_region.specs.Regions.{RegionAt}
use Rattle.mapper_core.specs.Ended.{CanRun}
use Rattle.mapper_core.specs.Meetings.{is_barrier, IsOfCallers, HasCaller}
use Rattle.mapper_core.proofs.Beginnings.{take_next}

pub all_take : {A : Type 0} (P : A → Type 0) (n : ℕ) (xs : List A) → AllByRecursion P xs → AllByRecursion P (take n xs)
all_take P zero [] all = tt
all_take P zero (x ∷ xs) all = tt
all_take P (suc n) [] all = tt
all_take P (suc n) (x ∷ xs) all = (all.0, all_take P n xs all.1)

pub all_drop : {A : Type 0} (P : A → Type 0) (n : ℕ) (xs : List A) → AllByRecursion P xs → AllByRecursion P (drop n xs)
all_drop P zero [] all = tt
all_drop P zero (x ∷ xs) all = all
all_drop P (suc n) [] all = tt
all_drop P (suc n) (x ∷ xs) all = all_drop P n xs all.1

pub all_get : {A : Type 0} (P : A → Type 0) (xs : List A) (k : ℕ) (x : A) → AllByRecursion P xs → slice_get xs k ≡ Some x → P x
all_get P [] k x all at = absurd (cc at)
all_get P (y ∷ xs) zero x all at = let e : y ≡ x = cc (at) in subst P e all.0
all_get P (y ∷ xs) (suc k) x all at = all_get P xs k x all.1 at

pub all_last : {A : Type 0} (P : A → Type 0) (xs : List A) (x : A) → AllByRecursion P xs → P x → AllByRecursion P (xs ++ x ∷ [])
all_last P [] x all p = (p, tt)
all_last P (y ∷ xs) x all p = (all.0, all_last P xs x all.1 p)

pub take_length_le : {A : Type 0} (n : ℕ) (xs : List A) → length (take n xs) ≤ length xs
take_length_le zero [] = omega arith
take_length_le zero (x ∷ xs) = omega arith
take_length_le (suc n) [] = omega arith
take_length_le (suc n) (x ∷ xs) = let r = take_length_le n xs in omega arith

-- the first commands have no more points than all
pub points_take : (n : ℕ) (cs : List Command) → points_of (take n cs) ≤ points_of cs
points_take zero [] = omega arith
points_take zero (c ∷ cs) = omega arith
points_take (suc n) [] = omega arith
points_take (suc n) (c ∷ cs) = let r = points_take n cs in omega arith

pub barrier_is : (c : Command) → is_barrier c ≡ true → c ≡ Sync
barrier_is (Change caller u) is = absurd (cc is)
barrier_is (Near caller k p within) is = absurd (cc is)
barrier_is (Nears caller k ps) is = absurd (cc is)
barrier_is (Inside caller k b) is = absurd (cc is)
barrier_is (Ball caller k r p) is = absurd (cc is)
barrier_is (Lonely caller k r) is = absurd (cc is)
barrier_is (Clusters caller k r) is = absurd (cc is)
barrier_is (Pose caller rules place) is = absurd (cc is)
barrier_is Sync is = refl

one_of : (n : ℕ) (o : Option ℕ) → is_none o ≡ false → IfSome o (λ k. (1 ≤ k) × (k ≤ n)) → (k : ℕ) × IsSomeAnd o (λ caller. caller ≡ k + 1) × (k < n)
one_of n (Some k) is has = let a : 1 ≤ k = has.0 in let b : k ≤ n = has.1 in (k - 1, omega arith, omega arith)
one_of n None is has = absurd (cc is)

-- a command that is no barrier is one of the callers'
pub caller_is : (n : ℕ) (c : Command) → is_barrier c ≡ false → HasCaller n c → IsOfCallers n c
caller_is n c is has = one_of n (command_caller c) is has

drop_slice : {A : Type 0} (n k : ℕ) (xs : List A) (x : A) → slice_get xs (n + k) ≡ Some x → slice_get (drop n xs) k ≡ Some x
drop_slice zero k [] x at = absurd (cc at)
drop_slice zero k (y ∷ xs) x at = subst (λ z. slice_get (y ∷ xs) z ≡ Some x) (omega arith) at
drop_slice (suc n) k [] x at = absurd (cc at)
drop_slice (suc n) k (y ∷ xs) x at =
    let e : suc n + k ≡ suc (n + k) = omega arith in
    drop_slice n k xs x (subst (λ z. slice_get (y ∷ xs) z ≡ Some x) e at)

-- one more command of the slice
pub slice_next : {A : Type 0} (from at : ℕ) (xs : List A) (x : A) → from ≤ at → slice_get xs at ≡ Some x
    → take ((at + 1) - from) (drop from xs) ≡ take (at - from) (drop from xs) ++ x ∷ []
slice_next from at xs x le there =
    let k : ℕ = at - from in
    let whole : at ≡ from + k = omega arith in
    let here : slice_get (drop from xs) k ≡ Some x = drop_slice from k xs x (subst (λ z. slice_get xs z ≡ Some x) whole there) in
    let more : (at + 1) - from ≡ suc k = omega arith in
    ap (λ z. take z (drop from xs)) more ∙ take_next (drop from xs) k x here

caller_more : (n m : ℕ) (o : Option ℕ) → n ≤ m → IfSome o (λ k. (1 ≤ k) × (k ≤ n)) → IfSome o (λ k. (1 ≤ k) × (k ≤ m))
caller_more n m (Some k) le has = (has.0, (let a : k ≤ n = has.1 in omega arith))
caller_more n m None le has = tt

pub has_caller_more : (n m : ℕ) (c : Command) → n ≤ m → HasCaller n c → HasCaller m c
has_caller_more n m c le has = caller_more n m (command_caller c) le has

pub all_none : {A : Type 0} (P : A → Type 0) (n : ℕ) (xs : List A) → n ≡ 0 → AllByRecursion P (take n xs)
all_none P zero [] is = tt
all_none P zero (x ∷ xs) is = tt
all_none P (suc n) xs is = absurd (omega arith)

-- the callers of a script's commands are those of its commands without poses
command_has : (n : ℕ) (regions : List (Option RegionAt)) (c : Command) → HasCaller n c → HasCaller n (plain_command regions c)
command_has n regions (Change caller u) has = has
command_has n regions (Near caller k p within) has = has
command_has n regions (Nears caller k ps) has = has
command_has n regions (Inside caller k c) has = has
command_has n regions (Ball caller k r p) has = has
command_has n regions (Lonely caller k r) has = has
command_has n regions (Clusters caller k r) has = has
command_has n regions (Pose caller rules p) has = has
command_has n regions Sync has = has

plain_has : (n : ℕ) (regions : List (Option RegionAt)) (cs : List Command) → AllByRecursion (HasCaller n) cs → AllByRecursion (HasCaller n) (plain_from regions cs)
plain_has n regions [] all = tt
plain_has n regions (c ∷ cs) all = (command_has n regions c all.0, plain_has n (regions_after regions c) cs all.1)

pub plain_ready : (n m v : ℕ) (s : ScriptAt) (ps : List Seen) → CanRun n m v s ps → CanRun n m v (plain_script s) ps
plain_ready n m v s ps h = record { voxel = h.voxel; named = plain_has n no_regions s.commands h.named; newcomers = h.newcomers; parts = h.parts; callers = h.callers }
