-- A script's callers are from 1 to 8, and callers that are told apart have each a pass.
use Rattle.std.proofs.Common.{◌≡◌, ℕ, zero, suc, ◌+◌, List, [], ◌∷◌, length, refl, sym, ap, ◌∙◌, subst}
use Rattle.std.specs.List.{AllByRecursion}
use Rattle.scan_log.specs.declared.command.Command.{Command}
use Rattle.scan_log.specs.declared.command.Command.TheVariants.{Change, Near, Nears, Inside, Ball, Lonely, Clusters, Pose, Sync}
use Rattle.scan_log.specs.declared.format.Format.{Format}
use Rattle.scan_log.specs.Scripts.{IsCommand}
use Rattle.scan_log.specs.Legal.{numbers_from}
use Rattle.shown_versions.specs.Marks.{Seen, IsDistinct, callers_of}
use Rattle.mapper_core.specs.Meetings.{HasCaller}
use Rattle.mapper_core.proofs.Meeting.{distinct_counted}

own : (format : Format) (c : Command) → IsCommand format c → HasCaller 8 c
own format (Change caller u) is = is.0
own format (Near caller k p within) is = is.0
own format (Nears caller k ps) is = is.0
own format (Inside caller k c) is = is.0
own format (Ball caller k r p) is = is.0
own format (Lonely caller k r) is = is.0
own format (Clusters caller k r) is = is.0
own format (Pose caller rules p) is = is.0
own format Sync is = tt

pub all_own : (format : Format) (cs : List Command) → AllByRecursion (IsCommand format) cs → AllByRecursion (HasCaller 8) cs
all_own format [] all = tt
all_own format (c ∷ cs) all = (own format c all.0, all_own format cs all.1)

length_callers : (ps : List Seen) → length (callers_of ps) ≡ length ps
length_callers [] = refl
length_callers (p ∷ ps) = ap suc (length_callers ps)

length_counted : (n k : ℕ) → length (numbers_from n k) ≡ k
length_counted n zero = refl
length_counted n (suc k) = ap suc (length_counted (n + 1) k)

pub as_many : (n : ℕ) (ps : List Seen) → callers_of ps ≡ numbers_from 1 n → length ps ≡ n
as_many n ps are = sym (length_callers ps) ∙ ap length are ∙ length_counted 1 n

pub apart : (n : ℕ) (ps : List Seen) → callers_of ps ≡ numbers_from 1 n → IsDistinct (callers_of ps)
apart n ps are = subst IsDistinct (sym are) (distinct_counted 1 n)
