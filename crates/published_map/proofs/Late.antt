-- What a refused swap shows.
use Rattle.std.proofs.Common.{◌≡◌, ℕ, ◌≤◌, List, [], ◌∷◌, length, subst, ap, arith, Some}
use Rattle.std.specs.Prelude.{◌==◌}
use Rattle.std.proofs.lemmas.Bool.{cond_both}
use Rattle.std.proofs.lemmas.List.{length-drop}
use Rattle.std.proofs.lemmas.Option.{same_Some}
use Rattle.kd_tree.specs.Shape.{Shape}
use Rattle.rebuild_parts.specs.Built.{BuiltAt}
use Rattle.rebuild_core.specs.Lawful.{IsLawful, StateAt}
use Rattle.kd_update.specs.Detached.{AreEachLawful, PartAt, part_of}
use Rattle.rebuild_core.specs.Swap.{IsLate}
use Rattle.rebuild_parts.specs.declared.fault.Late.{Late}
use Rattle.rebuild_parts.specs.declared.fault.Late.TheVariants.{Stale, Behind, NoMemory}
use Rattle.published_map.specs.Late.{IsLateCause}

-- the log of a part has at most 65,536 operations
few_logged : (large next last : ℕ) (t : Shape) (ticket : ℕ) (ps : List PartAt) (p : PartAt) → part_of ticket ps ≡ Some p → AreEachLawful large next last t ps → length p.log ≤ 65536
few_logged large next last t ticket [] p e k = absurd cc
few_logged large next last t ticket (r ∷ ps) p e k =
    cond_both (ticket == r.ticket) (Some r) (part_of ticket ps) (λ o. o ≡ Some p → length p.log ≤ 65536) (λ _ f. subst (λ (x : PartAt). length x.log ≤ 65536) (same_Some r p f) k.0.few)
    (λ _ f. few_logged large next last t ticket ps p f k.1) e

-- a refusal by a lawful state
pub late_cause : (b : BuiltAt) (most : ℕ) (s : StateAt) (l : Late) → IsLawful s → IsLate b most s l → IsLateCause b most l
late_cause b most s (Stale built) k u = u.0
late_cause b most s NoMemory k u = tt
late_cause b most s (Behind built ops) k u =
    let after = u.2 in
    let log = after.part.log in
    let logged = few_logged _ _ _ _ b.ticket s.parts after.part after.of.found k.parts.each in
    let lacks = ap length after.after in
    let left = length-drop (length b.done) log in (u.0, u.1, u.3, omega (arith, logged, lacks, left))
