use Rattle.std.proofs.Common.{◌≡◌, ◌∙◌, length, Some, ap, subst, sym, to_z, of_z, w64, rules}
use Rattle.std.proofs.lemmas.Int.{to_z-of_z}
use Rattle.map_c.specs.Answers.{IsNearest, IsNearestRefusal}
use Rattle.map_c.specs.Frozen.{frozen_in}
use Rattle.map_c.specs.Status.{code}
use Rattle.map_c.proofs.Told.{refused_told}
use Rattle.map_c.proofs.asking.corv_frozen_nearest.Goals as goal

pub returns-in-Err : goal.returns-in-Err
returns-in-Err c =
    let old = c.args.frozen.now.held.content in
    let held : old ≡ Some c.in-Some.content.value = c.in-Some.ensures.some in
    let kept : Some c.deref.result.now ≡ Some c.in-Some.content.value = ap (λ x. Some x) c.deref.ensures in
    let within : to_z w64 (of_z w64 c.args.within) ≡ c.args.within = to_z-of_z w64 c.args.within (search rules) in
    let of_kept = subst (λ z. IsNearestRefusal (frozen_in (Some c.deref.result.now)) c.args.place.now c.args.k z (length c.args.hits.now) (code c.in-Err.refusal)) within c.in-Err.ensures.refused in
    let refused = subst (λ x. IsNearestRefusal (frozen_in x) c.args.place.now c.args.k c.args.within (length c.args.hits.now) (code c.in-Err.refusal)) (kept ∙ sym held) of_kept in
    refused_told (IsNearest (frozen_in old) c.args.place.now c.args.k c.args.within c.search-found.new.hits 0)
    (IsNearestRefusal (frozen_in old) c.args.place.now c.args.k c.args.within (length c.args.hits.now)) old c.of.result.held.content c.in-Err.refusal
    c.status-in-Err.result c.status-in-Err.ensures refused (c.of.ensures ∙ sym held)
