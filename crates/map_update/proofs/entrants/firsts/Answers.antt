use Rattle.std.proofs.Common.{◌≡◌, ◌∙◌, ℕ, List, ap, arith, length, map, rules, subst, sym}
use Rattle.std.specs.List.{dedup}
use Rattle.std.specs.List.Sorted.{IsPermutation}
use Rattle.std.proofs.lemmas.List.{length-map}
use Rattle.std.proofs.lemmas.List.Sorted.{length_permutation}
use Rattle.std.proofs.lemmas.Fn.{always_returns_same, dedup_same}
use Rattle.kd_update.specs.Scan.{live_from}
use Rattle.kd_update.proofs.Joins.{live_from-length}
use Rattle.map_update.specs.declared.entrants.Entrant.{Entrant}
use Rattle.map_update.specs.Entrants.{AreFirsts}
use Rattle.map_update.specs.Ranks.{HaveVoxels, entrant_of, items_in}
use Rattle.map_update.proofs.Ranks.{ahead_order, dedup_few, is_ahead, is_same_voxel, sorted_firsts}
use Rattle.map_update.proofs.entrants.firsts.Goals as goal

left : (c : goal.After-dedup_by_key) → c.dedup_by_key.new.self.items ≡ dedup is_same_voxel c.sort_unstable_by.new.self.items
left c = dedup_same _ is_same_voxel _ (λ x y b f h k called. search rules) _ _ c.dedup_by_key.ensures.filtered

both : (c : goal.After-dedup_by_key) → let es = c.sort_unstable_by.new.self.items in
    AreFirsts c.args.settings.now.voxel c.args.next c.args.points.now (items_in (dedup is_same_voxel es)) × HaveVoxels c.args.settings.now.voxel (dedup is_same_voxel es)
both c =
    let edge = c.args.settings.now.voxel in
    let es = c.sort_unstable_by.new.self.items in
    let all = c.in_ok-entrants.ensures ∙ ap (λ (n : ℕ). map (entrant_of n) (live_from c.args.next c.args.points.now)) c.voxel-edge.ensures.value in
    let moved = subst (λ (xs : List Entrant). IsPermutation xs es) all c.sort_unstable_by.ensures.permutation in
    sorted_firsts edge c.args.next c.args.points.now es c.voxel-edge.ensures.sizes.voxel_from moved
    (c.sort_unstable_by.ensures.sorted is_ahead ahead_order (always_returns_same _ _ _ (λ a r g h. search rules)))

pub returns-clause-firsts : goal.returns-clause-firsts
returns-clause-firsts c = subst (λ (es : List Entrant). AreFirsts c.args.settings.now.voxel c.args.next c.args.points.now (items_in es)) (sym (left c)) (both c).0

pub returns-clause-cubes : goal.returns-clause-cubes
returns-clause-cubes c = subst (HaveVoxels c.args.settings.now.voxel) (sym (left c)) (both c).1

pub returns-clause-few : goal.returns-clause-few
returns-clause-few c =
    let es = c.sort_unstable_by.new.self.items in
    let is = live_from c.args.next c.args.points.now in
    let f = entrant_of c.args.settings.now.voxel in
    let all = c.in_ok-entrants.ensures ∙ ap (λ (n : ℕ). map (entrant_of n) is) c.voxel-edge.ensures.value in
    let moved : IsPermutation (map f is) es = subst (λ (xs : List Entrant). IsPermutation xs es) all c.sort_unstable_by.ensures.permutation in
    omega (arith, ap (λ (xs : List Entrant). length xs) (left c), dedup_few es, length_permutation (map f is) es moved, length-map is f, live_from-length c.args.next c.args.points.now)
