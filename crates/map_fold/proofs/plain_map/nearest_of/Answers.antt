use Rattle.std.proofs.Common.{◌≡◌, true, arith, sym, ◌∙◌, drop, ◌∷◌, ◌-◌}
use Rattle.std.proofs.lemmas.Grind.{common_steps}
use Rattle.node_labels.specs.Labels.{is_live}
use Rattle.map_fold.specs.Answers.{hit_of, is_within}
use Rattle.map_items.proofs.Numbered.{drop-at}
use Rattle.map_fold.proofs.Ranking.{nearest-cons}
use Rattle.map_fold.proofs.plain_map.nearest_of.Goals as goal

pub loop-left-preserved-in-Continue-1 : goal.loop-left-preserved-in-Continue-1
loop-left-preserved-in-Continue-1 c =
    let i = c.index-items-left.result in
    let rest = drop c.loop-left.left c.args.items.now in
    let cut : drop (c.loop-left.left - 1) c.args.items.now ≡ i ∷ rest = drop-at c.args.items.now c.loop-left.left _ i (omega arith) (omega arith) c.index-items-left.is in
    let live : is_live i.label ≡ true = grind (arith, common_steps) in
    let near : is_within c.args.within (hit_of c.args.q.now i) ≡ true = sym (rw c.dist2.ensures.value at c.is_within.ensures) ∙ c.if-is_within.true in
    record {
      within = omega arith;
      found = rw (cut, c.in_ok-put.ensures.ok, c.loop-left.invariant.found, c.dist2.ensures.value) (nearest-cons i rest c.args.k c.args.q.now c.args.within live near);
    }
