use Rattle.std.proofs.Common.{ℕ, ◌<◌, subst, sym}
use Rattle.std.specs.Prelude.{Contains}
use Rattle.kd_tree.specs.Shape.{numbers}
use Rattle.kd_update.proofs.Numbers.{below_points, held_below}
use Rattle.map_bench.proofs.grown.Grown.put_all.Goals as goal

pub put_points-requires-clause-held : goal.put_points-requires-clause-held
put_points-requires-clause-held g c =
    let next = c.args.self.now.next in
    let below = subst (λ t. (n : ℕ) → Contains (numbers t) n → n < next) (sym c.replace-tree.ensures.value) c.args.self.now.below in
    held_below next c.replace-tree.result c.size-size.ensures.sound below

pub invariant_of-self-2-clause-below : goal.invariant_of-self-2-clause-below
invariant_of-self-2-clause-below g c =
    let next = c.args.self.now.next in
    let below = subst (λ t. (n : ℕ) → Contains (numbers t) n → n < next) (sym c.replace-tree.ensures.value) c.args.self.now.below in
    below_points next c.as_slice-points.result.now (numbers c.replace-tree.result) (numbers c.in_ok-self.field-0) c.in_ok-self.ensures.numbers below
