use Rattle.std.proofs.Common.{◌≡◌, ap, ◌∙◌, sym, subst, Option, Some}
use Rattle.kd_tree.specs.Shape.{numbers}
use Rattle.kd_tree.specs.Numbers.{range}
use Rattle.kd_tree.specs.View.{IsKept, IsKeptBeside, shape_at, shape_of}
use Rattle.kd_tree.specs.declared.node.Root.TheVariants.{Full}
use Rattle.kd_tree.specs.declared.node.Tree.TheInside.{Inside}
use Rattle.kd_tree.specs.declared.numbers.Numbers.{Numbers}
use Rattle.kd_tree.proofs.Ranges.{IsRangeIn, range_is}
use Rattle.kd_tree.proofs.node.Tree.numbers.Goals as goal
use Rattle.kd_tree.proofs.node.Tree.numbers.Goals.{After-deref}

-- the numbers that the top node keeps are those of the tree
kept_numbers : (c : After-deref) → ◌≡◌ {A = Option Numbers} (Some c.deref.result.now.numbers) (range c.args.self.now)
kept_numbers c =
    let opened : Inside = record { root = Full c.in-Full.levels c.in-Full.size c.in-Full.node } in
    let same : c.self.inside ≡ opened = ap (λ r. let i : Inside = record { root = r } in i) c.in-Full.is in
    let kept : IsKeptBeside c.in-Full.levels c.in-Full.size c.in-Full.node.value = subst IsKept same c.self.invariant in
    let shape : shape_at c.in-Full.node.value ≡ c.args.self.now = ap shape_of (sym same) ∙ c.self.view_is in
    rw c.deref.ensures (kept.node.numbers ∙ ap range shape)

pub returns-in-Full-clause-range : goal.returns-in-Full-clause-range
returns-in-Full-clause-range c = subst (λ (o : Option Numbers). IsRangeIn (numbers c.args.self.now) o) (sym (kept_numbers c.before)) (range_is c.args.self.now)
