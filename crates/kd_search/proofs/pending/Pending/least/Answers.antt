use Rattle.std.proofs.Common.{◌≤◌, refl, subst, sym}
use Rattle.std.proofs.lemmas.List.Elements.{recursion_from_All}
use Rattle.map_items.specs.declared.item.Item.{Item}
use Rattle.kd_tree.specs.Shape.{Shape, numbers}
use Rattle.kd_tree.specs.Walk.{walk}
use Rattle.kd_tree.proofs.Held.{walk_numbers}
use Rattle.kd_search.specs.First.{AreFrom}
use Rattle.kd_search.proofs.pending.Pending.least.Goals as goal

pub returns-in-None : goal.returns-in-None
returns-in-None c = subst (λ (t : Shape). AreFrom 4294967295 (walk c.args.self.now.pending t)) (sym (c.in-None.ensures.none.0 refl)) tt

pub returns-in-Some : goal.returns-in-Some
returns-in-Some c =
    let tree = c.args.self.now.tree.now in
    let least = c.in-Some.numbers.least in
    recursion_from_All (λ (i : Item). least ≤ i.number) (walk c.args.self.now.pending tree)
    (walk_numbers (λ n. least ≤ n) c.args.self.now.pending tree (recursion_from_All (λ n. least ≤ n) (numbers tree) c.in-Some.ensures.range.from))
