use Rattle.std.proofs.Common.{◌≡◌, ◌∙◌, ap, List, Some, None, refl, sym}
use Rattle.kd_tree.specs.Apart.{beyond, first_free}
use Rattle.kd_tree.specs.declared.path.Side.{Side}
use Rattle.kd_tree.proofs.Breaches.{clear_of_none, none_of_clear, first_free_is, found_path, found_none}
use Rattle.kd_tree.proofs.node.Tree.first_free_breach.Goals as goal
use Rattle.kd_tree.proofs.node.Tree.first_free_breach.Goals.{After-seek}

-- from the top, the paths are whole
whole : (c : After-seek) → first_free c.args.least (beyond c.root-path.result c.args.except.now) c.args.self.now ≡ first_free c.args.least c.args.except.now c.args.self.now
whole c = ap (λ (p : List Side). first_free c.args.least (beyond p c.args.except.now) c.args.self.now) c.root-path.ensures

pub returns-then-seek-clause-criteria : goal.returns-then-seek-clause-criteria
returns-then-seek-clause-criteria c =
    let some : first_free c.args.least c.args.except.now c.args.self.now ≡ Some c.seek.new.path =
    sym (whole c.before)
    ∙ found_path _ _ _ _ c.seek.ensures.found c.root-path.ensures c.seek.ensures.path c.if-seek.true in
    ((λ e. cc), (λ k. let none = none_of_clear c.args.least c.args.except.now c.args.self.now k in cc))

pub returns-then-seek-clause-first : goal.returns-then-seek-clause-first
returns-then-seek-clause-first c =
    let some : first_free c.args.least c.args.except.now c.args.self.now ≡ Some c.seek.new.path =
    sym (whole c.before)
    ∙ found_path _ _ _ _ c.seek.ensures.found c.root-path.ensures c.seek.ensures.path c.if-seek.true in
    first_free_is c.args.least c.args.except.now c.args.self.now c.seek.new.path some

pub returns-else-seek-clause-criteria : goal.returns-else-seek-clause-criteria
returns-else-seek-clause-criteria c =
    let none : first_free c.args.least c.args.except.now c.args.self.now ≡ None = sym (whole c.before) ∙ found_none _ _ c.seek.ensures.found c.if-seek.false in
    ((λ e. clear_of_none c.args.least c.args.except.now c.args.self.now none), (λ k. refl))
