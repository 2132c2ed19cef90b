use Rattle.std.proofs.Common.{◌≡◌, [], ap, length, subst, sym, ◌∙◌}
use Rattle.std.specs.Prelude.{IfSome, IsNone, ◌↔◌}
use Rattle.std.specs.declared.option.Option.{Option}
use Rattle.map_items.specs.declared.item.Item.{Item}
use Rattle.map_fold.specs.Answers.{inside_all}
use Rattle.kd_search.specs.Best.{best_inside, best_of, IsBest}
use Rattle.kd_search.proofs.Least.{best_is, best_none}
use Rattle.kd_tree.specs.Contents.{contents}
use Rattle.kd_tree.proofs.Held.{are_contents}
use Rattle.map_update.specs.Waiting.{contents_of, left_in}
use Rattle.map_update.proofs.Both.{best_clear, count_clear, distinct_both}
use Rattle.map_update.proofs.Thinnings.{inside_apart}
use Rattle.map_update.proofs.waiting.Waiting.rivals.Goals as goal
use Rattle.map_update.proofs.waiting.Waiting.rivals.Goals.{After-rivals_in}

-- what is live in the box is what the tree holds there
searched : (c : After-rivals_in) → inside_all (left_in c.args.self.now) c.args.cuboid.now ≡ inside_all (contents c.args.self.now.draft.tree) c.args.cuboid.now
searched c =
    let w = c.args.self.now in
    inside_apart c.args.cuboid.now w.cuboids.items 0 c.args.high (contents w.draft.tree) c.requires.clear.apart (are_contents c.args.high w.draft.tree c.size-size.ensures.sound c.requires.waiting.below)

value : (c : After-rivals_in) → c.rivals_in.result.best ≡ best_inside (contents_of c.args.self.now) c.args.cuboid.now
value c =
    let w = c.args.self.now in
    let box = c.args.cuboid.now in
    c.rivals_in.ensures.best ∙ ap (best_of box) (sym (searched c))
    ∙ best_clear box (left_in w) w.items.items c.requires.clear.none (distinct_both c.args.high (left_in w) w.items.items c.requires.waiting.held)

pub returns-clause-none : goal.returns-clause-none
returns-clause-none c =
    let P : Option Item → Type 0 = λ o. IsNone o ↔ (inside_all (contents_of c.args.self.now) c.args.cuboid.now ≡ []) in
    subst P (sym (value c)) (best_none (contents_of c.args.self.now) c.args.cuboid.now)

pub returns-clause-best : goal.returns-clause-best
returns-clause-best c =
    let P : Option Item → Type 0 = λ o. IfSome o (IsBest (contents_of c.args.self.now) c.args.cuboid.now) in
    subst P (sym (value c)) (best_is (contents_of c.args.self.now) c.args.cuboid.now)

pub returns-clause-count : goal.returns-clause-count
returns-clause-count c =
    let w = c.args.self.now in
    c.rivals_in.ensures.count ∙ ap length (sym (searched c)) ∙ count_clear c.args.cuboid.now (left_in w) w.items.items c.requires.clear.none
