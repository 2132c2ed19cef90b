use Rattle.std.proofs.Common.{◌≡◌, [], arith, subst}
use Rattle.std.proofs.lemmas.List.{nil_from_length}
use Rattle.kd_tree.specs.Shape.{numbers}
use Rattle.map_items.specs.Contents.{Member}
use Rattle.map_update.proofs.AtOnce.{free_balanced, free_draft}
use Rattle.map_update.proofs.Clearing.{cleared_contents}
use Rattle.map_update.proofs.Drafts.{among_below}
use Rattle.map_update.proofs.draft.Draft.cleared.Goals as goal
use Rattle.map_update.proofs.draft.Draft.cleared.Goals.{In_ok-tree}

-- nothing is watched
free : (g : _) (c : In_ok-tree g) → c.args.self.watches ≡ []
free g c = nil_from_length c.args.self.watches (omega (arith, c.len.ensures, c.if-len-gt0.false))

pub returns-clause-contents : goal.returns-clause-contents
returns-clause-contents g c = cleared_contents c.args.cuboids.now c.args.self.tree c.in_ok-tree.tree c.size-size.ensures.sound c.in_ok-tree.ensures.cleared

pub returns-clause-draft : goal.returns-clause-draft
returns-clause-draft g c = λ next last ps d.
    let w = c.args.self in
    let t = c.in_ok-tree.tree in
    let none = free g (goal.at.returns-clause-draft g c).In_ok-tree in
    free_draft c.args.large next last ps (record { tree = t; watches = w.watches }) none
    (among_below next (numbers t) (numbers w.tree) c.in_ok-tree.ensures.cleared.from d.below) (c.in_ok-tree.ensures.balance (free_balanced c.args.large next last ps w none d))

pub returns-clause-drafted : goal.returns-clause-drafted
returns-clause-drafted g c = record {
  low = omega (arith, c.in_ok-tree.ensures.cleared.low);
  few = omega (arith, c.in_ok-tree.ensures.cleared.few);
  still = λ room x there own. absurd (subst (Member x) (free g (goal.at.returns-clause-drafted g c).In_ok-tree) there);
}
