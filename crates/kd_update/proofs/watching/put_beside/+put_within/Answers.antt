use Rattle.std.proofs.Common.{◌∙◌, List, refl, sym, subst, arith, length, ap}
use Rattle.std.specs.Prelude.{IfOk}
use Rattle.std.proofs.lemmas.Bool.{eqb-true}
use Rattle.std.proofs.lemmas.List.{nil_from_length}
use Rattle.std.proofs.lemmas.Result.{IfOk-weaker}
use Rattle.map_items.specs.declared.item.Item.{Item}
use Rattle.kd_tree.specs.Shape.{Shape}
use Rattle.kd_tree.specs.Parts.{fork_in, fork_of}
use Rattle.kd_update.specs.Crossing.{IsWholeGrown}
use Rattle.kd_mark.proofs.Trees.{pushed_smaller}
use Rattle.kd_update.proofs.Grown.{IsStep, distinct_back, step_pieces, step_sound}
use Rattle.kd_update.proofs.Crossing.{step_from, whole_none, whole_step}
use Rattle.kd_update.proofs.watching.put_beside.+put_within.Goals as goal
use Rattle.kd_update.proofs.watching.put_beside.+put_within.Goals.{After-split_at_mut-lefts}

-- the items are parted where the tree is taken apart
step : (g : _) (t : _) (c : After-split_at_mut-lefts g t) → IsStep c.args.tree c.args.items.now (fork_of c.in-Some.node) c.split_at_mut-lefts.result.0.now c.split_at_mut-lefts.result.1.now
step g t c =
    step_from c.args.tree (fork_of c.in-Some.node) c.moved_left-count.result c.args.items.now
    c.moved_left-count.new.items _ _ (ap fork_in (sym c.in-Some.is) ∙ c.in_ok-node.ensures.parts)
    c.size-size.ensures.sound
    c.moved_left-count.ensures.moved c.moved_left-count.ensures.left c.moved_left-count.ensures.right c.split_at_mut-lefts.ensures.front c.split_at_mut-lefts.ensures.back

pub returns-then-is_empty : goal.returns-then-is_empty
returns-then-is_empty g t c =
    subst (λ (xs : List Item). IsWholeGrown c.args.tree xs c.args.tree) (sym (nil_from_length c.args.items.now
    (eqb-true (length c.args.items.now) 0 (sym c.is_empty.ensures ∙ c.if-is_empty.true))))
    (whole_none c.args.tree)

pub put_first-requires-clause-live : goal.put_first-requires-clause-live
put_first-requires-clause-live g t c = c.requires.1.live

pub put_first-requires-clause-distinct : goal.put_first-requires-clause-distinct
put_first-requires-clause-distinct g t c = distinct_back _ _ c.requires.1.distinct

pub put_first-requires-clause-short : goal.put_first-requires-clause-short
put_first-requires-clause-short g t c = c.requires.1.short

pub returns-in_default : goal.returns-in_default
returns-in_default g t c =
    subst (λ (s : Shape). IfOk c.put_first.result (λ v. IsWholeGrown s c.args.items.now v))
    (sym (c.in_ok-node.ensures.none.0 (rw c.in_default.is refl))) c.put_first.ensures.grown

pub put_within-requires : goal.put_within-requires
put_within-requires g t c κs within =
    let k = step g t (goal.at.put_within-requires g t c).After-split_at_mut-lefts in (
      omega (
        arith,
        (pushed_smaller c.args.tree (fork_of c.in-Some.node)
            (ap fork_in (sym c.in-Some.is) ∙ c.in_ok-node.ensures.parts)).0,
      ),
      (within, (c.requires.0, (step_pieces c.requires.0 _ _ _ _ _ k c.requires.1).0)),
    )

pub put_within-requires-2 : goal.put_within-requires-2
put_within-requires-2 g t c κs within =
    let k = step g t (goal.at.put_within-requires-2 g t c).After-split_at_mut-lefts in (
      omega (
        arith,
        (pushed_smaller c.args.tree (fork_of c.in-Some.node)
            (ap fork_in (sym c.in-Some.is) ∙ c.in_ok-node.ensures.parts)).1,
      ),
      (within, (c.requires.0, (step_pieces c.requires.0 _ _ _ _ _ k c.requires.1).1)),
    )

pub joined-requires : goal.joined-requires
joined-requires g t c =
    step_sound c.requires.0 _ _ _ _ _ c.in_ok-put_within.field-0 c.in_ok-put_within-2.field-0
    (step g t (goal.at.joined-requires g t c).After-split_at_mut-lefts) c.requires.1 c.in_ok-put_within.ensures.grown
    c.in_ok-put_within-2.ensures.grown

pub returns : goal.returns
returns g t c =
    let done =
    whole_step _ _ _ _ _ c.in_ok-put_within.field-0 c.in_ok-put_within-2.field-0
    (ap fork_in (sym c.in-Some.is) ∙ c.in_ok-node.ensures.parts)
    (step g t (goal.at.returns g t c).After-split_at_mut-lefts) c.in_ok-put_within.ensures c.in_ok-put_within-2.ensures in
    IfOk-weaker c.joined.result _ _ (λ v e. subst (λ u. IsWholeGrown c.args.tree c.args.items.now u) (sym e) done) c.joined.ensures.shape
