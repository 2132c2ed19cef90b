use Rattle.std.proofs.Common.{◌∙◌, List, refl, sym, subst, arith, length, ap}
use Rattle.std.proofs.lemmas.Bool.{eqb-true}
use Rattle.std.proofs.lemmas.List.{nil_from_length}
use Rattle.std.proofs.lemmas.Result.{IfOk-weaker}
use Rattle.kd_tree.specs.Apart.{AreAllApart}
use Rattle.kd_tree.specs.Parts.{fork_in, fork_of}
use Rattle.kd_tree.specs.declared.path.Side.{Side}
use Rattle.kd_tree.specs.declared.path.Side.TheVariants.{Left, Right}
use Rattle.kd_mark.specs.Several.{AreLargeAt}
use Rattle.kd_update.specs.Crossing.{IsCrossed}
use Rattle.kd_mark.specs.Ways.{paths_of}
use Rattle.kd_update.proofs.Grown.{IsStep, step_pieces, step_sound}
use Rattle.kd_update.proofs.Lists.{some_items}
use Rattle.kd_mark.proofs.Results.{ok_both}
use Rattle.kd_mark.proofs.Several.{passed_by}
use Rattle.kd_update.proofs.Several.{none_on}
use Rattle.kd_mark.proofs.Trees.{pushed_smaller}
use Rattle.kd_mark.proofs.WayLists.{none_of, some_of}
use Rattle.kd_update.proofs.Crossing.{apart_on, crossed_free, crossed_here, crossed_none, crossed_step, step_from}
use Rattle.kd_update.proofs.watching.put_beside.+put_beside.Goals as goal
use Rattle.kd_update.proofs.watching.put_beside.+put_beside.Goals.{After-split_at_mut-lefts}

-- the items are parted where the tree is taken apart
step : (g : _) (t : _) (c : After-split_at_mut-lefts g t) → IsStep c.args.tree c.args.items.now (fork_of c.in-Some.node) c.split_at_mut-lefts.result.0.now c.split_at_mut-lefts.result.1.now
step g t c =
    step_from c.args.tree (fork_of c.in-Some.node) c.moved_left-count.result c.args.items.now
    c.moved_left-count.new.items _ _ (ap fork_in (sym c.in-Some.is) ∙ c.in_ok-node.ensures.parts)
    c.size-size.ensures.sound
    c.moved_left-count.ensures.moved c.moved_left-count.ensures.left c.moved_left-count.ensures.right c.split_at_mut-lefts.ensures.front c.split_at_mut-lefts.ensures.back

pub returns-then-is_empty : goal.returns-then-is_empty
returns-then-is_empty g t c =
    let ps = paths_of c.args.ways.now in
    let none = none_of ps (sym c.is_empty.ensures ∙ c.if-is_empty.true) in
    ok_both c.put_at_once.result _ _ (λ v. IsCrossed c.args.large ps c.args.tree c.args.items.now v)
    (λ v k e. crossed_free c.args.large ps c.args.tree v c.args.items.now none k e) c.put_at_once.ensures.grown
    c.put_at_once.ensures.balance

pub returns-then-is_here : goal.returns-then-is_here
returns-then-is_here g t c =
    IfOk-weaker c.put_within.result _ _ (λ v k. crossed_here c.args.large (paths_of c.args.ways.now) c.args.tree v
    c.args.items.now c.requires.apart (sym c.is_here.ensures ∙ c.if-is_here.true) k) c.put_within.ensures

pub returns-then-is_empty-2 : goal.returns-then-is_empty-2
returns-then-is_empty-2 g t c =
    crossed_none c.args.large (paths_of c.args.ways.now) c.args.tree c.args.items.now
    (nil_from_length c.args.items.now
    (eqb-true (length c.args.items.now) 0 (sym c.is_empty-2.ensures ∙ c.if-is_empty-2.true)))
    (sym c.is_here.ensures ∙ c.if-is_here.false)

pub put_beside-requires : goal.put_beside-requires
put_beside-requires g t c κs within =
    let x = ap fork_in (sym c.in-Some.is) ∙ c.in_ok-node.ensures.parts in
    let f = fork_of c.in-Some.node in
    let ps = paths_of c.args.ways.now in
    let pieces = step_pieces c.args.large c.args.tree c.args.items.now f _ _ (step g t (goal.at.put_beside-requires g t c).After-split_at_mut-lefts) c.requires.piece in (
      omega (arith, (pushed_smaller c.args.tree f x).0),
      (
        within,
        (
          pieces.0,
          (
            subst (λ (qs : List (List Side)). AreLargeAt c.args.large qs f.left) (sym c.onward-on_left.ensures)
                ((passed_by c.args.large ps c.args.tree f x c.requires.there).there Left),
            subst AreAllApart (sym c.onward-on_left.ensures) (apart_on Left ps c.requires.apart),
          ),
        ),
      ),
    )

pub put_beside-requires-2 : goal.put_beside-requires-2
put_beside-requires-2 g t c κs within =
    let x = ap fork_in (sym c.in-Some.is) ∙ c.in_ok-node.ensures.parts in
    let f = fork_of c.in-Some.node in
    let ps = paths_of c.args.ways.now in
    let pieces = step_pieces c.args.large c.args.tree c.args.items.now f _ _ (step g t (goal.at.put_beside-requires-2 g t c).After-split_at_mut-lefts) c.requires.piece in (
      omega (arith, (pushed_smaller c.args.tree f x).1),
      (
        within,
        (
          pieces.1,
          (
            subst (λ (qs : List (List Side)). AreLargeAt c.args.large qs f.right) (sym c.onward-on_right.ensures)
                ((passed_by c.args.large ps c.args.tree f x c.requires.there).there Right),
            subst AreAllApart (sym c.onward-on_right.ensures) (apart_on Right ps c.requires.apart),
          ),
        ),
      ),
    )

pub joined-requires : goal.joined-requires
joined-requires g t c =
    step_sound c.args.large _ _ _ _ _ c.in_ok-left.left c.in_ok-right.right
    (step g t (goal.at.joined-requires g t c).After-split_at_mut-lefts) c.requires.piece c.in_ok-left.ensures.grown
    c.in_ok-right.ensures.grown

pub returns : goal.returns
returns g t c =
    let ps = paths_of c.args.ways.now in
    let f = fork_of c.in-Some.node in
    let u = subst (λ (qs : List (List Side)). IsCrossed c.args.large qs f.left c.split_at_mut-lefts.result.0.now c.in_ok-left.left) c.onward-on_left.ensures c.in_ok-left.ensures in
    let v = subst (λ (qs : List (List Side)). IsCrossed c.args.large qs f.right c.split_at_mut-lefts.result.1.now c.in_ok-right.right) c.onward-on_right.ensures c.in_ok-right.ensures in
    let done =
    crossed_step c.args.large ps c.args.tree c.args.items.now f _ _ c.in_ok-left.left c.in_ok-right.right
    (ap fork_in (sym c.in-Some.is) ∙ c.in_ok-node.ensures.parts)
    (step g t (goal.at.returns g t c).After-split_at_mut-lefts) c.requires.piece c.requires.there
    (sym c.is_here.ensures ∙ c.if-is_here.false)
    (some_of ps (sym c.is_empty.ensures ∙ c.if-is_empty.false)) (some_items c.args.items.now (sym c.is_empty-2.ensures ∙ c.if-is_empty-2.false)) u v in
    IfOk-weaker c.joined.result _ _ (λ w e. subst (λ z. IsCrossed c.args.large ps c.args.tree c.args.items.now z) (sym e) done) c.joined.ensures.shape

pub returns-in_default : goal.returns-in_default
returns-in_default g t c =
    let ps = paths_of c.args.ways.now in
    let there = subst (AreLargeAt c.args.large ps) (c.in_ok-node.ensures.none.0 (rw c.in_default.is refl)) c.requires.there in
    absurd (some_of ps (sym c.is_empty.ensures ∙ c.if-is_empty.false) (none_on c.args.large ps there (sym c.is_here.ensures ∙ c.if-is_here.false)))

pub put_at_once-requires : goal.put_at_once-requires
put_at_once-requires g t c = c.requires.piece

pub put_within-requires : goal.put_within-requires
put_within-requires g t c = (c.args.large, c.requires.piece)
