use Rattle.std.proofs.Common.{◌∙◌, List, refl, sym, subst, arith, length, ap}
use Rattle.std.proofs.lemmas.Bool.{eqb-true}
use Rattle.std.proofs.lemmas.List.{nil_from_length}
use Rattle.std.proofs.lemmas.Result.{IfOk-weaker}
use Rattle.map_items.specs.declared.item.Item.{Item}
use Rattle.kd_tree.specs.Shape.{Shape}
use Rattle.kd_tree.specs.Parts.{fork_in, fork_of}
use Rattle.kd_mark.specs.Update.{IsBalancedBelow}
use Rattle.kd_update.specs.Scan.{IsGrown, IsParted}
use Rattle.kd_mark.proofs.Trees.{pushed_smaller}
use Rattle.kd_update.proofs.Grown.{IsStep, grown_moved, grown_none, piece_moved, step_at, step_pieces, step_sound, step_grown, step_balanced}
use Rattle.kd_update.proofs.scans.one_pass.+put_at_once.Goals as goal
use Rattle.kd_update.proofs.scans.one_pass.+put_at_once.Goals.{After-split_at_mut-lefts}

-- the items are parted where the tree is taken apart
step : (g : _) (t : _) (c : After-split_at_mut-lefts g t) → IsStep c.args.tree c.args.items.now (fork_of c.in-Some-2.node) c.split_at_mut-lefts.result.0.now c.split_at_mut-lefts.result.1.now
step g t c =
    step_at c.args.tree (fork_of c.in-Some-2.node) c.in-Some.count c.args.items.now c.parted.new.items _ _ (ap fork_in (sym c.in-Some-2.is) ∙ c.in_ok-node.ensures.parts) c.size-size.ensures.sound
    c.parted.ensures.moved c.in-Some.ensures.parted c.split_at_mut-lefts.ensures.front c.split_at_mut-lefts.ensures.back

pub returns-then-is_empty-clause-grown : goal.returns-then-is_empty-clause-grown
returns-then-is_empty-clause-grown g t c =
    subst (λ (xs : List Item). IsGrown c.args.tree xs c.args.tree) (sym (nil_from_length c.args.items.now
    (eqb-true (length c.args.items.now) 0 (sym c.is_empty.ensures ∙ c.if-is_empty.true))))
    (grown_none c.args.tree)

pub put_here-requires-clause-piece : goal.put_here-requires-clause-piece
put_here-requires-clause-piece g t c = piece_moved c.args.large c.args.tree c.args.items.now c.parted.new.items c.parted.ensures.moved c.requires

pub returns-in_default-clause-grown : goal.returns-in_default-clause-grown
returns-in_default-clause-grown g t c = IfOk-weaker c.put_here.result _ _ (λ v u. grown_moved c.args.tree v c.args.items.now c.parted.new.items c.parted.ensures.moved u) c.put_here.ensures.grown

pub returns-in_default-clause-balance : goal.returns-in_default-clause-balance
returns-in_default-clause-balance g t c = IfOk-weaker c.put_here.result _ (λ v. IsBalancedBelow c.args.large c.args.tree → IsBalancedBelow c.args.large v) (λ v k _. k) c.put_here.ensures.balance

pub put_at_once-requires : goal.put_at_once-requires
put_at_once-requires g t c κs within =
    let k = step g t (goal.at.put_at_once-requires g t c).After-split_at_mut-lefts in (
      omega (
        arith,
        (pushed_smaller c.args.tree (fork_of c.in-Some-2.node)
            (ap fork_in (sym c.in-Some-2.is) ∙ c.in_ok-node.ensures.parts)).0,
      ),
      (within, (step_pieces c.args.large _ _ _ _ _ k c.requires).0),
    )

pub put_at_once-requires-2 : goal.put_at_once-requires-2
put_at_once-requires-2 g t c κs within =
    let k = step g t (goal.at.put_at_once-requires-2 g t c).After-split_at_mut-lefts in (
      omega (
        arith,
        (pushed_smaller c.args.tree (fork_of c.in-Some-2.node)
            (ap fork_in (sym c.in-Some-2.is) ∙ c.in_ok-node.ensures.parts)).1,
      ),
      (within, (step_pieces c.args.large _ _ _ _ _ k c.requires).1),
    )

pub joined_and_rebuilt_if_due-requires : goal.joined_and_rebuilt_if_due-requires
joined_and_rebuilt_if_due-requires g t c =
    step_sound c.args.large _ _ _ _ _ c.in_ok-left.left c.in_ok-right.right
    (step g t (goal.at.joined_and_rebuilt_if_due-requires g t c).After-split_at_mut-lefts) c.requires
    c.in_ok-left.ensures.grown c.in_ok-right.ensures.grown

pub returns-clause-grown : goal.returns-clause-grown
returns-clause-grown g t c =
    IfOk-weaker c.joined_and_rebuilt_if_due.result _ _ (λ v done. step_grown c.args.large _ _ _ _ _ c.in_ok-left.left
    c.in_ok-right.right v (step g t (goal.at.returns-clause-grown g t c).After-split_at_mut-lefts)
    c.in_ok-left.ensures.grown c.in_ok-right.ensures.grown done) c.joined_and_rebuilt_if_due.ensures.due

pub returns-clause-balance : goal.returns-clause-balance
returns-clause-balance g t c =
    IfOk-weaker c.joined_and_rebuilt_if_due.result _ (λ v. IsBalancedBelow c.args.large c.args.tree → IsBalancedBelow c.args.large v)
    (λ v done balanced. step_balanced c.args.large c.args.tree (fork_of c.in-Some-2.node) c.in_ok-left.left
    c.in_ok-right.right v (ap fork_in (sym c.in-Some-2.is) ∙ c.in_ok-node.ensures.parts)
    c.in_ok-left.ensures.balance c.in_ok-right.ensures.balance done balanced)
    c.joined_and_rebuilt_if_due.ensures.due

pub returns-in_default-2-clause-grown : goal.returns-in_default-2-clause-grown
returns-in_default-2-clause-grown g t c =
    absurd (subst (λ (s : Shape). IsParted s c.in-Some.count c.parted.new.items)
    (c.in_ok-node.ensures.none.0 (rw c.in_default-2.is refl)) c.in-Some.ensures.parted)
