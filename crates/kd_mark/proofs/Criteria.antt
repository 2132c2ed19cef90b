-- Trees in which nothing is to be rebuilt.
use Rattle.std.proofs.Common.{◌≡◌, ℕ, List, sym, subst, arith}
use Rattle.std.proofs.lemmas.Bool.{cond_both}
use Rattle.map_items.specs.declared.choice.Choice.{Choice}
use Rattle.kd_tree.specs.Shape.{Shape, leaf, fork}
use Rattle.kd_tree.specs.Apart.{is_here}
use Rattle.kd_tree.specs.declared.path.Side.{Side}
use Rattle.kd_mark.specs.Mark.{RebuildsNoneEntered}
use Rattle.kd_mark.specs.Several.{large_at}

-- no tree has fewer than 0 nodes, so with 0 for the large ones no node that a box enters is to be rebuilt
pub criteria_none : (c : Choice) (t : Shape) → RebuildsNoneEntered 0 c t
unfolding RebuildsNoneEntered
criteria_none c leaf = tt
criteria_none c (fork h l r) = λ e. ((λ many few. absurd (omega arith)), criteria_none c l, criteria_none c r)

-- where no entered node is to be rebuilt for `large`, none is for what `large_at` gives
pub criteria_spared : (large m : ℕ) (ps : List (List Side)) (c : Choice) (t : Shape) → m ≡ large_at ps large → RebuildsNoneEntered large c t → RebuildsNoneEntered m c t
criteria_spared large m ps c t e all = subst (λ k. RebuildsNoneEntered k c t) (sym e) (cond_both (is_here ps) 0 large (λ k. RebuildsNoneEntered k c t) (λ _. criteria_none c t) (λ _. all))
