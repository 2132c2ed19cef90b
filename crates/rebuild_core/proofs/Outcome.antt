-- What updates leave and how many nodes they make, said of equal states.
use Rattle.std.proofs.Common.{◌≡◌, ℕ, ◌+◌, ◌*◌, ◌≤◌, List, [], ◌∷◌, ◌∙◌, arith, subst, sym, Some}
use Rattle.point_geom.specs.Place.{Place}
use Rattle.map_items.specs.declared.op.Op.{Op}
use Rattle.map_items.specs.declared.update.Update.{Update}
use Rattle.map_items.specs.declared.update.Update.TheVariants.{Thin}
use Rattle.kd_tree.specs.Shape.{Shape}
use Rattle.kd_mark.specs.declared.watch.Watch.{Watch}
use Rattle.kd_mark.specs.Watches.{HaveRoom}
use Rattle.kd_update.specs.Detached.{watches_of}
use Rattle.rebuild_core.specs.Lawful.{StateAt}
use Rattle.kd_tree.specs.Maps.{map_of}
use Rattle.rebuild_parts.specs.Logs.{planned_parts}
use Rattle.map_update.specs.OnePoint.{IsRejected}
use Rattle.rebuild_core.specs.Outcome.{IsLeftByUpdate, MakesNodes}
use Rattle.map_update.specs.Single.{RebuildsNothing, entered_nodes, only_op}
use Rattle.rebuild_core.specs.Steps.{PlannedAt, entered}
use Rattle.rebuild_core.proofs.OnePoint.{turned_copy}
use Rattle.rebuild_core.proofs.Plans.{plan_nodes_made}

-- where the counter doesn't rise, no node is made
pub makes_none : (u : Update) (s : StateAt) (n k : ℕ) → k ≡ n → MakesNodes u s n k
makes_none u s n k same = record { nodes_made = λ op unrebuilt. omega (arith, same); no_nodes_made = λ p one turned. same }

-- what is made in an equal state, and then no more
pub makes_on : (u : Update) (s z : StateAt) (n m k : ℕ) → s ≡ z → k ≡ m → MakesNodes u s n m → MakesNodes u z n k
makes_on u s z n m k is same made = subst (λ (x : StateAt). MakesNodes u x n k) is (subst (MakesNodes u s n) (sym same) made)

-- what a draft from a copy promises, the plan promises of the state
pub plan_makes : (u : Update) (s z : StateAt) (t : Shape) (m n new : ℕ) (ws : List Watch) → s ≡ z → t ≡ s.tree → m ≡ n → ws ≡ watches_of s.parts
    → ((op : Op) → only_op s.next u ≡ Some op → HaveRoom ws → RebuildsNothing s.settings.large op t → new ≤ m + (5 * entered_nodes op t + 1))
    → ((p : Place) → u ≡ Thin (p ∷ []) → IsRejected s.settings.voxel (map_of t s.next) p → new ≡ m) → MakesNodes u z n new
plan_makes u s z t m n new ws is same start seen nodes_made no_nodes_made = record {
  nodes_made = λ op. plan_nodes_made u op s z t m n new ws is same start seen (nodes_made op);
  no_nodes_made = λ p one turned. no_nodes_made p one (turned_copy s z t p is same turned) ∙ start;
}

-- a planned update leaves in the state what was planned
pub entered_left : (u : Update) (s x t : StateAt) (p : PlannedAt) → x ≡ s → t ≡ entered p x → IsLeftByUpdate u s (planned_parts p.logs s.parts) p.tree → IsLeftByUpdate u s t.parts t.tree
entered_left u s x t p same into left =
    let there = subst (λ (y : StateAt). IsLeftByUpdate u s (planned_parts p.logs y.parts) p.tree) (sym same) left in
    subst (λ (y : StateAt). IsLeftByUpdate u s y.parts y.tree) (sym into) there
