use Rattle.std.proofs.Common.{◌≡◌, ℕ, ◌+◌, ◌*◌, ◌≤◌, List, Some, length, drop}
use Rattle.map_items.specs.declared.op.Op.{Op}
use Rattle.map_items.specs.declared.update.Update.TheVariants.{Add}
use Rattle.map_items.specs.Fold.{add_points}
use Rattle.kd_mark.specs.Watches.{HaveRoom}
use Rattle.map_update.specs.Draft.{IsDraft, IsDraftLeft, IsDrafted, plain_draft}
use Rattle.kd_tree.specs.Maps.{map_of}
use Rattle.kd_update.specs.Detached.{PartAt}
use Rattle.map_update.specs.Single.{RebuildsNothing, entered_nodes, only_op}
use Rattle.map_update.proofs.update.added.Given as goal

abbrev pub invariant-loop-point : goal.invariant-loop-point
invariant-loop-point g l = record {
  draft : (last : ℕ) (ps : List PartAt) → IsDraft l.large l.fn.next last ps l.fn.draft → IsDraftLeft l.large l.next last ps l.draft;
  room : l.next + length (drop l.point-index l.points) ≡ l.fn.next + length l.points;
  rest : add_points (drop l.point-index l.points) (map_of l.draft.tree l.next) ≡ add_points l.points (map_of l.fn.draft.tree l.fn.next);
  drafted : IsDrafted l.point-index l.point-index l.fn.draft l.draft;
  first : l.point-index ≡ 0 → (l.draft ≡ l.fn.draft) × (l.next ≡ l.fn.next) × (l.steps ≡ l.fn.steps);
  second : l.point-index ≡ 1 → (op : Op) → only_op l.fn.next (Add l.points) ≡ Some op → HaveRoom l.fn.draft.watches → RebuildsNothing l.large op l.fn.draft.tree
      → (l.draft ≡ plain_draft op l.fn.draft) × (l.steps ≤ l.fn.steps + (5 * entered_nodes op l.fn.draft.tree + 1));
}
