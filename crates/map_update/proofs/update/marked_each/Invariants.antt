use Rattle.std.proofs.Common.{◌≡◌, ℕ, ◌+◌, ◌*◌, ◌≤◌, List, Some, drop}
use Rattle.map_items.specs.declared.op.Op.{Op}
use Rattle.map_items.specs.Fold.{mark_boxes}
use Rattle.kd_mark.specs.Watches.{HaveRoom}
use Rattle.map_update.specs.Draft.{IsDraft, IsDraftLeft, IsDrafted, plain_draft}
use Rattle.kd_tree.specs.Maps.{map_of}
use Rattle.kd_update.specs.Detached.{PartAt}
use Rattle.map_update.specs.Single.{RebuildsNothing, entered_nodes, only_mark}
use Rattle.map_update.proofs.update.marked_each.Given as goal

abbrev pub invariant-loop-cuboid : goal.invariant-loop-cuboid
invariant-loop-cuboid g l = record {
  draft : (last : ℕ) (ps : List PartAt) → IsDraft l.large l.next last ps l.fn.draft → IsDraftLeft l.large l.next last ps l.draft;
  rest : mark_boxes l.tag (drop l.cuboid-index l.boxes) (map_of l.draft.tree l.next) ≡ mark_boxes l.tag l.boxes (map_of l.fn.draft.tree l.next);
  drafted : IsDrafted 0 l.cuboid-index l.fn.draft l.draft;
  first : l.cuboid-index ≡ 0 → (l.draft ≡ l.fn.draft) × (l.steps ≡ l.fn.steps);
  second : l.cuboid-index ≡ 1 → (op : Op) → only_mark l.tag l.boxes ≡ Some op → HaveRoom l.fn.draft.watches → RebuildsNothing l.large op l.fn.draft.tree
      → (l.draft ≡ plain_draft op l.fn.draft) × (l.steps ≤ l.fn.steps + (5 * entered_nodes op l.fn.draft.tree + 1));
}
