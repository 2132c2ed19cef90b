use Rattle.std.proofs.Common.{◌≡◌, ℕ, List, drop}
use Rattle.node_labels.specs.Labels.{thin_tag}
use Rattle.map_items.specs.Contents.{mark}
use Rattle.kd_tree.specs.Contents.{contents}
use Rattle.kd_update.specs.Detached.{PartAt}
use Rattle.map_update.specs.Clearing.{in_some}
use Rattle.map_update.specs.Draft.{IsDraft, IsDraftLeft, IsDrafted}
use Rattle.map_update.proofs.draft.Draft.cleared_singly.Given as goal

abbrev pub invariant-loop-cuboid : goal.invariant-loop-cuboid
invariant-loop-cuboid g l = record {
  rest : mark (contents l.draft.tree) (in_some (drop l.cuboid-index l.cuboids)) thin_tag ≡ mark (contents l.fn.self.tree) (in_some l.cuboids) thin_tag;
  draft : (next last : ℕ) (ps : List PartAt) → IsDraft l.large next last ps l.fn.self → IsDraftLeft l.large next last ps l.draft;
  drafted : IsDrafted 0 l.cuboid-index l.fn.self l.draft;
}
