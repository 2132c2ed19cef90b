use Rattle.std.proofs.Common.{◌≡◌, ◌≤◌, drop, length}
use Rattle.kd_tree.specs.Contents.{contents}
use Rattle.map_update.specs.Entrants.{HaveOwnVoxels, AreEntrants, thin_each}
use Rattle.map_update.specs.Ranks.{items_in}
use Rattle.map_update.specs.Waiting.{AreClear, IsWaiting, contents_of}
use Rattle.map_update.proofs.waiting.thinned_at_once.Given as goal

abbrev pub invariant-loop-entrant : goal.invariant-loop-entrant
invariant-loop-entrant g l = let edge = l.settings.voxel in let left = items_in (drop l.entrant-index l.entrant-items) in record {
  waiting : IsWaiting l.high l.waiting;
  rest : thin_each edge (contents_of l.waiting) left ≡ thin_each edge (contents l.fn.draft.tree) (items_in l.entrant-items);
  ready : AreEntrants l.high (contents_of l.waiting) left;
  apart : HaveOwnVoxels edge left;
  clear : AreClear edge l.waiting left;
  draft : l.waiting.draft ≡ l.fn.draft;
  few : length l.waiting.items.items ≤ l.entrant-index;
  few_thinned : length l.waiting.cuboids.items ≤ l.entrant-index;
}
