use Rattle.std.proofs.Common.{◌≡◌, ℕ, ◌+◌, ◌*◌, List, [], ◌∷◌, length, drop}
use Rattle.point_geom.specs.Place.{Place}
use Rattle.map_items.specs.Fold.{thin_points}
use Rattle.map_update.specs.Draft.{IsDraft, IsDraftLeft, IsDrafted}
use Rattle.kd_tree.specs.Maps.{map_of}
use Rattle.map_update.specs.OnePoint.{IsRejected}
use Rattle.kd_update.specs.Detached.{PartAt}
use Rattle.map_update.proofs.thin.thinned.Given as goal

abbrev pub invariant-loop-point : goal.invariant-loop-point
invariant-loop-point g l = record {
  draft : (last : ℕ) (ps : List PartAt) → IsDraft l.settings.large l.fn.next last ps l.fn.draft → IsDraftLeft l.settings.large l.next last ps l.draft;
  room : l.next + length (drop l.point-index l.points) ≡ l.fn.next + length l.points;
  rest : thin_points l.settings.voxel (drop l.point-index l.points) (map_of l.draft.tree l.next) ≡ thin_points l.settings.voxel l.points (map_of l.fn.draft.tree l.fn.next);
  drafted : IsDrafted l.point-index (2 * l.point-index) l.fn.draft l.draft;
  same : (p : Place) → l.points ≡ p ∷ [] → IsRejected l.settings.voxel (map_of l.fn.draft.tree l.fn.next) p → (l.draft.tree ≡ l.fn.draft.tree) × (l.steps ≡ l.fn.steps);
}
