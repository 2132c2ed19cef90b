use Rattle.std.proofs.Common.{◌≡◌, ◌+◌, ◌<◌, ℕ, length, slice_get, Some}
use Rattle.shown_versions.specs.Marks.{seen_by_new}
use Rattle.published_map.proofs.start.made_passes.Given as goal

abbrev pub invariant-loop-index : goal.invariant-loop-index
invariant-loop-index g l = record {
  parts : l.share.parts + l.index ≡ l.callers;
  amount : l.share.amount ≡ 0;
  count : length l.passes.items ≡ l.index;
  made : (k : ℕ) → k < l.index → slice_get l.passes.items k ≡ Some (seen_by_new (k + 1));
}
