use Rattle.std.proofs.Common.{◌≡◌, ◌≤◌, true, false, IsPermutation}
use Rattle.std.specs.List.{AllWithin}
use Rattle.kd_update.specs.Put.{goes_left}
use Rattle.kd_update.proofs.scans.part_items.moved_left.Given as goal

abbrev pub invariant-loop-i : goal.invariant-loop-i
invariant-loop-i l = record {
  moved : IsPermutation l.fn.items l.items;
  behind : l.count ≤ l.i;
  left : AllWithin (λ i. goes_left l.axis i.point l.point ≡ true) l.items 0 l.count;
  right : AllWithin (λ i. goes_left l.axis i.point l.point ≡ false) l.items l.count l.i;
}
