use Rattle.std.proofs.Common.{◌≡◌, ◌≤◌, true, false, IsPermutation}
use Rattle.std.specs.List.{AllWithin}
use Rattle.point_geom.specs.Extents.{meets}
use Rattle.map_update.proofs.clear.moved_front.Given as goal

abbrev pub invariant-loop-i : goal.invariant-loop-i
invariant-loop-i l = record {
  moved : IsPermutation l.fn.cuboids l.cuboids;
  behind : l.count ≤ l.i;
  met : AllWithin (λ c. meets c l.extent ≡ true) l.cuboids 0 l.count;
  missed : AllWithin (λ c. meets c l.extent ≡ false) l.cuboids l.count l.i;
}
