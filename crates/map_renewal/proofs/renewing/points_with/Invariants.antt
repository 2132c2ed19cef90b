use Rattle.std.proofs.Common.{◌≡◌, take}
use Rattle.map_renewal.specs.Renewed.{points_with}
use Rattle.map_renewal.proofs.renewing.points_with.Given as goal

abbrev pub invariant-loop-item : goal.invariant-loop-item
invariant-loop-item l = l.points ≡ points_with l.label (take l.item-index l.items)
