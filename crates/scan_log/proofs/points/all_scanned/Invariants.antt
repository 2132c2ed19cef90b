use Rattle.std.proofs.Common.{◌≡◌, ◌+◌, ◌*◌, length}
use Rattle.scan_log.specs.declared.format.Format.TheVariants.{Two}
use Rattle.scan_log.specs.Reading.{scanned_places_of}
use Rattle.scan_log.proofs.Fronts.{with_front}
use Rattle.scan_log.proofs.points.all_scanned.Given as goal

abbrev pub invariant-loop : goal.invariant-loop
invariant-loop l = record {
  left : with_front l.points.items (scanned_places_of Two l.fields) ≡ scanned_places_of Two l.fn.fields;
  count : length l.fields + 4 * l.counter ≡ 4 * l.count;
}
