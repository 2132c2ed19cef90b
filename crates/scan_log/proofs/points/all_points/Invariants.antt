use Rattle.std.proofs.Common.{◌≡◌, ◌+◌, ◌*◌, length}
use Rattle.scan_log.specs.Reading.{places_of}
use Rattle.scan_log.proofs.Fronts.{with_front}
use Rattle.scan_log.proofs.points.all_points.Given as goal

abbrev pub invariant-loop : goal.invariant-loop
invariant-loop l = record {
  left : with_front l.points.items (places_of l.format l.fields) ≡ places_of l.fn.format l.fn.fields;
  count : length l.fields + 3 * l.counter ≡ 3 * l.count;
}
