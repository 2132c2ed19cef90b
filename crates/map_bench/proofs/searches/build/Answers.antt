use Rattle.std.proofs.Common.{arith}
use Rattle.map_items.proofs.Numbered.{contents_length}
use Rattle.kd_tree.proofs.Held.{are_kept, are_distinct}
use Rattle.map_bench.proofs.searches.build.Goals as goal

pub build-requires-clause-kept : goal.build-requires-clause-kept
build-requires-clause-kept g c = rw c.as_slice.ensures (are_kept 0 c.args.at.now.size.count c.in_ok-items.items c.in_ok-items.ensures)

pub build-requires-clause-distinct : goal.build-requires-clause-distinct
build-requires-clause-distinct g c = rw c.as_slice.ensures (are_distinct 0 c.args.at.now.size.count c.in_ok-items.items c.in_ok-items.ensures)

pub build-requires-clause-few : goal.build-requires-clause-few
build-requires-clause-few g c = rw c.as_slice.ensures (omega (arith, c.args.at.now.size.few, contents_length 0 c.args.at.now.size.count c.in_ok-items.items (omega arith) c.in_ok-items.ensures))
