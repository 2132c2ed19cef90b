use Rattle.std.proofs.Common.{arith, ◌≤◌, length, rules}
use Rattle.map_items.proofs.Numbered.{contents_length}
use Rattle.map_fold.proofs.plain_map.inside_count.Goals as goal

pub overflow_cast-result : goal.overflow_cast-result
overflow_cast-result c =
    let room : length c.args.items.now ≤ c.args.next = omega (arith, contents_length 0 c.args.next c.args.items.now (omega arith) c.requires) in
    let few : c.count.result ≤ length c.args.items.now = search rules in
    omega arith
