use Rattle.std.proofs.Common.{◌≡◌, ◌∙◌, rules, sym}
use Rattle.std.specs.Ordering.{int_cmp}
use Rattle.map_update.specs.Ranks.{inside_cmp}
use Rattle.map_update.proofs.Ranks.{z_decides}
use Rattle.map_update.proofs.entrants.Entrant.compare.Goals as goal

pub returns-then-one-two-3 : goal.returns-then-one-two-3
returns-then-one-two-3 c =
    let one = c.args.self.now in
    let two = c.args.other.now in
    let z : c.cmp-then-one-two-3.result ≡ int_cmp one.cube.lo.z two.cube.lo.z = search rules in
    z ∙ sym (z_decides one.cube.lo two.cube.lo (inside_cmp one two) (search rules) (search rules) (search rules))
