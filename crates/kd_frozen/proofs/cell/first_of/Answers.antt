use Rattle.std.proofs.Common.{◌≤◌, ◌*◌, arith}
use Rattle.std.proofs.lemmas.Nat.{mul-le}
use Rattle.kd_frozen.proofs.cell.first_of.Goals as goal

pub returns-clause-within : goal.returns-clause-within
returns-clause-within c =
    let most : c.args.others * c.args.share ≤ c.args.others * 256 = mul-le c.args.others c.args.share c.args.others 256 (omega arith) (omega arith) in
    omega (arith, most)
