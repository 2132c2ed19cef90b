use Rattle.std.proofs.Common.{◌≡◌, length, take, ap, arith}
use Rattle.kd_frozen.specs.Shortlist.{hits_of}
use Rattle.kd_frozen.proofs.Holes.{hits_length}
use Rattle.kd_frozen.proofs.shortlist.Shortlist.len.Goals as goal

pub returns : goal.returns
returns c =
    let list = c.self.inside in
    let seen : length (hits_of (take list.len list.nears)) ≡ length c.args.self.now = ap length c.self.view_is in
    omega (arith, seen, hits_length list.nears list.len (omega (arith, c.self.invariant.0, c.self.invariant.1)))
