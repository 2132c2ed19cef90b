use Rattle.std.proofs.Common.{◌≡◌, ◌+◌, ◌-◌, ◌≤◌, length, arith}
use Rattle.byte_streams.proofs.Pieces.{copied_front}
use Rattle.byte_streams.proofs.sure.copy_front.Goals as goal

pub returns-clause-given : goal.returns-clause-given
returns-clause-given c =
    let n = c.min-count.result in
    let count : c.args.at + n - c.args.at ≡ n = omega arith in
    let room : c.args.at + n ≤ length c.args.bytes.now = omega (arith, c.min-count.ensures, c.min.ensures) in
    copied_front c.args.bytes.now c.copy_from_slice.new.self c.args.buf.now c.args.at n room (rw count at c.copy_from_slice.ensures.after)
