use Rattle.std.proofs.Common.{◌++◌, take, arith, length-append}
use Rattle.std.proofs.lemmas.List.{length-take}
use Rattle.std.proofs.KnownBytes.{Consumes-trans}
use Rattle.byte_streams.proofs.reading.read_all.Goals as goal

pub returns-in_err-extend_from_slice-clause-reads : goal.returns-in_err-extend_from_slice-clause-reads
returns-in_err-extend_from_slice-clause-reads g c =
    let bytes = c.loop-piece.bytes.items in
    let more = take c.in_ok-count.count c.read.new.buf in
    let long = length-append bytes more in
    let room = length-take c.min-room.result c.loop-piece.piece in (
      bytes ++ more,
      Consumes-trans _ _ _ bytes more c.loop-piece.invariant.read c.in_ok-count.ensures.bytes.0,
      omega (arith, long, room, c.in_ok-count.ensures.bound, c.read.auto.buf, c.loop-piece.bytes.ok),
    )
