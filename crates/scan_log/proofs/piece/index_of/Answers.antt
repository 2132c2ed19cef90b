use Rattle.scan_log.proofs.Counts.{first_place}
use Rattle.scan_log.proofs.piece.index_of.Goals as goal

pub returns-clause-value : goal.returns-clause-value
returns-clause-value c = first_place c.args.byte c.args.bytes.now c.memchr.result c.memchr.ensures
