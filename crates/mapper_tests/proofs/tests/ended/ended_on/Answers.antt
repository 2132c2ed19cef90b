use Rattle.mapper_tests.proofs.Eight.{apart, as_many}
use Rattle.mapper_tests.proofs.tests.ended.ended_on.Goals as goal

pub finish-requires-clause-all : goal.finish-requires-clause-all
finish-requires-clause-all g c = as_many g.L.MapName.callers _ c.in-Ok.ensures.ended.callers

pub finish-requires-clause-distinct : goal.finish-requires-clause-distinct
finish-requires-clause-distinct g c = apart g.L.MapName.callers _ c.in-Ok.ensures.ended.callers
