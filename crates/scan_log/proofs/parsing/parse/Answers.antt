use Rattle.scan_log.proofs.Either.{either, found, only, sound, fault}
use Rattle.scan_log.proofs.parsing.parse.Goals as goal

pub returns-clause-found : goal.returns-clause-found
returns-clause-found c = found c.args.log.now c.read.result c.read.ensures

pub returns-clause-only : goal.returns-clause-only
returns-clause-only c = only c.args.log.now c.read.result c.read.ensures

pub returns-clause-sound : goal.returns-clause-sound
returns-clause-sound c = sound c.args.log.now c.read.result c.read.ensures

pub returns-clause-fault : goal.returns-clause-fault
returns-clause-fault c = fault c.args.log.now c.read.result c.read.ensures

pub returns-clause-either : goal.returns-clause-either
returns-clause-either c = either c.args.log.now
