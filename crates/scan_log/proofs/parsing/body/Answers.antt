use Rattle.scan_log.specs.Reading.{body_of}
use Rattle.scan_log.proofs.Growth.{ReadOneMore, read_more}
use Rattle.scan_log.proofs.parsing.body.Goals as goal
use Rattle.scan_log.proofs.parsing.body.Goals.{After-points-room}

-- the line's command was read
more : (c : After-points-room) → ReadOneMore c.loop-number.script c.loop-number.room c.loop-number.hits c.next.new.self (body_of c.args.format c.args.settings c.args.lines) c.in-Ok.command
more c =
    let here = rw c.in-Some.ensures at c.loop-number.invariant in
    let read = rw (c.commands-before.ensures.all, c.format.ensures) at c.in-Ok.ensures in
    read_more c.loop-number.script c.loop-number.room c.loop-number.hits c.in-Some.number c.in-Some.line.now c.next.new.self _ c.in-Ok.command here read

pub overflow_sub-room : goal.overflow_sub-room
overflow_sub-room c = rw c.points-room.ensures (more (goal.at.overflow_sub-room c).After-points-room).fits

pub hits-hits-requires : goal.hits-hits-requires
hits-hits-requires c = (more (goal.at.hits-hits-requires c).After-points-room).good

pub overflow_sub-hits : goal.overflow_sub-hits
overflow_sub-hits c = rw c.hits-hits.ensures (more (goal.at.overflow_sub-hits c).After-points-room).held

pub push-requires : goal.push-requires
push-requires c = (more (goal.at.push-requires c).After-points-room).limits

pub loop-number-preserved : goal.loop-number-preserved
loop-number-preserved c =
    rw (c.in_ok-push.ensures.ok, c.points-room.ensures, c.hits-hits.ensures) (more (goal.at.loop-number-preserved c).After-points-room).after
