-- What is returned of a caller at the end.
use Rattle.std.specs.Prelude.{length}
use Rattle.shown_versions.specs.Marks.{Seen}
use Rattle.published_map.specs.declared.ended.Ended.{Ended}

-- its caller, how many updates it has made, and the length of what it has seen
abbrev pub ended_of : Seen → Ended
ended_of p = record { caller = p.caller; updates = length p.mine; mark = length p.seen }
