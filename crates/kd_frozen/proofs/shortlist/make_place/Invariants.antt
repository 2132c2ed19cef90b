use Rattle.std.proofs.Common.{◌≡◌, ◌≤◌, ◌++◌, length, take, drop}
use Rattle.map_fold.specs.Answers.{put_hit}
use Rattle.kd_frozen.specs.Shortlist.{hit_at, hits_of}
use Rattle.kd_frozen.proofs.Holes.{HasHole}
use Rattle.kd_frozen.proofs.shortlist.make_place.Given as goal

abbrev pub invariant-loop-at : goal.invariant-loop-at
invariant-loop-at l = record {
  within : l.at ≤ l.len;
  long : length l.nears ≡ length l.fn.nears;
  hole : HasHole l.nears l.fn.nears l.len l.at;
  put : put_hit (hit_at l.near) (hits_of (take l.len l.fn.nears)) ≡ put_hit (hit_at l.near) (take l.at (hits_of (take l.len l.fn.nears))) ++ drop l.at (hits_of (take l.len l.fn.nears));
}

abbrev pub decreases-loop-at : goal.decreases-loop-at
decreases-loop-at l = l.at
