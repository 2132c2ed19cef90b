use Rattle.std.proofs.Common.{length, ◌≡◌, ◌≤◌, ◌++◌, take, drop}
use Rattle.map_fold.specs.Answers.{put_hit}
use Rattle.map_fold.proofs.hits.place_from_end.Given as goal

abbrev pub invariant-loop-at : goal.invariant-loop-at
invariant-loop-at l = record {
  within : l.at ≤ length l.hits;
  put : put_hit l.hit l.hits ≡ put_hit l.hit (take l.at l.hits) ++ drop l.at l.hits;
}

abbrev pub decreases-loop-at : goal.decreases-loop-at
decreases-loop-at l = l.at
