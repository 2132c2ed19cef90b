use Rattle.std.proofs.Common.{◌≡◌, take}
use Rattle.kd_frozen.specs.Shortlist.{hits_of}
use Rattle.kd_frozen.proofs.shortlist.push_all.Given as goal

abbrev pub invariant-loop-near : goal.invariant-loop-near
invariant-loop-near l = l.hits ≡ hits_of (take l.near-index l.nears)
