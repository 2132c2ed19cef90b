use Rattle.std.proofs.Common.{◌≡◌, ◌+◌, ◌*◌, ◌^◌, ◌≤◌, drop}
use Rattle.mapper_base.specs.Summary.{hits_in}
use Rattle.mapper_base.proofs.summing.hits_in.Given as goal

abbrev pub invariant-loop-reply : goal.invariant-loop-reply
invariant-loop-reply l = (l.hits + hits_in (drop l.reply-index l.replies) ≡ hits_in l.replies) × (l.hits ≤ 2 ^ 64 * l.reply-index)
