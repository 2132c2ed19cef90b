use Rattle.std.proofs.Common.{ℕ, drop}
use Rattle.mapper_core.specs.Meetings.{AreReplies, MergedTo}
use Rattle.mapper_core.proofs.callers.merging.merge.Given as goal

abbrev pub invariant-loop-command : goal.invariant-loop-command
invariant-loop-command l = record {
  merged : (voxel : ℕ) → MergedTo voxel l.commands (drop l.command-index l.commands) l.fn.queues l.queues l.fn.replies l.replies;
  left : (voxel : ℕ) × AreReplies voxel (drop l.command-index l.commands) l.queues;
}
