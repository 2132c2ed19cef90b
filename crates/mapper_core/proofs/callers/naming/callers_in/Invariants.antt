use Rattle.std.proofs.Common.{ℕ, ◌≤◌, drop}
use Rattle.std.specs.List.{AllByRecursion}
use Rattle.mapper_core.specs.Meetings.{HasCaller}
use Rattle.mapper_core.proofs.callers.naming.callers_in.Given as goal

abbrev pub invariant-loop-command : goal.invariant-loop-command
invariant-loop-command l = record {
  from : 1 ≤ l.most;
  to : l.most ≤ 8;
  named : (n : ℕ) → l.most ≤ n → AllByRecursion (HasCaller n) (drop l.command-index l.commands) → AllByRecursion (HasCaller n) l.commands;
  no_more : (n : ℕ) → 1 ≤ n → AllByRecursion (HasCaller n) l.commands → l.most ≤ n;
}
