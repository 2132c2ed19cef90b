use Rattle.mapper_core.proofs.callers.phase.part_one.Goals as goal

pub returns : goal.returns
returns g c = record {
  pass = c.in_ok-pass.pass;
  replies = c.in_ok-pass.queue;
  is = c.in_ok-pass.was;
  passes = c.in-Ok.ensures.items;
  queues = c.in-Ok-push.ensures.items;
}
