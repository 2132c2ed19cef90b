use Rattle.std.proofs.Common.{List, sym, subst}
use Rattle.map_items.specs.declared.op.Op.{Op}
use Rattle.kd_mark.proofs.Update.{criteria_balanced}
use Rattle.rebuild_parts.specs.Built.{IsLawfulBuilt}
use Rattle.rebuild_parts.proofs.built.Built.new.Goals as goal

pub invariant_of-result : goal.invariant_of-result
invariant_of-result c = (
  subst (λ (ops : List Op). IsLawfulBuilt (record
      { ticket = c.args.job.ticket; items = c.args.job.items; done = ops; tree = c.args.tree; large = c.args.large }))
      (sym c.new.ensures.items) (record { fit = tt; replayed = c.requires.held; numbers = c.requires.numbers }),
  criteria_balanced c.args.large c.args.tree c.requires.criteria,
)
