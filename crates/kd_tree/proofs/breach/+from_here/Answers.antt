use Rattle.std.proofs.Common.{◌∙◌, ap}
use Rattle.kd_tree.specs.Apart.{is_none_left}
use Rattle.kd_tree.proofs.Apart.{none_leads, first_leads, others_lead}
use Rattle.kd_tree.proofs.breach.+from_here.Goals as goal

pub returns-in_default-clause-none : goal.returns-in_default-clause-none
returns-in_default-clause-none t c = none_leads c.args.here.now c.args.except.now c.in_default.ensures.cases

pub returns-then-leads_on-clause-none : goal.returns-then-leads_on-clause-none
returns-then-leads_on-clause-none t c =
    rw c.in-Some.ensures.cases.0 (first_leads c.args.here.now c.in-Some.first.now c.in-Some.rest.now _ c.leads_on.ensures c.if-leads_on.true)

pub returns-else-leads_on-clause-same : goal.returns-else-leads_on-clause-same
returns-else-leads_on-clause-same t c =
    rw c.in-Some.ensures.cases.0 (c.from_here.ensures.same ∙ others_lead c.args.here.now c.in-Some.first.now c.in-Some.rest.now _ c.leads_on.ensures c.if-leads_on.false)

pub returns-else-leads_on-clause-none : goal.returns-else-leads_on-clause-none
returns-else-leads_on-clause-none t c =
    rw c.in-Some.ensures.cases.0 (c.from_here.ensures.none ∙ ap is_none_left (others_lead c.args.here.now c.in-Some.first.now c.in-Some.rest.now _ c.leads_on.ensures c.if-leads_on.false))
