use Rattle.std.proofs.Common.{◌≡◌, ℕ, List, Option, ap, sym, ◌∙◌, subst}
use Rattle.std.specs.Prelude.{IfSome}
use Rattle.map_items.specs.declared.item.Item.{Item}
use Rattle.rebuild_parts.specs.Built.{JobAt}
use Rattle.rebuild_core.specs.Detach.{IsDetachStep}
use Rattle.kd_update.specs.Detached.{AreItemsOf}
use Rattle.rebuild_core.proofs.KnownItems.{items_of_job}
use Rattle.map_tests.proofs.tests.snapshots.given_a_list.Goals as goal

pub keep_list-tree-requires : goal.keep_list-tree-requires
keep_list-tree-requires g c =
    let old = c.args.state.now.state in
    let new = c.snapshot.new.self.state in
    let snapshot = c.in-Some.snapshot in
    let job : c.listed-job.result ≡ snapshot = c.listed-job.ensures in
    let step = subst (λ (o : Option JobAt). IfSome o (λ j. IsDetachStep 1 old j new)) c.in-Some.is c.in_ok-snapshot.ensures.detached in
    let known = items_of_job 1 old snapshot new c.history-history.ensures.lawful step in
    let ticket = c.ticket.ensures ∙ ap (λ (j : JobAt). j.ticket) job in
    let items = c.in_ok-list.ensures ∙ ap (λ (j : JobAt). j.items) job in
    record { known = subst (λ (n : ℕ). AreItemsOf n c.in_ok-list.list new.parts) (sym ticket) (subst (λ (m : List Item). AreItemsOf snapshot.ticket m new.parts) (sym items) known) }
