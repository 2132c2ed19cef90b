use Rattle.std.proofs.Common.{◌≡◌, List, ap, sym, subst}
use Rattle.map_items.specs.declared.op.Op.{Op}
use Rattle.map_items.specs.Ops.{Fit}
use Rattle.kd_tree.specs.Shape.{Shape}
use Rattle.kd_tree.specs.Contents.{contents}
use Rattle.rebuild_parts.specs.Built.{BuiltAt, IsLawfulBuilt}
use Rattle.rebuild_parts.proofs.Replaying.{replayed_lawful}
use Rattle.rebuild_parts.proofs.built.Built.replay_in_place.Goals as goal

pub invariant_of-result : goal.invariant_of-result
invariant_of-result c =
    let i = c.self.inside in
    let b : BuiltAt = record { ticket = i.job.ticket; items = i.job.items; done = i.done.items; tree = i.tree; large = i.large } in
    let ops = c.args.ops.now in
    let tree : c.args.self.tree ≡ b.tree = sym (ap (λ (x : BuiltAt). x.tree) c.self.view_is) in
    let fit = subst (λ (t : Shape). Fit (contents t) ops) tree c.requires in (
      subst (λ (os : List Op). IsLawfulBuilt (record b { done = os; tree = c.in_ok-tree.tree; large = c.args.large }))
          (sym c.in_ok-extend_from_slice.ensures.items) (replayed_lawful b ops c.in_ok-tree.tree c.args.large
          c.self.invariant.0 fit c.in_ok-tree.ensures.contents c.in_ok-tree.ensures.numbers),
      c.in_ok-tree.ensures.balance,
    )
