use Rattle.std.proofs.Common.{subst}
use Rattle.kd_tree.specs.View.{AreTopParts, top_of}
use Rattle.kd_tree.proofs.Actions.{tagged_sound}
use Rattle.kd_tree.proofs.node.Tree.retagged.Goals as goal

pub closed-requires : goal.closed-requires
closed-requires g c =
    let o = subst (AreTopParts c.args.self) c.in-Some.is c.in_ok-opened.ensures in
    rw (c.then-pending.ensures.value, c.relabelled-item.ensures) (tagged_sound c.args.tag (top_of c.in-Some.node) c.in-Some.node.left c.in-Some.node.right o.1.0)
