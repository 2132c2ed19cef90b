use Rattle.std.proofs.Common.{◌≡◌, ◌∙◌, List, ap, subst, sym}
use Rattle.point_geom.specs.Place.{Bounds}
use Rattle.node_labels.specs.Labels.{thin_tag}
use Rattle.map_items.specs.declared.item.Item.{Item}
use Rattle.map_items.specs.Contents.{AreContents, in_box, mark}
use Rattle.map_items.proofs.Numbered.{contents_mark}
use Rattle.kd_tree.specs.Contents.{contents}
use Rattle.kd_tree.proofs.Held.{are_contents}
use Rattle.map_update.specs.Clearing.{in_some}
use Rattle.map_update.specs.Waiting.{contents_of, left_in}
use Rattle.map_update.proofs.Both.{both, cleared_clear}
use Rattle.map_update.proofs.Thinnings.{thinned_last}
use Rattle.map_update.proofs.waiting.Waiting.cleared.Goals as goal
use Rattle.map_update.proofs.waiting.Waiting.cleared.Goals.{In_ok-push}

held : (c : In_ok-push) → both (mark (contents c.args.self.draft.tree) (in_some c.push.new.self.items) thin_tag) c.args.self.items.items ≡ mark (contents_of c.args.self) (in_box c.args.cuboid.now) thin_tag
held c =
    let w = c.args.self in
    let m = contents w.draft.tree in
    let box = c.args.cuboid.now in
    let ws = w.items.items in
    let k = c.requires.waiting in
    let old = contents_mark 0 c.args.high m (in_some w.cuboids.items) thin_tag (are_contents c.args.high w.draft.tree c.size-size.ensures.sound k.below) in
    ap (λ (cs : List Bounds). both (mark m (in_some cs) thin_tag) ws) c.in_ok-push.ensures.items
    ∙ ap (λ (xs : List Item). both xs ws) (thinned_last box w.cuboids.items m)
    ∙ cleared_clear box c.args.high (left_in w) ws c.requires.clear.none k.held old

pub returns-clause-held : goal.returns-clause-held
returns-clause-held c = held c

pub returns-clause-waiting : goal.returns-clause-waiting
returns-clause-waiting c =
    let k = c.requires.waiting in
    let high = c.args.high in
    record {
      live = k.live;
      held = subst (AreContents 0 high) (sym (held c)) (contents_mark 0 high (contents_of c.args.self) (in_box c.args.cuboid.now) thin_tag k.held);
      given = k.given;
      below = k.below;
    }
