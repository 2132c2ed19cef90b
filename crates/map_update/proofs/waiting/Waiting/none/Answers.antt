use Rattle.std.proofs.Common.{◌≡◌, ◌<◌, List, [], ap, ◌∙◌, subst, sym}
use Rattle.std.specs.Prelude.{All}
use Rattle.std.proofs.lemmas.List.Elements.{All-nil}
use Rattle.node_labels.specs.Labels.{thin_tag}
use Rattle.map_items.specs.declared.item.Item.{Item}
use Rattle.map_items.specs.Contents.{AreContents, mark}
use Rattle.kd_tree.specs.Contents.{contents}
use Rattle.kd_tree.proofs.Held.{are_contents, by_number-contents, contents_kept}
use Rattle.kd_update.specs.Scan.{AreLive}
use Rattle.kd_update.proofs.Grown.{IsLive}
use Rattle.map_update.specs.Clearing.{in_some}
use Rattle.map_update.proofs.Both.{both, none_held}
use Rattle.map_update.proofs.Thinnings.{thinned_none}
use Rattle.map_update.proofs.waiting.Waiting.none.Goals as goal
use Rattle.map_update.proofs.waiting.Waiting.none.Goals.{After-new-2}

held : (c : After-new-2) → both (mark (contents c.args.draft.tree) (in_some c.new.result.items) thin_tag) c.new-2.result.items ≡ contents c.args.draft.tree
held c =
    let t = c.args.draft.tree in
    let m = contents t in
    rw (c.new.ensures.items, c.new-2.ensures.items)
    (ap (λ (xs : List Item). both xs []) (thinned_none m (contents_kept t)) ∙ none_held m (by_number-contents t c.size-size.ensures.sound))

pub returns-clause-held : goal.returns-clause-held
returns-clause-held c = held c

pub returns-clause-waiting : goal.returns-clause-waiting
returns-clause-waiting c = λ high below.
    let t = c.args.draft.tree in
    let none = sym c.new-2.ensures.items in
    record {
      live = subst AreLive none (All-nil IsLive);
      held = subst (AreContents 0 high) (sym (held c)) (are_contents high t c.size-size.ensures.sound below);
      given = subst (All (λ (i : Item). i.number < high)) none (All-nil (λ (i : Item). i.number < high));
      below = below;
    }
