use Rattle.std.proofs.Common.{◌≡◌, ◌+◌, ◌∙◌, List, ap, arith, subst, sym}
use Rattle.std.proofs.lemmas.Result.{IfOk-weaker}
use Rattle.node_labels.specs.Labels.{thin_tag}
use Rattle.map_items.specs.declared.item.Item.{Item}
use Rattle.map_items.specs.Contents.{in_box, mark, put}
use Rattle.map_items.specs.Ops.{IsUnheld}
use Rattle.map_items.proofs.Numbered.{mark-within}
use Rattle.kd_tree.specs.Contents.{contents}
use Rattle.map_update.specs.declared.draft.Draft.{Draft}
use Rattle.kd_tree.proofs.Contents.{unheld_free}
use Rattle.map_update.specs.Draft.{IsDraftLeft, IsDrafted}
use Rattle.map_update.proofs.Working.{draft_few, draft_more, draft_on}
use Rattle.map_update.proofs.Drafted.{worked_then}
use Rattle.map_update.proofs.thin.left_alone.Goals as goal

pub put-requires-clause-draft : goal.put-requires-clause-draft
put-requires-clause-draft g c =
    let r = c.requires.draft in
    let k = c.in_ok-draft.ensures.draft c.args.next r.0 r.1 r.2 in
    (c.args.next, (r.0, k.0, k.2))

pub put-requires-clause-few : goal.put-requires-clause-few
put-requires-clause-few g c =
    let r = c.requires.draft in
    let k = c.in_ok-draft.ensures.draft c.args.next r.0 r.1 r.2 in
    omega (arith, draft_few c.args.large c.args.next r.0 k.0 c.in_ok-draft.draft c.size-size.ensures.sound k.2, c.requires.few)

pub put-requires-clause-new : goal.put-requires-clause-new
put-requires-clause-new g c =
    unheld_free c.args.item.number c.in_ok-draft.draft.tree (subst (IsUnheld c.args.item.number)
    (sym (c.in_ok-draft.ensures.contents ∙ mark-within c.within.result c.args.cuboid.now _ _ c.within.ensures))
    c.requires.new)

pub returns-clause-draft : goal.returns-clause-draft
returns-clause-draft g c = λ last ps d.
    let large = c.args.large in
    let next = c.args.next in
    let k = c.in_ok-draft.ensures.draft next last ps d in
    let more = draft_more large next (next + 1) last k.0 c.in_ok-draft.draft (omega arith) k.2 in
    IfOk-weaker c.put.result (IsDraftLeft large (next + 1) last k.0) (IsDraftLeft large (next + 1) last ps) (λ w l. draft_on large (next + 1) last ps k.0 w k.1 l)
    (c.put.ensures.draft (next + 1) last k.0 c.requires.below more)

pub returns-clause-contents : goal.returns-clause-contents
returns-clause-contents g c =
    let i = c.args.item in
    let left = c.in_ok-draft.ensures.contents ∙ mark-within c.within.result c.args.cuboid.now _ _ c.within.ensures in
    IfOk-weaker c.put.result _ (λ (w : Draft). contents w.tree ≡ put (mark (contents c.args.draft.tree) (in_box c.args.cuboid.now) thin_tag) i.number i.point)
    (λ w e. e ∙ ap (λ (m : List Item). put m i.number i.point) left) c.put.ensures.contents

pub returns-clause-drafted : goal.returns-clause-drafted
returns-clause-drafted g c =
    IfOk-weaker c.put.result _ (IsDrafted 1 2 c.args.draft) (λ w k. worked_then 0 1 1 1 1 2 c.args.draft
    c.in_ok-draft.draft w (omega arith) (omega arith) c.in_ok-draft.ensures.drafted k) c.put.ensures.drafted
