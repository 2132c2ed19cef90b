use Rattle.std.proofs.Common.{◌≡◌, ◌+◌, ◌<◌, ◌∙◌, List, arith, ap, length, subst, sym}
use Rattle.std.specs.Prelude.{All, IfOk}
use Rattle.std.proofs.lemmas.Result.{IfOk-weaker}
use Rattle.point_geom.specs.Place.{Bounds}
use Rattle.node_labels.specs.Labels.{thin_tag}
use Rattle.map_items.specs.declared.item.Item.{Item}
use Rattle.map_items.specs.Contents.{AreContents, Member, mark}
use Rattle.map_items.proofs.Numbered.{contents_mark}
use Rattle.kd_tree.specs.Contents.{contents}
use Rattle.kd_tree.specs.declared.path.Side.{Side}
use Rattle.kd_tree.proofs.Held.{are_contents}
use Rattle.kd_mark.specs.Watches.{paths_in}
use Rattle.kd_update.specs.Scan.{MayJoin, put_each}
use Rattle.map_update.specs.Clearing.{in_some}
use Rattle.map_update.specs.Draft.{IsDraftLeft, IsDrafted, KeepsWatched}
use Rattle.map_update.specs.Waiting.{contents_of, left_in}
use Rattle.map_update.specs.declared.draft.Draft.{Draft}
use Rattle.map_update.proofs.Both.{may_join, put_held}
use Rattle.map_update.proofs.Drafted.{room_left, still_left}
use Rattle.map_update.proofs.Working.{draft_on}
use Rattle.map_update.proofs.waiting.Waiting.put.Goals as goal
use Rattle.map_update.proofs.waiting.Waiting.put.Goals.{In_ok-draft}

-- the tree holds what is left once the boxes are thinned
thinned : (g : _) (c : In_ok-draft g) → contents c.in_ok-draft.draft.tree ≡ left_in c.args.self
thinned g c = c.in_ok-draft.ensures.contents ∙ ap (λ (cs : List Bounds). mark (contents c.args.self.draft.tree) (in_some cs) thin_tag) c.as_mut_slice.ensures.value

-- which is what a map may hold
left : (g : _) (c : In_ok-draft g) → AreContents 0 c.args.high (left_in c.args.self)
left g c =
    let w = c.args.self in
    let m = contents w.draft.tree in
    contents_mark 0 c.args.high m (in_some w.cuboids.items) thin_tag (are_contents c.args.high w.draft.tree c.size-size.ensures.sound c.requires.waiting.below)

pub cleared-requires : goal.cleared-requires
cleared-requires g c = record { draft = (c.args.high, c.requires.draft) }

pub put_items-requires-clause-fit : goal.put_items-requires-clause-fit
put_items-requires-clause-fit g c =
    let k = c.requires.waiting in
    let ws = c.args.self.items.items in
    subst (λ (xs : List Item). MayJoin (contents c.in_ok-draft.draft.tree) xs) (sym c.as_slice.ensures.value)
    (subst (λ (m : List Item). MayJoin m ws) (sym (thinned g (goal.at.put_items-requires-clause-fit g c).In_ok-draft)) (may_join c.args.high (left_in c.args.self) ws c.requires.few k.live k.held))

pub put_items-requires-clause-draft : goal.put_items-requires-clause-draft
put_items-requires-clause-draft g c =
    let high = c.args.high in
    let d = c.requires.draft in
    let e = c.in_ok-draft.ensures.draft high d.0 d.1 d.2 in
    (high, (d.0, e.0, e.2), subst (All (λ (i : Item). i.number < high)) (sym c.as_slice.ensures.value) c.requires.waiting.given)

pub returns-clause-held : goal.returns-clause-held
returns-clause-held g c =
    let k = c.requires.waiting in
    let ws = c.args.self.items.items in
    IfOk-weaker c.put_items.result _ (λ (w : Draft). contents w.tree ≡ contents_of c.args.self)
    (λ w e. e ∙ ap (put_each (contents c.in_ok-draft.draft.tree)) c.as_slice.ensures.value ∙ ap (λ (m : List Item). put_each m ws) (thinned g (goal.at.returns-clause-held g c).In_ok-draft)
    ∙ put_held c.args.high (left_in c.args.self) ws (left g (goal.at.returns-clause-held g c).In_ok-draft) k.live k.held) c.put_items.ensures.contents

pub returns-clause-draft : goal.returns-clause-draft
returns-clause-draft g c = λ last ps d.
    let large = c.args.large in
    let high = c.args.high in
    let e = c.in_ok-draft.ensures.draft high last ps d in
    IfOk-weaker c.put_items.result _ (IsDraftLeft large high last ps) (λ u l. draft_on large high last ps e.0 u e.1 l)
    (c.put_items.ensures.draft high last e.0 (subst (All (λ (i : Item). i.number < high)) (sym c.as_slice.ensures.value) c.requires.waiting.given) e.2)

pub returns-clause-kept : goal.returns-clause-kept
returns-clause-kept g c = λ room x there own.
    let v = c.args.self.draft in
    let w = c.in_ok-draft.draft in
    let n = length c.args.self.items.items in
    let k = length c.args.self.cuboids.items in
    let drafted : IsDrafted 0 k v w = subst (λ (cs : List Bounds). IsDrafted 0 (length cs) v w) c.as_mut_slice.ensures.value c.in_ok-draft.ensures.drafted in
    let kept : KeepsWatched n n w c.put_items.result =
    subst (λ (xs : List Item). KeepsWatched (length xs) (length xs) w c.put_items.result) c.as_slice.ensures.value c.put_items.ensures.kept in
    let first = still_left 0 k n (k + n) v w (omega arith) (omega arith) drafted room x there own in
    subst (λ (q : List Side). IfOk c.put_items.result (λ (u : Draft). Member q (paths_in u.watches))) first.path
    (kept (room_left 0 k n n v w (omega arith) drafted room) first.watch first.there (omega (arith, own, first.few)))
