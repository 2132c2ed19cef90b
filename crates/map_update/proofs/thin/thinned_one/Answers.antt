use Rattle.std.proofs.Common.{◌≡◌, ◌+◌, ◌<◌, ◌∙◌, true, false, [], ap, arith, length, refl, subst, sym}
use Rattle.point_geom.specs.Place.{Bounds}
use Rattle.point_geom.specs.Boxes.{voxel}
use Rattle.node_labels.specs.Labels.{thin_tag}
use Rattle.map_items.specs.declared.item.Item.{Item}
use Rattle.map_fold.specs.Answers.{inside_all}
use Rattle.map_items.specs.Contents.{comes_before, in_box, live_at, mark, put, thin}
use Rattle.map_items.specs.Ops.{IsUnheld}
use Rattle.map_fold.proofs.Thinning.{thin_none, thin_same, winner_number, winner_unheld}
use Rattle.kd_tree.specs.Contents.{contents}
use Rattle.kd_search.specs.Best.{IsBest}
use Rattle.map_update.proofs.Detached.{left_itself}
use Rattle.map_update.proofs.Working.{draft_more}
use Rattle.map_items.proofs.Numbered.{contents_rise, unheld_above}
use Rattle.std.proofs.lemmas.Result.{IfOk-weaker}
use Rattle.map_update.specs.Draft.{IsLawfulDraft, IsDrafted}
use Rattle.map_update.proofs.Drafted.{worked_itself, worked_more}
use Rattle.map_update.proofs.Winners.{alone_inside, becomes, draft_contents, held_wins, new_wins}
use Rattle.map_update.proofs.thin.thinned_one.Goals as goal

pub returns-in_default-clause-contents : goal.returns-in_default-clause-contents
returns-in_default-clause-contents g c =
    let edge = c.args.settings.now.voxel in
    let m = contents c.args.draft.tree in
    let same : c.voxel-cube.result ≡ voxel edge c.args.point = rw c.voxel.ensures.value at c.voxel-cube.ensures.value in
    let none : inside_all m (voxel edge c.args.point) ≡ [] = rw same at (c.rivals_in-best.ensures.none.0 (rw c.in_default.is refl)) in
    let held = draft_contents c.args.settings.now.large c.args.next c.args.draft c.size-size.ensures.sound c.requires.draft in
    becomes c.added_one.result (put m c.args.next c.args.point) (thin edge m c.args.next c.args.point) (sym (thin_none edge c.args.next m c.args.point held none)) c.added_one.ensures.contents

pub left_alone-requires-clause-new : goal.left_alone-requires-clause-new
left_alone-requires-clause-new g c =
    let edge = c.args.settings.now.voxel in
    let n = c.args.next in
    let p = c.args.point in
    let m = contents c.args.draft.tree in
    let same : c.voxel-cube.result ≡ voxel edge p = rw c.voxel.ensures.value at c.voxel-cube.ensures.value in
    let best : IsBest m (voxel edge p) c.in-Some.held = rw (same, c.in-Some.is) at c.rivals_in-best.ensures.first in
    let before : comes_before (voxel edge p) (live_at n p) c.in-Some.held ≡ true = rw (same, c.live-new.ensures) at (sym c.comes_before.ensures ∙ c.if-comes_before.true) in
    let held = draft_contents c.args.settings.now.large n c.args.draft c.size-size.ensures.sound c.requires.draft in
    rw (same, c.live-new.ensures) (subst (λ (i : Item). IsUnheld i.number (mark m (in_box (voxel edge p)) thin_tag))
    (new_wins edge n m p c.in-Some.held (contents_rise 0 n m held) (unheld_above 0 n n m (omega arith) held) best
    before) (winner_unheld edge n m p held))

pub returns-then-comes_before-clause-contents : goal.returns-then-comes_before-clause-contents
returns-then-comes_before-clause-contents g c =
    let edge = c.args.settings.now.voxel in
    let n = c.args.next in
    let p = c.args.point in
    let m = contents c.args.draft.tree in
    let same : c.voxel-cube.result ≡ voxel edge p = rw c.voxel.ensures.value at c.voxel-cube.ensures.value in
    let best : IsBest m (voxel edge p) c.in-Some.held = rw (same, c.in-Some.is) at c.rivals_in-best.ensures.first in
    let before : comes_before (voxel edge p) (live_at n p) c.in-Some.held ≡ true = rw (same, c.live-new.ensures) at (sym c.comes_before.ensures ∙ c.if-comes_before.true) in
    let held = draft_contents c.args.settings.now.large n c.args.draft c.size-size.ensures.sound c.requires.draft in
    let wins = new_wins edge n m p c.in-Some.held (contents_rise 0 n m held) (unheld_above 0 n n m (omega arith) held) best before in
    becomes c.left_alone.result (put (mark m (in_box c.voxel-cube.result) thin_tag) c.live-new.result.number c.live-new.result.point) (thin edge m n p)
    (ap (λ (i : Item). put (mark m (in_box c.voxel-cube.result) thin_tag) i.number i.point) c.live-new.ensures
    ∙ ap (λ (b : Bounds). put (mark m (in_box b) thin_tag) n p) same
    ∙ ap (λ (i : Item). put (mark m (in_box (voxel edge p)) thin_tag) i.number i.point) (sym wins))
    c.left_alone.ensures.contents

pub returns-then-count-eq1-clause-contents : goal.returns-then-count-eq1-clause-contents
returns-then-count-eq1-clause-contents g c =
    let edge = c.args.settings.now.voxel in
    let n = c.args.next in
    let p = c.args.point in
    let m = contents c.args.draft.tree in
    let same : c.voxel-cube.result ≡ voxel edge p = rw c.voxel.ensures.value at c.voxel-cube.ensures.value in
    let best : IsBest m (voxel edge p) c.in-Some.held = rw (same, c.in-Some.is) at c.rivals_in-best.ensures.first in
    let behind : comes_before (voxel edge p) (live_at n p) c.in-Some.held ≡ false = rw (same, c.live-new.ensures) at (sym c.comes_before.ensures ∙ c.if-comes_before.false) in
    let one : length (inside_all m (voxel edge p)) ≡ 1 = rw same at (sym c.rivals_in-best.ensures.count ∙ c.if-count-eq1.true) in
    let held = draft_contents c.args.settings.now.large n c.args.draft c.size-size.ensures.sound c.requires.draft in
    sym (thin_same edge n m p c.in-Some.held held (alone_inside m (voxel edge p) c.in-Some.held best one) behind)

pub returns-then-count-eq1-clause-draft : goal.returns-then-count-eq1-clause-draft
returns-then-count-eq1-clause-draft g c = λ last ps d.
    (ps, left_itself ps, draft_more c.args.settings.now.large c.args.next (c.args.next + 1) last ps c.args.draft (omega arith) d)

pub left_alone-requires-2-clause-below : goal.left_alone-requires-2-clause-below
left_alone-requires-2-clause-below g c =
    let edge = c.args.settings.now.voxel in
    let n = c.args.next in
    let p = c.args.point in
    let m = contents c.args.draft.tree in
    let same : c.voxel-cube.result ≡ voxel edge p = rw c.voxel.ensures.value at c.voxel-cube.ensures.value in
    let best : IsBest m (voxel edge p) c.in-Some.held = rw (same, c.in-Some.is) at c.rivals_in-best.ensures.first in
    let behind : comes_before (voxel edge p) (live_at n p) c.in-Some.held ≡ false = rw (same, c.live-new.ensures) at (sym c.comes_before.ensures ∙ c.if-comes_before.false) in
    let held = draft_contents c.args.settings.now.large n c.args.draft c.size-size.ensures.sound c.requires.draft in
    subst (λ (i : Item). i.number < n + 1) (held_wins edge n m p c.in-Some.held (contents_rise 0 n m held) (unheld_above 0 n n m (omega arith) held) best behind) (winner_number edge n m p held)

pub left_alone-requires-2-clause-new : goal.left_alone-requires-2-clause-new
left_alone-requires-2-clause-new g c =
    let edge = c.args.settings.now.voxel in
    let n = c.args.next in
    let p = c.args.point in
    let m = contents c.args.draft.tree in
    let same : c.voxel-cube.result ≡ voxel edge p = rw c.voxel.ensures.value at c.voxel-cube.ensures.value in
    let best : IsBest m (voxel edge p) c.in-Some.held = rw (same, c.in-Some.is) at c.rivals_in-best.ensures.first in
    let behind : comes_before (voxel edge p) (live_at n p) c.in-Some.held ≡ false = rw (same, c.live-new.ensures) at (sym c.comes_before.ensures ∙ c.if-comes_before.false) in
    let held = draft_contents c.args.settings.now.large n c.args.draft c.size-size.ensures.sound c.requires.draft in
    rw same (subst (λ (i : Item). IsUnheld i.number (mark m (in_box (voxel edge p)) thin_tag))
    (held_wins edge n m p c.in-Some.held (contents_rise 0 n m held) (unheld_above 0 n n m (omega arith) held) best
    behind) (winner_unheld edge n m p held))

pub returns-clause-contents : goal.returns-clause-contents
returns-clause-contents g c =
    let edge = c.args.settings.now.voxel in
    let n = c.args.next in
    let p = c.args.point in
    let m = contents c.args.draft.tree in
    let same : c.voxel-cube.result ≡ voxel edge p = rw c.voxel.ensures.value at c.voxel-cube.ensures.value in
    let best : IsBest m (voxel edge p) c.in-Some.held = rw (same, c.in-Some.is) at c.rivals_in-best.ensures.first in
    let behind : comes_before (voxel edge p) (live_at n p) c.in-Some.held ≡ false = rw (same, c.live-new.ensures) at (sym c.comes_before.ensures ∙ c.if-comes_before.false) in
    let held = draft_contents c.args.settings.now.large n c.args.draft c.size-size.ensures.sound c.requires.draft in
    let wins = held_wins edge n m p c.in-Some.held (contents_rise 0 n m held) (unheld_above 0 n n m (omega arith) held) best behind in
    becomes c.left_alone-2.result (put (mark m (in_box c.voxel-cube.result) thin_tag) c.in-Some.held.number c.in-Some.held.point) (thin edge m n p)
    (ap (λ (b : Bounds). put (mark m (in_box b) thin_tag) c.in-Some.held.number c.in-Some.held.point) same
    ∙ ap (λ (i : Item). put (mark m (in_box (voxel edge p)) thin_tag) i.number i.point) (sym wins))
    c.left_alone-2.ensures.contents

pub returns-clause-draft : goal.returns-clause-draft
returns-clause-draft g c = rw c.large-large.ensures.value at c.left_alone-2.ensures.draft

pub returns-in_default-clause-drafted : goal.returns-in_default-clause-drafted
returns-in_default-clause-drafted g c =
    IfOk-weaker c.added_one.result _ (IsDrafted 1 2 c.args.draft)
    (λ w k. worked_more 1 1 1 2 c.args.draft w (omega arith) (omega arith) k) c.added_one.ensures.drafted

pub returns-then-count-eq1-clause-drafted : goal.returns-then-count-eq1-clause-drafted
returns-then-count-eq1-clause-drafted g c = worked_itself 1 2 c.args.draft

pub added_one-requires-clause-draft : goal.added_one-requires-clause-draft
added_one-requires-clause-draft g c = subst (λ n. IsLawfulDraft n c.args.next c.args.draft) (sym c.large-large.ensures.value) c.requires.draft

pub left_alone-requires-clause-draft : goal.left_alone-requires-clause-draft
left_alone-requires-clause-draft g c = subst (λ n. IsLawfulDraft n c.args.next c.args.draft) (sym c.large-large.ensures.value) c.requires.draft

pub left_alone-requires-2-clause-draft : goal.left_alone-requires-2-clause-draft
left_alone-requires-2-clause-draft g c = subst (λ n. IsLawfulDraft n c.args.next c.args.draft) (sym c.large-large.ensures.value) c.requires.draft

pub returns-in_default-clause-draft : goal.returns-in_default-clause-draft
returns-in_default-clause-draft g c = rw c.large-large.ensures.value at c.added_one.ensures.draft

pub returns-then-comes_before-clause-draft : goal.returns-then-comes_before-clause-draft
returns-then-comes_before-clause-draft g c = rw c.large-large.ensures.value at c.left_alone.ensures.draft
