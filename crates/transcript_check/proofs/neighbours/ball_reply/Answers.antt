use Rattle.std.proofs.Common.{◌≡◌, ◌*◌, List, ap, refl, ◌∙◌, length, take}
use Rattle.node_labels.specs.Labels.{is_live}
use Rattle.map_items.specs.declared.item.Item.{Item}
use Rattle.map_fold.specs.Neighbours.{ball, is_near}
use Rattle.neighbour_sets.proofs.Others.{filter-filter}
use Rattle.transcript_check.proofs.Found.{found_in}
use Rattle.transcript_check.proofs.neighbours.ball_reply.Goals as goal

pub returns : goal.returns
returns c =
    let q = c.args.point.now in
    let d = c.args.r * c.args.r in
    let items = c.args.map.now.items in
    let list : c.as_slice.result.now ≡ items = c.as_slice.ensures ∙ c.in_ok-items.ensures in
    let again : c.as_slice-2.result.now ≡ items = c.as_slice-2.ensures ∙ c.in_ok-items.ensures in
    let all : found_in q d items ≡ ball items q c.args.r = filter-filter (λ (i : Item). is_live i.label) (is_near q d) items in
    let count : c.near_count-count.result ≡ length (ball items q c.args.r) = c.near_count-count.ensures ∙ ap (λ (xs : List Item). length (found_in q d xs)) list ∙ ap length all in
    let first : c.in_ok-items-2.items ≡ take c.args.k (ball items q c.args.r) = c.in_ok-items-2.ensures ∙ ap (λ (xs : List Item). take c.args.k (found_in q d xs)) again ∙ ap (take c.args.k) all in
    rw (count, first) refl
