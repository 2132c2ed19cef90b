use Rattle.std.proofs.Common.{◌≡◌, ap, ◌∙◌, arith, length}
use Rattle.std.proofs.lemmas.Result.{IfOk-weaker}
use Rattle.map_items.proofs.Numbered.{contents_length}
use Rattle.kd_tree.specs.Contents.{by_number, contents}
use Rattle.kd_tree.proofs.Held.{are_distinct, are_kept, by_number-are}
use Rattle.transcript_check.proofs.neighbours.tree_by.Goals as goal

pub build-requires-clause-kept : goal.build-requires-clause-kept
build-requires-clause-kept g c =
    let all : c.as_slice.result.now ≡ c.args.map.now.items = c.as_slice.ensures ∙ c.in_ok-items.ensures in
    rw all (are_kept 0 c.args.map.now.next c.args.map.now.items c.next.ensures.contents)

pub build-requires-clause-distinct : goal.build-requires-clause-distinct
build-requires-clause-distinct g c =
    let all : c.as_slice.result.now ≡ c.args.map.now.items = c.as_slice.ensures ∙ c.in_ok-items.ensures in
    rw all (are_distinct 0 c.args.map.now.next c.args.map.now.items c.next.ensures.contents)

pub build-requires-clause-few : goal.build-requires-clause-few
build-requires-clause-few g c =
    let all : c.as_slice.result.now ≡ c.args.map.now.items = c.as_slice.ensures ∙ c.in_ok-items.ensures in
    omega (arith, ap length all, contents_length 0 c.args.map.now.next c.args.map.now.items (omega arith) c.next.ensures.contents, c.requires.points)

pub returns : goal.returns
returns g c =
    let all : c.as_slice.result.now ≡ c.args.map.now.items = c.as_slice.ensures ∙ c.in_ok-items.ensures in
    let order = by_number-are 0 c.args.map.now.next c.args.map.now.items c.next.ensures.contents in
    IfOk-weaker c.build.result _ (λ t. contents t ≡ c.args.map.now.items) (λ t k. k ∙ ap by_number all ∙ order) c.build.ensures.contents
