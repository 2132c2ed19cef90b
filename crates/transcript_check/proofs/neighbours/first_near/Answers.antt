use Rattle.std.proofs.Common.{◌≡◌, List, [], ◌∷◌, ◌++◌, ◌+◌, ◌-◌, ap, arith, drop, length, length-append, sym, take, ◌∙◌}
use Rattle.map_items.specs.declared.item.Item.{Item}
use Rattle.transcript_check.proofs.Found.{found_in, found_more, found_passed}
use Rattle.transcript_check.proofs.Places.{drop_at_place}
use Rattle.transcript_check.proofs.neighbours.first_near.Goals.{then-finds+in_ok-push, else-finds}
use Rattle.transcript_check.proofs.neighbours.first_near.Goals as goal

pub loop-item-preserved : goal.loop-item-preserved
loop-item-preserved c =
    let i = c.item-item.result in
    let at = c.loop-item.item-index in
    let q = c.args.point.now in
    let d = c.args.limit in
    let items = c.args.items.now in
    let most = c.args.most in
    let found = c.loop-item.found in
    let rest = drop (at + 1) items in
    let cut : drop at items ≡ i ∷ rest = drop_at_place items at i (omega arith) c.item-item.is in
    let before = ap (λ (xs : List Item). found ++ take (most - length found) (found_in q d xs)) (sym cut) ∙ c.loop-item.invariant.rest in
    elim c.if-finds.branch [
      | then-finds+in_ok-push w ↦
          let now = w.found-is ∙ w.in_ok-push.ensures.ok in
          record {
            few = rw now (omega (arith, length-append found (i ∷ [])));
            rest = rw now (found_more found most q d i rest (omega arith) (sym c.finds.ensures ∙ w.if-finds.true) ∙ before);
          }
      | else-finds w ↦
          record {
            few = rw w.found-is c.loop-item.invariant.few;
            rest = rw (w.found-is, found_passed q d i rest (sym c.finds.ensures ∙ w.if-finds.false)) before;
          }
    ]
