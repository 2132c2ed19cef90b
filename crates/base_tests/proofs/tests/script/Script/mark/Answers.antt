use Rattle.std.proofs.Common.{List, [], ◌∷◌, sym, subst}
use Rattle.map_items.specs.declared.item.Item.{Item}
use Rattle.map_items.specs.declared.op.Op.{Op}
use Rattle.map_items.specs.declared.op.Op.TheVariants.{Mark}
use Rattle.map_items.specs.Contents.{AreContents, chosen_by}
use Rattle.map_items.specs.Ops.{Fit, replay}
use Rattle.map_items.proofs.Numbered.{contents_mark}
use Rattle.map_items.proofs.Replays.{fit_append, replay-append}
use Rattle.base_tests.proofs.tests.script.Script.mark.Goals as goal

pub invariant_of-result : goal.invariant_of-result
invariant_of-result c =
    let ops = c.self.inside.ops.items in
    let n = c.self.inside.next in
    let m = replay [] ops in
    let one : List Op = Mark c.args.choice c.args.tag ∷ [] in
    let fit = fit_append [] ops one c.self.invariant.0 tt in
    let all = contents_mark 0 n m (chosen_by c.args.choice) c.args.tag c.self.invariant.1 in
    let P : List Op → Type 0 = λ xs. Fit [] xs × AreContents 0 n (replay [] xs) in
    subst P (sym c.in_ok-push.ensures.items) (fit, subst (λ (xs : List Item). AreContents 0 n xs) (sym (replay-append [] ops one)) all)
