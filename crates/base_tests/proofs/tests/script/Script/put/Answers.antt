use Rattle.std.proofs.Common.{◌+◌, List, [], ◌∷◌, ◌∙◌, sym, subst, arith}
use Rattle.map_items.specs.declared.item.Item.{Item}
use Rattle.map_items.specs.declared.op.Op.{Op}
use Rattle.map_items.specs.declared.op.Op.TheVariants.{Put}
use Rattle.map_items.specs.Contents.{AreContents}
use Rattle.map_items.specs.Ops.{Fit, replay}
use Rattle.map_items.proofs.Numbered.{contents_length, contents_push, put-above, unheld_above}
use Rattle.map_items.proofs.Replays.{fit_append, replay-append}
use Rattle.base_tests.proofs.tests.script.Script.put.Goals as goal

pub invariant_of-result : goal.invariant_of-result
invariant_of-result g c =
    let ops = c.self.inside.ops.items in
    let n = c.self.inside.next in
    let m = replay [] ops in
    let one : List Op = Put n c.args.point ∷ [] in
    let held : AreContents 0 n m = c.self.invariant.1 in
    let few = contents_length 0 n m (omega arith) held in
    let fit = fit_append [] ops one c.self.invariant.0 (unheld_above 0 n n m (omega arith) held, omega (arith, few), tt) in
    let all = contents_push 0 n m c.args.point (omega arith) held in
    let after = replay-append [] ops one ∙ put-above 0 n m c.args.point held in
    let P : List Op → Type 0 = λ xs. Fit [] xs × AreContents 0 (n + 1) (replay [] xs) in
    subst P (sym c.in_ok-push.ensures.items) (fit, subst (λ (xs : List Item). AreContents 0 (n + 1) xs) (sym after) all)
