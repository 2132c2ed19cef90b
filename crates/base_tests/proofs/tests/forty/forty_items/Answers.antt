use Rattle.std.proofs.Common.{◌+◌, [], ◌∷◌, ◌++◌, arith, subst, sym}
use Rattle.map_items.specs.declared.item.Item.{Item}
use Rattle.map_items.specs.Contents.{AreContents}
use Rattle.map_items.proofs.Numbered.{contents_push, contents_length}
use Rattle.kd_tree.proofs.Held.{are_kept, are_distinct}
use Rattle.base_tests.proofs.tests.forty.forty_items.Goals as goal

pub loop-number-preserved : goal.loop-number-preserved
loop-number-preserved g c =
    let n = c.loop-number.number in
    let m = c.loop-number.items.items in
    let i = c.item.result in
    rw c.in_ok-push.ensures.items (subst (λ (j : Item). AreContents 0 (n + 1) (m ++ j ∷ [])) (sym c.item.ensures.live) (contents_push 0 n m i.point (omega arith) c.loop-number.invariant))

pub returns-clause-kept : goal.returns-clause-kept
returns-clause-kept g c = are_kept 0 c.loop-number.number c.loop-number.items.items c.loop-number.invariant

pub returns-clause-distinct : goal.returns-clause-distinct
returns-clause-distinct g c = are_distinct 0 c.loop-number.number c.loop-number.items.items c.loop-number.invariant

pub returns-clause-few : goal.returns-clause-few
returns-clause-few g c = omega (arith, contents_length 0 c.loop-number.number c.loop-number.items.items (omega arith) c.loop-number.invariant)
