use Rattle.std.proofs.Common.{◌≡◌, ℕ, ◌+◌, ◌≤◌, false, List, [], ◌∷◌, ◌++◌, refl, arith}
use Rattle.node_labels.specs.Labels.{is_dropped}
use Rattle.map_items.specs.declared.item.Item.{Item}
use Rattle.map_items.specs.Contents.{AreContents}
use Rattle.map_items.proofs.Numbered.{contents_length}
use Rattle.kd_tree.proofs.Held.{are_kept, are_distinct}
use Rattle.base_tests.proofs.tests.grown.items_at.Goals as goal

-- one more item at the end
more : (low n : ℕ) (m : List Item) (i : Item) → low ≤ n → i.number ≡ n → is_dropped i.label ≡ false → AreContents low n m → AreContents low (n + 1) (m ++ i ∷ [])
more low n [] i from is kept h = (omega arith, omega arith, kept, tt)
more low n (j ∷ m) i from is kept h = (h.0, omega (arith, h.1), h.2, more (j.number + 1) n m i (omega (arith, h.1)) is kept h.3)

pub loop-point-preserved : goal.loop-point-preserved
loop-point-preserved c =
    let i : Item = record { number = c.loop-point.number; point = c.point-item.result; label = c.label_of.result } in
    record {
      counted = omega arith;
      numbered = rw c.in_ok-push.ensures.items (more 0 c.loop-point.number c.loop-point.items.items i (omega arith) refl c.label_of.ensures c.loop-point.invariant.numbered);
    }

pub returns-clause-kept : goal.returns-clause-kept
returns-clause-kept c = are_kept 0 c.loop-point.number c.loop-point.items.items c.loop-point.invariant.numbered

pub returns-clause-distinct : goal.returns-clause-distinct
returns-clause-distinct c = are_distinct 0 c.loop-point.number c.loop-point.items.items c.loop-point.invariant.numbered

pub returns-clause-few : goal.returns-clause-few
returns-clause-few c = omega (arith, contents_length 0 c.loop-point.number c.loop-point.items.items (omega arith) c.loop-point.invariant.numbered)
