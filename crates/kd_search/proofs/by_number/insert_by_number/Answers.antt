use Rattle.std.proofs.Common.{◌≡◌, ◌≤◌, ◌-◌, length, take, arith}
use Rattle.kd_search.proofs.Inserted.{insert_in_full, insert_in_room}
use Rattle.std.specs.List.{insert}
use Rattle.kd_tree.specs.Contents.{insert_item}
use Rattle.kd_search.proofs.by_number.insert_by_number.Goals.{then-len-most, else-len-most}
use Rattle.kd_search.proofs.by_number.insert_by_number.Goals as goal

pub returns : goal.returns
returns c =
    let old = c.args.items.now.items in
    let at = c.index_of-at.result in
    let i = c.args.item.now in
    let placed : insert old at i ≡ insert_item i old = rw c.as_slice.ensures.value at c.index_of-at.ensures.value in
    let bound : at ≤ length old = rw c.as_slice.ensures.value at c.index_of-at.ensures.bound in
    let few : length old ≤ c.args.most = c.requires.few in
    elim c.if-len-most.branch [
      | then-len-most w ↦
          let held : c.if-len-most.items.items ≡ take (c.args.most - 1) old = rw w.items-is w.truncate.ensures.items in
          insert_in_full c.args.most (c.args.most - 1) at old _ _ i (omega arith) (omega arith) held c.in_ok-insert.ensures.items placed
      | else-len-most w ↦
          let held : c.if-len-most.items.items ≡ old = rw w.items-is in
          insert_in_room c.args.most at old _ i (omega arith) (rw held at c.in_ok-insert.ensures.items) placed
    ]
