use Rattle.std.proofs.Common.{refl, arith}
use Rattle.kd_frozen.proofs.Parted.{left_near, right_near, sides_of}
use Rattle.kd_frozen.proofs.parts.Parts.of.Goals as goal

pub returns-then-is_below : goal.returns-then-is_below
returns-then-is_below c =
    let s = c.split_at.ensures in
    let own = c.in-Some.ensures.cases in
    let m = c.args.cells.now in
    let rest = c.in-Some.rest.now in
    let left = c.split_at.result.0.now in
    let right = c.split_at.result.1.now in
    let top = c.in-Some.top.now in
    let k = sides_of m rest left right top _ c.requires (omega arith) own.0 c.first_of.ensures.value s.front s.back in
    left_near m rest left right top c.args.q.now _ k own.0 s.by_index.0 (c.is_below.ensures.below c.if-is_below.true) refl refl refl

pub returns-else-is_below : goal.returns-else-is_below
returns-else-is_below c =
    let s = c.split_at.ensures in
    let own = c.in-Some.ensures.cases in
    let m = c.args.cells.now in
    let rest = c.in-Some.rest.now in
    let left = c.split_at.result.0.now in
    let right = c.split_at.result.1.now in
    let top = c.in-Some.top.now in
    let k = sides_of m rest left right top _ c.requires (omega arith) own.0 c.first_of.ensures.value s.front s.back in
    right_near m rest left right top c.args.q.now _ k own.0 s.by_index.0 (c.is_below.ensures.above c.if-is_below.false) refl refl refl
