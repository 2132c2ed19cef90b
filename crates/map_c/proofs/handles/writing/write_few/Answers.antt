use Rattle.std.proofs.Common.{◌≡◌, ◌+◌, ◌<◌, [], ◌∷◌, get_or, length, map, take, append_assoc, arith}
use Rattle.std.proofs.lemmas.List.{map_more}
use Rattle.std.proofs.lemmas.Grind.{take-set_at}
use Rattle.map_c.specs.Answers.{c_hit}
use Rattle.map_c.proofs.handles.writing.write_few.Goals as goal

pub loop-i-preserved : goal.loop-i-preserved
loop-i-preserved c =
    let lt : c.loop-i.i < length c.args.found.now = omega (arith, c.loop-i-test.true, c.len-count.ensures) in
    let room : c.args.at + c.loop-i.i < length c.loop-i.hits = omega (arith, c.requires, c.loop-i.auto.hits, lt) in
    let hit = c.hit.result in
    let is : hit ≡ get_or c.args.found.now c.loop-i.i hit = c.hit.ensures hit in
    rw (
      take-set_at c.loop-i.hits (c.args.at + c.loop-i.i) (c.args.at + (c.loop-i.i + 1)) c.hit_of.result (omega arith) room,
      map_more c_hit c.args.found.now c.loop-i.i hit lt,
      ← is,
      c.loop-i.invariant,
      c.hit_of.ensures,
    ) (append_assoc (take c.args.at c.args.hits.now) (map c_hit (take c.loop-i.i c.args.found.now)) (c_hit hit ∷ []))
