use Rattle.std.proofs.Common.{◌<◌, length, refl, arith}
use Rattle.std.proofs.lemmas.List.{map_more, take_more_set}
use Rattle.map_c.proofs.handles.writing.write_all.Goals as goal

pub loop-i-preserved : goal.loop-i-preserved
loop-i-preserved g c =
    let room : c.loop-i.i < length c.loop-i.out = omega (arith, c.requires, c.loop-i.auto.out, c.loop-i-test.true) in
    rw (
      take_more_set c.loop-i.out c.loop-i.i c.to_c.result room,
      map_more g.T.ToC.in_c c.args.found.now c.loop-i.i c.index-found-i.result c.loop-i-test.true,
      ← c.index-found-i.is,
      c.loop-i.invariant,
      c.to_c.ensures,
    ) refl
