use Rattle.std.proofs.Common.{◌-◌, ◌∙◌, sym, arith}
use Rattle.map_fold.proofs.Ranked.{passed, stopped}
use Rattle.map_fold.proofs.hits.place_from_end.Goals as goal

pub loop-at-preserved : goal.loop-at-preserved
loop-at-preserved c = record {
  within = omega arith;
  put = passed c.args.hit.now c.args.hits.now c.loop-at.at (c.loop-at.at - 1) c.index-hits-at.result (omega arith) (omega arith) c.index-hits-at.is
      (sym c.is_nearer.ensures ∙ c.if-not-is_nearer.true) c.loop-at.invariant.put;
}

pub returns-else-not-is_nearer-clause-value : goal.returns-else-not-is_nearer-clause-value
returns-else-not-is_nearer-clause-value c =
    stopped c.args.hit.now c.args.hits.now c.loop-at.at (c.loop-at.at - 1) c.index-hits-at.result c.requires (omega arith) (omega arith) c.index-hits-at.is
    (sym c.is_nearer.ensures ∙ c.if-not-is_nearer.false) c.loop-at.invariant.put
