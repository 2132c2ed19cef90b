use Rattle.std.proofs.Common.{◌≡◌, ◌-◌, ◌∙◌, ap, get_or, false, length-set, sym, take, arith}
use Rattle.std.proofs.lemmas.List.{get_or_default}
use Rattle.map_fold.specs.Answers.{is_nearer}
use Rattle.map_fold.proofs.Ranked.{passed}
use Rattle.kd_frozen.specs.Shortlist.{hit_at, hits_of}
use Rattle.kd_frozen.proofs.Holes.{hit_before, hits_length, hole_behind, hole_first, hole_last, hole_moved, whole_first}
use Rattle.kd_frozen.proofs.shortlist.make_place.Goals as goal

pub loop-at-init : goal.loop-at-init
loop-at-init c = record {
  within = omega arith;
  long = omega arith;
  hole = hole_behind c.args.nears.now c.args.len c.args.near.now c.requires.room;
  put = whole_first (hit_at c.args.near.now) (hits_of (take c.args.len c.args.nears.now)) c.args.len (hits_length c.args.nears.now c.args.len (omega (arith, c.requires.room)));
}

pub loop-at-preserved : goal.loop-at-preserved
loop-at-preserved c =
    let old = c.args.nears.now in
    let nears = c.loop-at.nears in
    let len = c.args.len in
    let at = c.loop-at.at in
    let near = c.args.near.now in
    let x = c.index-nears-at.result in
    let is = c.index-nears-at.is in
    let later : is_nearer (hit_at x) (hit_at near) ≡ false = ap (λ n. is_nearer (hit_at n) (hit_at near)) is ∙ sym (c.comes_before.ensures x) ∙ c.if-not-comes_before.true in
    record {
      within = omega arith;
      long = omega (arith, c.loop-at.invariant.long, length-set nears at x);
      hole = hole_moved nears old len at (at - 1) x (omega arith) c.loop-at.invariant.within c.requires.room c.loop-at.invariant.hole is;
      put = passed (hit_at near) (hits_of (take len old)) at (at - 1) (hit_at x) (omega arith) (omega (arith, hits_length old len (omega (arith, c.requires.room)), c.loop-at.invariant.within))
          (hit_before nears old len at (at - 1) x (omega arith) c.loop-at.invariant.within c.requires.room c.loop-at.invariant.hole is)
          later c.loop-at.invariant.put;
    }

pub returns-else-not-comes_before-clause-put : goal.returns-else-not-comes_before-clause-put
returns-else-not-comes_before-clause-put c =
    let nears = c.loop-at.nears in
    let at = c.loop-at.at in
    let near = c.args.near.now in
    let x = get_or nears (at - 1) near in
    let here = get_or_default nears (at - 1) near x (omega (arith, c.loop-at.invariant.within, c.loop-at.invariant.long, c.requires.room)) in
    hole_last nears c.args.nears.now c.args.len at (at - 1) x near c.requires.ranked (omega arith) c.loop-at.invariant.within c.requires.room c.loop-at.invariant.hole
    here (sym (c.comes_before.ensures near) ∙ c.if-not-comes_before.false) c.loop-at.invariant.put

pub returns-after-loop-at-clause-put : goal.returns-after-loop-at-clause-put
returns-after-loop-at-clause-put c =
    hole_first c.loop-at.nears c.args.nears.now c.args.len c.loop-at.at c.args.near.now (omega arith) c.requires.room c.loop-at.invariant.hole c.loop-at.invariant.put
