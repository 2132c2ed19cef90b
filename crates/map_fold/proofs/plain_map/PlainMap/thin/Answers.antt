use Rattle.std.proofs.Common.{◌≡◌, ◌+◌, [], ◌∷◌, ap, arith, drop, length, subst, sym}
use Rattle.std.proofs.lemmas.List.{drop_all}
use Rattle.map_items.specs.Contents.{AreContents, thin}
use Rattle.map_items.specs.Fold.{MapAt}
use Rattle.map_fold.specs.Thinned.{IsThinned}
use Rattle.map_items.proofs.Numbered.{drop-at}
use Rattle.map_fold.proofs.Thinning.{contents_thin, thinned_is}
use Rattle.map_fold.proofs.plain_map.PlainMap.thin.Goals as goal

pub loop-point-preserved : goal.loop-point-preserved
loop-point-preserved c =
    let p = c.point-item.result in
    let next = c.loop-point.next in
    let items = c.loop-point.items.items in
    let cut : drop c.loop-point.point-index c.args.points.now ≡ p ∷ drop (c.loop-point.point-index + 1) c.args.points.now =
    drop-at c.args.points.now _ c.loop-point.point-index p (omega arith) (rw c.as_slice-point-items.ensures at c.loop-point-test.true) (rw c.as_slice-point-items.ensures at c.point-item.is) in
    let shorter : length (drop c.loop-point.point-index c.args.points.now) ≡ length (drop (c.loop-point.point-index + 1) c.args.points.now) + 1 = rw cut (omega arith) in
    record {
      held = rw c.in_ok-thin_one.ensures (contents_thin c.args.edge next items p c.loop-point.invariant.held);
      room = omega arith;
      rest = rw c.in_ok-thin_one.ensures (rw cut at c.loop-point.invariant.rest);
    }

pub returns-clause-thinned : goal.returns-clause-thinned
returns-clause-thinned c =
    let m = c.args.self in
    let all : drop c.loop-point.point-index c.args.points.now ≡ [] = drop_all c.loop-point.point-index c.args.points.now (rw c.as_slice-point-items.ensures at c.loop-point-test.false) in
    let held : AreContents 0 m.next m.items = subst (λ (n : MapAt). AreContents 0 n.next n.items) c.self.view_is c.self.invariant in
    λ p e.
    let is : c.loop-point.items.items ≡ thin c.args.edge m.items m.next p = ap (λ (n : MapAt). n.items) (rw (all, e) at c.loop-point.invariant.rest) in
    subst (IsThinned c.args.edge m.items m.next p) (sym is) (thinned_is c.args.edge m.next m.items p c.requires.edge_from held)
