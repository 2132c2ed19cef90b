use Rattle.std.proofs.Common.{◌∙◌, List, length, sym, subst, eqb-true}
use Rattle.std.proofs.lemmas.List.{nil_from_length}
use Rattle.std.proofs.lemmas.Result.{IfOk-weaker}
use Rattle.map_items.specs.declared.item.Item.{Item}
use Rattle.kd_tree.specs.Contents.{contents}
use Rattle.kd_update.specs.Scan.{IsPut, MayJoin}
use Rattle.kd_update.proofs.Joins.{join_first, join_rest, put_none, put_then}
use Rattle.kd_update.proofs.scans.scan.put_in_pieces.Goals as goal

pub put_piece-requires-clause-fit : goal.put_piece-requires-clause-fit
put_piece-requires-clause-fit g c =
    join_first _ _ c.split_at.result.1.now (subst (λ (xs : List Item). MayJoin (contents c.loop-rest.tree) xs) c.split_at.ensures.by_index.0 c.loop-rest.invariant.fit)

pub loop-rest-preserved : goal.loop-rest-preserved
loop-rest-preserved g c =
    let s = c.loop-rest.tree in
    let cut = c.split_at.ensures.by_index.0 in
    record {
      fit = join_rest s c.in_ok-tree.tree _ _ (subst (λ (xs : List Item). MayJoin (contents s) xs) cut c.loop-rest.invariant.fit) c.in_ok-tree.ensures.held;
      rest = λ u k. c.loop-rest.invariant.rest u (subst (λ (xs : List Item). IsPut c.args.large s xs u) (sym cut) (put_then c.args.large s _ u _ _ c.in_ok-tree.ensures k));
    }

pub returns-then-levels-ge-MAX_LEVELS : goal.returns-then-levels-ge-MAX_LEVELS
returns-then-levels-ge-MAX_LEVELS g c =
    IfOk-weaker c.built_with_rest.result _ (λ t. IsPut c.args.large c.args.tree c.args.items.now t)
    c.loop-rest.invariant.rest (c.built_with_rest.ensures c.args.large)

pub returns : goal.returns
returns g c =
    let s = c.loop-rest.tree in
    let none = nil_from_length c.loop-rest.rest.now (eqb-true (length c.loop-rest.rest.now) 0 (sym c.is_empty.ensures ∙ c.loop-rest-test.false)) in
    c.loop-rest.invariant.rest s (subst (λ (xs : List Item). IsPut c.args.large s xs s) (sym none) (put_none c.args.large s))

pub returns-then-size-rest : goal.returns-then-size-rest
returns-then-size-rest g c =
    IfOk-weaker c.built_with_rest-then-size-rest.result _ (λ t. IsPut c.args.large c.args.tree c.args.items.now t)
    c.loop-rest.invariant.rest (c.built_with_rest-then-size-rest.ensures c.args.large)
