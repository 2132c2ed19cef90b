use Rattle.std.proofs.Common.{◌≡◌, ◌+◌, ◌<◌, ◌++◌, ◌∙◌, [], List, ap, arith, length, length-append, refl, subst, sym}
use Rattle.std.specs.Prelude.{All}
use Rattle.std.proofs.lemmas.Bool.{eqb-true}
use Rattle.std.proofs.lemmas.List.{nil_from_length}
use Rattle.std.proofs.lemmas.List.Elements.{All-append, All-map}
use Rattle.map_items.specs.declared.item.Item.{Item}
use Rattle.kd_tree.specs.Contents.{contents}
use Rattle.kd_tree.specs.Shape.{numbers}
use Rattle.kd_update.specs.Scan.{MayJoin, numbers_in, put_each}
use Rattle.kd_update.proofs.Grown.{all_first, all_last}
use Rattle.kd_update.proofs.Joins.{join_first, join_rest, put_each-append}
use Rattle.map_update.proofs.AtOnce.{free_draft, free_balanced}
use Rattle.map_update.proofs.Detached.{left_itself}
use Rattle.map_update.proofs.Drafts.{among_below}
use Rattle.map_update.proofs.Working.{draft_on}
use Rattle.map_update.proofs.Drafted.{worked_itself, worked_kept, worked_then}
use Rattle.map_update.proofs.draft.Draft.put_items.Goals as goal

pub loop-rest-init : goal.loop-rest-init
loop-rest-init g c = record {
  fit = c.requires.fit;
  rest = refl;
  draft = λ next last ps below d. (below, (ps, left_itself ps, d));
  drafted = (0, omega arith, worked_itself 0 0 c.args.self);
}

pub put_piece-requires-clause-draft : goal.put_piece-requires-clause-draft
put_piece-requires-clause-draft g c =
    let r = c.requires.draft in
    let k = c.loop-rest.invariant.draft r.0 r.1.0 r.1.1 r.2 r.1.2 in
    (r.0, (r.1.0, k.1.0, k.1.2))

pub put_piece-requires-clause-fit : goal.put_piece-requires-clause-fit
put_piece-requires-clause-fit g c =
    let m = contents c.loop-rest.draft.tree in
    join_first m c.split_at.result.0.now c.split_at.result.1.now (subst (λ (xs : List Item). MayJoin m xs) c.split_at.ensures.by_index.0 c.loop-rest.invariant.fit)

pub loop-rest-preserved : goal.loop-rest-preserved
loop-rest-preserved g c =
    let v = c.loop-rest.draft in
    let w = c.in_ok-draft.draft in
    let piece = c.split_at.result.0.now in
    let more = c.split_at.result.1.now in
    let cut = c.split_at.ensures.by_index.0 in
    let k = c.loop-rest.invariant in
    let n = length piece in
    record {
      fit = join_rest v.tree w.tree piece more (subst (λ (xs : List Item). MayJoin (contents v.tree) xs) cut k.fit) c.in_ok-draft.ensures.contents;
      rest = ap (λ m. put_each m more) c.in_ok-draft.ensures.contents ∙ sym (put_each-append (contents v.tree) piece more) ∙ ap (put_each (contents v.tree)) (sym cut) ∙ k.rest;
      draft = λ next last ps below d.
          let j = k.draft next last ps below d in
          let P : Item → Type 0 = λ i. i.number < next in
          let both = subst (All P) cut j.0 in
          (all_last P piece more both, draft_on c.args.large next last ps j.1.0 w j.1.1 (c.in_ok-draft.ensures.draft next last j.1.0 (all_first P piece more both) j.1.2));
      drafted = (
        k.drafted.0 + n,
        omega (arith, k.drafted.1, ap length cut, length-append piece more),
        worked_then k.drafted.0 k.drafted.0 n n (k.drafted.0 + n) (k.drafted.0 + n) c.args.self v w (omega arith) (omega arith) k.drafted.2 c.in_ok-draft.ensures.drafted,
      );
    }

pub returns-clause-contents : goal.returns-clause-contents
returns-clause-contents g c =
    let none = nil_from_length c.loop-rest.rest.now (eqb-true (length c.loop-rest.rest.now) 0 (sym c.is_empty.ensures ∙ c.loop-rest-test.false)) in
    ap (put_each (contents c.loop-rest.draft.tree)) (sym none) ∙ c.loop-rest.invariant.rest

pub returns-clause-draft : goal.returns-clause-draft
returns-clause-draft g c = λ next last ps below d. (c.loop-rest.invariant.draft next last ps below d).1

pub returns-clause-kept : goal.returns-clause-kept
returns-clause-kept g c = λ room x there own.
    let n = length c.args.items.now in
    let k = c.loop-rest.invariant.drafted in
    worked_kept k.0 k.0 n n c.args.self c.loop-rest.draft (omega (arith, k.1)) (omega (arith, k.1)) k.2 room x there own

pub returns-then-len-eq0-clause-draft : goal.returns-then-len-eq0-clause-draft
returns-then-len-eq0-clause-draft g c = λ next last ps less d.
    let w = c.args.self in
    let t = c.in_ok-tree.tree in
    let is = c.args.items.now in
    let free : w.watches ≡ [] = nil_from_length w.watches (omega (arith, c.len.ensures, c.if-len-eq0.true)) in
    let old = free_balanced c.args.large next last ps w free d in
    let below : All (λ n. n < next) (numbers_in is ++ numbers w.tree) =
    All-append (λ n. n < next) (numbers_in is) (numbers w.tree)
    (All-map (λ n. n < next) (λ (i : Item). i.number) is less) d.below in
    free_draft c.args.large next last ps (record { tree = t; watches = w.watches }) free
    (among_below next (numbers t) (numbers_in is ++ numbers w.tree) c.in_ok-tree.ensures.numbers below) (c.in_ok-tree.ensures.balance old)

pub returns-then-len-eq0-clause-kept : goal.returns-then-len-eq0-clause-kept
returns-then-len-eq0-clause-kept g c = let n = length c.args.items.now in worked_kept 0 0 n n c.args.self c.args.self (omega arith) (omega arith) (worked_itself 0 0 c.args.self)
