use Rattle.std.proofs.Common.{◌≡◌, ℕ, ◌<◌, ◌≤◌, ◌∙◌, List, false, zero, suc, ap, arith, length, refl, subst, sym}
use Rattle.std.specs.Prelude.{All, ◌==◌}
use Rattle.std.proofs.lemmas.Bool.{eqb-true}
use Rattle.std.proofs.lemmas.List.{nil_from_length}
use Rattle.std.proofs.lemmas.List.Elements.{All-head}
use Rattle.map_items.specs.declared.item.Item.{Item}
use Rattle.kd_tree.specs.Contents.{contents}
use Rattle.kd_update.specs.Scan.{MayJoin}
use Rattle.kd_update.proofs.Joins.{join_new}
use Rattle.map_update.proofs.Detached.{left_itself}
use Rattle.map_update.proofs.Passes.{draft_apart, draft_scan, worked_scan}
use Rattle.map_update.proofs.Drafted.{worked_itself}
use Rattle.map_update.proofs.Working.{draft_large}
use Rattle.map_update.proofs.draft.Draft.put_piece.Goals as goal

pub returns-in_default-clause-draft : goal.returns-in_default-clause-draft
returns-in_default-clause-draft g c = λ next last ps below d. (ps, left_itself ps, d)

pub returns-in_default-clause-drafted : goal.returns-in_default-clause-drafted
returns-in_default-clause-drafted g c = worked_itself (length c.args.piece.now) (length c.args.piece.now) c.args.self

pub put-requires-clause-new : goal.put-requires-clause-new
put-requires-clause-new g c =
    let none = nil_from_length c.in-Some.others.now (eqb-true (length c.in-Some.others.now) 0 (sym c.is_empty.ensures ∙ c.if-is_empty.true)) in
    let m = contents c.args.self.tree in
    join_new m c.in-Some.others.now c.in-Some.item.now c.args.self.tree refl (subst (λ (xs : List Item). MayJoin m xs) c.in-Some.ensures.cases.0 c.requires.fit)

pub returns-then-is_empty-clause-draft : goal.returns-then-is_empty-clause-draft
returns-then-is_empty-clause-draft g c = λ next last ps below d.
    let P : Item → Type 0 = λ i. i.number < next in
    c.put.ensures.draft next last ps (All-head P c.in-Some.item.now c.in-Some.others.now (subst (All P) c.in-Some.ensures.cases.0 below)) d

pub put_all_watched-requires-clause-there : goal.put_all_watched-requires-clause-there
put_all_watched-requires-clause-there g c =
    let r = c.requires.draft in
    draft_large c.args.large r.0 r.1.0 r.1.1 c.args.self r.1.2

pub put_all_watched-requires-clause-apart : goal.put_all_watched-requires-clause-apart
put_all_watched-requires-clause-apart g c =
    let r = c.requires.draft in
    draft_apart c.args.large r.0 r.1.0 r.1.1 c.args.self r.1.2

-- there are more than one
some_more : (n : ℕ) → (n == 0) ≡ false → 1 ≤ n
some_more zero e = absurd (cc)
some_more (suc n) e = omega arith

pub returns-clause-draft : goal.returns-clause-draft
returns-clause-draft g c = λ next last ps below d.
    let e = c.in_ok-tree.ensures in
    let more = some_more (length c.in-Some.others.now) (sym c.is_empty.ensures ∙ c.if-is_empty.false) in
    let pass = c.requires.pass (omega (arith, more, ap length c.in-Some.ensures.cases.0)) in
    draft_scan c.args.large next last c.args.piece.now c.args.self c.in_ok-tree.tree c.put_all_watched.new.watches ps below d pass.room e.logged e.numbers e.balance e.watched

pub returns-clause-drafted : goal.returns-clause-drafted
returns-clause-drafted g c =
    let e = c.in_ok-tree.ensures in
    let more = some_more (length c.in-Some.others.now) (sym c.is_empty.ensures ∙ c.if-is_empty.false) in
    let pass = c.requires.pass (omega (arith, more, ap length c.in-Some.ensures.cases.0)) in
    worked_scan (length c.args.piece.now) c.args.self c.in_ok-tree.tree c.put_all_watched.new.watches pass.many e.levels e.nodes c.put_all_watched.ensures.begins c.put_all_watched.ensures.few
