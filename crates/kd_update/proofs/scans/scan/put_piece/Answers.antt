use Rattle.std.proofs.Common.{◌∙◌, List, sym, subst, arith}
use Rattle.map_items.specs.declared.item.Item.{Item}
use Rattle.kd_update.specs.Scan.{IsGrown, IsPiece, IsPut}
use Rattle.kd_mark.proofs.Results.{ok_both}
use Rattle.kd_update.proofs.Joins.{join_grown, join_piece}
use Rattle.kd_update.proofs.scans.scan.put_piece.Goals as goal

pub put_at_once-requires : goal.put_at_once-requires
put_at_once-requires g c =
    let is = c.args.items.now in
    let same = sym (c.as_mut_slice-items.ensures.value ∙ c.in_ok-items.ensures.items) in
    subst (λ (xs : List Item). IsPiece c.args.large c.args.tree xs) same
    (join_piece c.args.large c.args.tree is c.requires.fit c.requires.small c.requires.short (omega arith) (omega arith))

pub returns : goal.returns
returns g c =
    let s = c.args.tree in
    let is = c.args.items.now in
    let same = c.as_mut_slice-items.ensures.value ∙ c.in_ok-items.ensures.items in
    ok_both c.put_at_once.result _ _ (λ t. IsPut c.args.large s is t)
    (λ t k balanced. join_grown c.args.large s t is c.requires.fit (subst (λ (xs : List Item). IsGrown s xs t) same k) balanced) c.put_at_once.ensures.grown c.put_at_once.ensures.balance
