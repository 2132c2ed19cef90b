use Rattle.std.proofs.Common.{◌≡◌, ◌∙◌, List, sym, subst}
use Rattle.std.specs.Prelude.{IfOk}
use Rattle.std.proofs.lemmas.Result.{IfOk-weaker}
use Rattle.map_items.specs.declared.item.Item.{Item}
use Rattle.kd_tree.specs.Apart.{AreAllApart}
use Rattle.kd_tree.specs.declared.path.Side.{Side}
use Rattle.kd_update.specs.Scan.{IsPiece}
use Rattle.kd_mark.specs.Several.{AreLargeAt}
use Rattle.kd_mark.specs.Watches.{paths_in}
use Rattle.kd_update.specs.Crossing.{IsCrossed}
use Rattle.kd_mark.specs.Ways.{paths_of}
use Rattle.kd_update.proofs.Crossing.{all_large_scan, all_watched_scan, piece_comes}
use Rattle.kd_update.proofs.Joins.{grown_held, grown_numbers, join_piece, walk_distinct}
use Rattle.kd_mark.proofs.ManyLogs.{watched_before}
use Rattle.kd_update.proofs.watching.scan_watched.put_all_watched.Goals as goal
use Rattle.kd_update.proofs.watching.scan_watched.put_all_watched.Goals.{After-of-ways, After-put_beside}

-- the ways are the paths of the watches, and the items are those that are asked for
ways : (g : _) (c : After-of-ways g) → paths_of c.of-ways.result ≡ paths_in c.args.watches.now
ways g c = watched_before _ _ _ _ c.of-ways.ensures c.as_slice.ensures.value c.log_scans.ensures.begins

piece : (g : _) (c : After-of-ways g) → IsPiece c.args.large c.args.tree c.args.items.now
piece g c = join_piece c.args.large c.args.tree c.args.items.now c.requires.fit c.requires.small c.requires.short c.requires.low c.requires.few

crossed : (g : _) (c : After-put_beside g) → IfOk c.put_beside.result (λ t. IsCrossed c.args.large (paths_in c.args.watches.now) c.args.tree c.args.items.now t)
crossed g c =
    subst (λ (is : List Item). IfOk c.put_beside.result (λ t. IsCrossed c.args.large (paths_in c.args.watches.now) c.args.tree is t)) (c.as_mut_slice-items.ensures.value ∙ c.in_ok-items.ensures.items)
    (subst (λ (ps : List (List Side)). IfOk c.put_beside.result
    (λ t. IsCrossed c.args.large ps c.args.tree c.as_mut_slice-items.result.now t))
    (watched_before _ _ _ _ c.of-ways.ensures c.as_slice.ensures.value c.log_scans.ensures.begins)
    c.put_beside.ensures)

pub put_beside-requires-clause-piece : goal.put_beside-requires-clause-piece
put_beside-requires-clause-piece g c =
    subst (λ (is : List Item). IsPiece c.args.large c.args.tree is)
    (sym (c.as_mut_slice-items.ensures.value ∙ c.in_ok-items.ensures.items))
    (piece g (goal.at.put_beside-requires-clause-piece g c).After-of-ways)

pub put_beside-requires-clause-there : goal.put_beside-requires-clause-there
put_beside-requires-clause-there g c =
    subst (λ (ps : List (List Side)). AreLargeAt c.args.large ps c.args.tree)
    (sym (ways g (goal.at.put_beside-requires-clause-there g c).After-of-ways)) c.requires.there

pub put_beside-requires-clause-apart : goal.put_beside-requires-clause-apart
put_beside-requires-clause-apart g c = subst AreAllApart (sym (ways g (goal.at.put_beside-requires-clause-apart g c).After-of-ways)) c.requires.apart

pub returns-clause-contents : goal.returns-clause-contents
returns-clause-contents g c =
    IfOk-weaker c.put_beside.result _ _ (λ t u. grown_held _ t _ c.requires.fit.live
    (walk_distinct c.args.tree c.args.items.now c.requires.fit.distinct) u.grown)
    (crossed g (goal.at.returns-clause-contents g c).After-put_beside)

pub returns-clause-numbers : goal.returns-clause-numbers
returns-clause-numbers g c = IfOk-weaker c.put_beside.result _ _ (λ t u. grown_numbers _ t _ u.grown) (crossed g (goal.at.returns-clause-numbers g c).After-put_beside)

pub returns-clause-nodes : goal.returns-clause-nodes
returns-clause-nodes g c = IfOk-weaker c.put_beside.result _ _ (λ t u. u.grown.few) (crossed g (goal.at.returns-clause-nodes g c).After-put_beside)

pub returns-clause-levels : goal.returns-clause-levels
returns-clause-levels g c = IfOk-weaker c.put_beside.result _ _ (λ t u. u.grown.low) (crossed g (goal.at.returns-clause-levels g c).After-put_beside)

pub returns-clause-balance : goal.returns-clause-balance
returns-clause-balance g c = λ balanced. IfOk-weaker c.put_beside.result _ _ (λ t u. u.balance balanced) (crossed g (goal.at.returns-clause-balance g c).After-put_beside)

pub returns-clause-there : goal.returns-clause-there
returns-clause-there g c =
    let k = goal.at.returns-clause-there g c in
    IfOk-weaker c.put_beside.result _ _ (λ t u. all_large_scan _ _ _ _ t c.requires.there (piece_comes _ _ _ (piece g k.After-of-ways)) u.met) (crossed g k.After-put_beside)

pub returns-clause-watched : goal.returns-clause-watched
returns-clause-watched g c =
    let k = goal.at.returns-clause-watched g c in
    IfOk-weaker c.put_beside.result _ _ (λ t u. all_watched_scan _ _ _ _ t c.requires.there (piece_comes _ _ _ (piece g k.After-of-ways)) u.met) (crossed g k.After-put_beside)
