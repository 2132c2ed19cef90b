use Rattle.std.proofs.Common.{[], ◌∷◌, add-zero, arith, subst, sym}
use Rattle.std.proofs.lemmas.Result.{IfOk-weaker}
use Rattle.map_items.specs.Fold.{points_in}
use Rattle.map_items.specs.declared.update.Update.{Update}
use Rattle.map_update.specs.Draft.{IsLawfulDraft, KeepsWatched}
use Rattle.map_update.specs.Single.{most_ops}
use Rattle.map_update.proofs.OnePoint.{add_not_thin, delete_not_thin, points_one, restore_not_thin, suspend_not_thin}
use Rattle.map_update.proofs.Drafted.{worked_kept}
use Rattle.map_update.proofs.update.changed.Goals as goal

pub added-requires-clause-draft : goal.added-requires-clause-draft
added-requires-clause-draft g c = subst (λ n. IsLawfulDraft n c.args.next c.args.draft) (sym c.large-large.ensures.value) c.requires.draft

pub returns-in-Add : goal.returns-in-Add
returns-in-Add g c =
    rw c.in-Add.is
    (record {
      stepped = c.added.ensures.stepped;
      draft = rw c.large-large.ensures.value at c.added.ensures.draft;
      kept = c.added.ensures.kept;
      unrebuilt = rw c.large-large.ensures.value at c.added.ensures.unrebuilt;
      nodes_made = rw c.large-large.ensures.value at c.added.ensures.nodes_made;
      rejected = λ p one. absurd (add_not_thin c.in-Add.points (p ∷ []) one);
      no_nodes_made = λ p one. absurd (add_not_thin c.in-Add.points (p ∷ []) one);
    })

pub returns-in-Delete : goal.returns-in-Delete
returns-in-Delete g c =
    rw (c.in-Delete.is, add-zero)
    (record {
      stepped = c.marked_each.ensures.stepped;
      draft = rw c.large-large.ensures.value at c.marked_each.ensures.draft;
      kept = c.marked_each.ensures.kept;
      unrebuilt = rw c.large-large.ensures.value at c.marked_each.ensures.unrebuilt;
      nodes_made = rw c.large-large.ensures.value at c.marked_each.ensures.nodes_made;
      rejected = λ p one. absurd (delete_not_thin c.in-Delete.boxes (p ∷ []) one);
      no_nodes_made = λ p one. absurd (delete_not_thin c.in-Delete.boxes (p ∷ []) one);
    })

pub returns-in-Suspend : goal.returns-in-Suspend
returns-in-Suspend g c =
    rw (c.in-Suspend.is, add-zero)
    (record {
      stepped = c.marked_each-in-Suspend.ensures.stepped;
      draft = rw c.large-large.ensures.value at c.marked_each-in-Suspend.ensures.draft;
      kept = c.marked_each-in-Suspend.ensures.kept;
      unrebuilt = rw c.large-large.ensures.value at c.marked_each-in-Suspend.ensures.unrebuilt;
      nodes_made = rw c.large-large.ensures.value at c.marked_each-in-Suspend.ensures.nodes_made;
      rejected = λ p one. absurd (suspend_not_thin c.in-Suspend.boxes (p ∷ []) one);
      no_nodes_made = λ p one. absurd (suspend_not_thin c.in-Suspend.boxes (p ∷ []) one);
    })

pub returns-in-Restore : goal.returns-in-Restore
returns-in-Restore g c =
    rw (c.in-Restore.is, add-zero)
    (record {
      stepped = c.marked_each-in-Restore.ensures.stepped;
      draft = rw c.large-large.ensures.value at c.marked_each-in-Restore.ensures.draft;
      kept = c.marked_each-in-Restore.ensures.kept;
      unrebuilt = rw c.large-large.ensures.value at c.marked_each-in-Restore.ensures.unrebuilt;
      nodes_made = rw c.large-large.ensures.value at c.marked_each-in-Restore.ensures.nodes_made;
      rejected = λ p one. absurd (restore_not_thin c.in-Restore.boxes (p ∷ []) one);
      no_nodes_made = λ p one. absurd (restore_not_thin c.in-Restore.boxes (p ∷ []) one);
    })

pub returns-in-Thin-clause-rejected : goal.returns-in-Thin-clause-rejected
returns-in-Thin-clause-rejected g c = λ p one turned. c.thinned.ensures.rejected p (points_one c.in-Thin.points c.args.update.now p c.in-Thin.is one) turned

pub returns-in-Thin-clause-no_nodes_made : goal.returns-in-Thin-clause-no_nodes_made
returns-in-Thin-clause-no_nodes_made g c = λ p one turned. c.thinned.ensures.no_nodes_made p (points_one c.in-Thin.points c.args.update.now p c.in-Thin.is one) turned

pub returns-in-Expire-clause-kept : goal.returns-in-Expire-clause-kept
returns-in-Expire-clause-kept g c =
    let one : KeepsWatched 0 1 c.args.draft c.marked.result = λ room x there own.
    IfOk-weaker c.marked.result _ _ (λ w k. worked_kept 0 1 0 1 c.args.draft w (omega arith) (omega arith) k room x there own) c.marked.ensures.drafted in
    subst (λ (u : Update). KeepsWatched (points_in u) (most_ops u) c.args.draft c.marked.result) (sym c.in-Expire.is) one
