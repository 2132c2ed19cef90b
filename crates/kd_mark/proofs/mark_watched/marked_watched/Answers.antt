use Rattle.std.proofs.Common.{◌≡◌, ◌∙◌, sym, subst, arith, List, refl}
use Rattle.std.specs.Prelude.{IfOk}
use Rattle.std.proofs.lemmas.Bool.{eqb-true}
use Rattle.std.proofs.lemmas.List.{nil_from_length}
use Rattle.std.proofs.lemmas.Result.{IfOk-weaker}
use Rattle.kd_tree.specs.declared.path.Side.{Side}
use Rattle.kd_mark.specs.Mark.{RebuildsNoneEntered, marked_shape}
use Rattle.kd_mark.specs.Several.{AreLargeAt, AreWatched, IsUpdatedClear}
use Rattle.kd_mark.specs.Watch.{IsWatched, logged_mark}
use Rattle.kd_mark.specs.declared.watch.Watch.{Watch}
use Rattle.kd_mark.specs.Watches.{paths_in, with_marks}
use Rattle.kd_mark.specs.Ways.{paths_of}
use Rattle.kd_mark.proofs.InBox.{marked_contents, marked_numbers}
use Rattle.kd_mark.proofs.Made.{made_few}
use Rattle.kd_mark.proofs.ManyLogs.{extended_itself, more_itself, watched_before}
use Rattle.kd_mark.proofs.Several.{all_watched-mark, balanced_unwatched, large_all_marked, large_all_same}
use Rattle.kd_mark.proofs.mark_watched.marked_watched.Goals as goal
use Rattle.kd_mark.proofs.mark_watched.marked_watched.Goals.{After-marked_within, After-of-ways}

-- the ways are the paths of the watches
ways : (g : _) (c : After-of-ways g) → paths_of c.of-ways.result ≡ paths_in c.args.watches.now
ways g c = watched_before _ _ _ _ c.of-ways.ensures c.as_slice.ensures.value c.log_marks.ensures.begins

updated : (g : _) (c : After-marked_within g) → let plain = marked_shape c.args.choice.now c.args.tag c.args.tree in
    IfOk c.marked_within.result (λ t. IsUpdatedClear c.args.large (paths_in c.args.watches.now) c.args.tree plain (RebuildsNoneEntered c.args.large c.args.choice.now plain) t)
updated g c =
    let plain = marked_shape c.args.choice.now c.args.tag c.args.tree in
    subst (λ (ps : List (List Side)). IfOk c.marked_within.result (λ t. IsUpdatedClear c.args.large ps c.args.tree plain
    (RebuildsNoneEntered c.args.large c.args.choice.now plain) t))
    (watched_before _ _ _ _ c.of-ways.ensures c.as_slice.ensures.value c.log_marks.ensures.begins)
    c.marked_within.ensures.updated

pub marked_within-requires : goal.marked_within-requires
marked_within-requires g c = subst (λ (ps : List (List Side)). AreLargeAt c.args.large ps c.args.tree) (sym (ways g (goal.at.marked_within-requires g c).After-of-ways)) c.requires.there

pub returns-clause-contents : goal.returns-clause-contents
returns-clause-contents g c =
    IfOk-weaker c.marked_within.result _ _ (λ t u. marked_contents _ _ _ t c.size-size.ensures.sound u.refresh)
    (updated g (goal.at.returns-clause-contents g c).After-marked_within)

pub returns-clause-numbers : goal.returns-clause-numbers
returns-clause-numbers g c = IfOk-weaker c.marked_within.result _ _ (λ t u. marked_numbers _ _ _ t u.refresh) (updated g (goal.at.returns-clause-numbers g c).After-marked_within)

pub returns-clause-there : goal.returns-clause-there
returns-clause-there g c =
    IfOk-weaker c.marked_within.result _ _ (λ t u. large_all_same _ _ _ t u.same (large_all_marked _ _ _ _ _ c.requires.there)) (updated g (goal.at.returns-clause-there g c).After-marked_within)

pub returns-clause-watched : goal.returns-clause-watched
returns-clause-watched g c = IfOk-weaker c.marked_within.result _ _ (λ t u. all_watched-mark _ _ _ _ _ t c.requires.there u.same) (updated g (goal.at.returns-clause-watched g c).After-marked_within)

pub returns-clause-balance : goal.returns-clause-balance
returns-clause-balance g c = λ balanced. IfOk-weaker c.marked_within.result _ _ (λ t u. u.balance balanced) (updated g (goal.at.returns-clause-balance g c).After-marked_within)

pub returns-clause-nodes_made : goal.returns-clause-nodes_made
returns-clause-nodes_made g c = λ criteria. omega (arith, c.marked_within.ensures.nodes_made criteria, made_few c.args.choice.now c.args.tree)

pub returns-then-is_empty-clause-balance : goal.returns-then-is_empty-clause-balance
returns-then-is_empty-clause-balance g c = λ balanced.
    let none = sym c.is_empty.ensures ∙ c.if-is_empty.true in
    let large = c.args.large in
    IfOk-weaker c.marked.result _ _ (λ t. (balanced_unwatched large _ t none).1) (c.marked.ensures.balance ((balanced_unwatched large _ c.args.tree none).0 balanced))

pub returns-then-is_empty-clause-there : goal.returns-then-is_empty-clause-there
returns-then-is_empty-clause-there g c =
    let none = nil_from_length c.args.watches.now (eqb-true _ 0 (sym c.is_empty.ensures ∙ c.if-is_empty.true)) in
    IfOk-weaker c.marked.result _ _ (λ t _. subst (λ (ws : List Watch). AreLargeAt c.args.large (paths_in ws) t) (sym none) tt) c.marked.ensures.contents

pub returns-then-is_empty-clause-begins : goal.returns-then-is_empty-clause-begins
returns-then-is_empty-clause-begins g c = extended_itself c.args.watches.now

pub returns-then-is_empty-clause-few : goal.returns-then-is_empty-clause-few
returns-then-is_empty-clause-few g c = more_itself 2 c.args.watches.now

pub returns-then-is_empty-clause-logged : goal.returns-then-is_empty-clause-logged
returns-then-is_empty-clause-logged g c =
    let none = nil_from_length c.args.watches.now (eqb-true _ 0 (sym c.is_empty.ensures ∙ c.if-is_empty.true)) in
    IfOk-weaker c.marked.result _ _ (λ t _. subst (λ (ws : List Watch). ws ≡ with_marks c.args.choice.now c.args.tag c.args.tree ws) (sym none) refl) c.marked.ensures.contents

pub returns-then-is_empty-clause-watched : goal.returns-then-is_empty-clause-watched
returns-then-is_empty-clause-watched g c =
    let none = nil_from_length c.args.watches.now (eqb-true _ 0 (sym c.is_empty.ensures ∙ c.if-is_empty.true)) in
    IfOk-weaker c.marked.result _ _ (λ t _. subst (λ (ws : List Watch). AreWatched
    (λ p. IsWatched p c.args.tree t (logged_mark c.args.choice.now c.args.tag p c.args.tree)) (paths_in ws))
    (sym none) tt) c.marked.ensures.contents

pub returns-then-is_empty-clause-contents : goal.returns-then-is_empty-clause-contents
returns-then-is_empty-clause-contents g c = c.marked.ensures.contents

pub returns-then-is_empty-clause-numbers : goal.returns-then-is_empty-clause-numbers
returns-then-is_empty-clause-numbers g c = c.marked.ensures.numbers

pub returns-then-is_empty-clause-refresh : goal.returns-then-is_empty-clause-refresh
returns-then-is_empty-clause-refresh g c = c.marked.ensures.refresh

pub returns-then-is_empty-clause-unrebuilt : goal.returns-then-is_empty-clause-unrebuilt
returns-then-is_empty-clause-unrebuilt g c = c.marked.ensures.unrebuilt

pub returns-then-is_empty-clause-nodes_made : goal.returns-then-is_empty-clause-nodes_made
returns-then-is_empty-clause-nodes_made g c = c.marked.ensures.nodes_made

pub log_marks-requires : goal.log_marks-requires
log_marks-requires g c = c.requires.room

pub returns-in_err-log_marks-clause-begins : goal.returns-in_err-log_marks-clause-begins
returns-in_err-log_marks-clause-begins g c = c.log_marks.ensures.begins

pub returns-in_err-log_marks-clause-few : goal.returns-in_err-log_marks-clause-few
returns-in_err-log_marks-clause-few g c = c.log_marks.ensures.few

pub returns-in_err-log_marks-clause-nodes_made : goal.returns-in_err-log_marks-clause-nodes_made
returns-in_err-log_marks-clause-nodes_made g c = λ calm. omega arith

pub returns-clause-begins : goal.returns-clause-begins
returns-clause-begins g c = c.log_marks.ensures.begins

pub returns-clause-few : goal.returns-clause-few
returns-clause-few g c = c.log_marks.ensures.few

pub returns-clause-logged : goal.returns-clause-logged
returns-clause-logged g c = IfOk-weaker c.marked_within.result _ _ (λ t u. c.in_ok-log_marks.ensures.logged) c.marked_within.ensures.updated

pub returns-clause-refresh : goal.returns-clause-refresh
returns-clause-refresh g c = IfOk-weaker c.marked_within.result _ _ (λ t u. u.refresh) c.marked_within.ensures.updated

pub returns-clause-unrebuilt : goal.returns-clause-unrebuilt
returns-clause-unrebuilt g c = λ calm. IfOk-weaker c.marked_within.result _ _ (λ t u. u.unrebuilt calm) c.marked_within.ensures.updated
