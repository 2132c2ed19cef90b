use Rattle.std.proofs.Common.{◌≡◌, ◌∙◌, sym, subst, arith, List, refl}
use Rattle.std.specs.Prelude.{IfOk}
use Rattle.std.proofs.lemmas.Bool.{eqb-true}
use Rattle.std.proofs.lemmas.List.{nil_from_length}
use Rattle.std.proofs.lemmas.Result.{IfOk-weaker}
use Rattle.point_geom.specs.declared.axis.Axis.TheVariants.{X}
use Rattle.kd_tree.specs.declared.path.Side.{Side}
use Rattle.kd_update.specs.Put.{RebuildsNoneOnRoute, put_shape}
use Rattle.kd_mark.specs.Several.{AreLargeAt, AreWatched, IsUpdatedClear}
use Rattle.kd_mark.specs.Watch.{IsWatched}
use Rattle.kd_update.specs.Watch.{logged_put}
use Rattle.kd_mark.specs.declared.watch.Watch.{Watch}
use Rattle.kd_mark.specs.Watches.{paths_in}
use Rattle.kd_update.specs.Watches.{with_puts}
use Rattle.kd_mark.specs.Ways.{paths_of}
use Rattle.kd_update.proofs.Route.{put_contents, put_numbers}
use Rattle.kd_mark.proofs.ManyLogs.{extended_itself, more_itself, watched_before}
use Rattle.kd_mark.proofs.Several.{large_all_same}
use Rattle.kd_mark.proofs.Several.{balanced_unwatched}
use Rattle.kd_update.proofs.Several.{all_watched-put, large_all_put}
use Rattle.kd_update.proofs.watching.insert_watched.put_watched.Goals as goal
use Rattle.kd_update.proofs.watching.insert_watched.put_watched.Goals.{After-of-ways, After-put_below}

-- the ways are the paths of the watches
ways : (g : _) (c : After-of-ways g) → paths_of c.of-ways.result ≡ paths_in c.args.watches.now
ways g c = watched_before _ _ _ _ c.of-ways.ensures c.as_slice.ensures.value c.log_puts.ensures.begins

updated : (g : _) (c : After-put_below g) → let plain = put_shape c.args.number c.args.point c.args.tree in
    IfOk c.put_below.result (λ t. IsUpdatedClear c.args.large (paths_in c.args.watches.now) c.args.tree plain (RebuildsNoneOnRoute c.args.large c.args.point plain) t)
updated g c =
    let plain = put_shape c.args.number c.args.point c.args.tree in
    subst (λ (ps : List (List Side)). IfOk c.put_below.result (λ t. IsUpdatedClear c.args.large ps c.args.tree plain
    (RebuildsNoneOnRoute c.args.large c.args.point plain) t))
    (watched_before _ _ _ _ c.of-ways.ensures c.as_slice.ensures.value c.log_puts.ensures.begins)
    (rw c.live-item.ensures at c.put_below.ensures.updated)

pub put_below-requires-clause-there : goal.put_below-requires-clause-there
put_below-requires-clause-there g c =
    subst (λ (ps : List (List Side)). AreLargeAt c.args.large ps c.args.tree)
    (sym (ways g (goal.at.put_below-requires-clause-there g c).After-of-ways)) c.requires.there

pub returns-clause-contents : goal.returns-clause-contents
returns-clause-contents g c =
    IfOk-weaker c.put_below.result _ _
    (λ t u. put_contents _ _ _ _ t c.size-size.ensures.sound c.requires.new u.refresh)
    (updated g (goal.at.returns-clause-contents g c).After-put_below)

pub returns-clause-numbers : goal.returns-clause-numbers
returns-clause-numbers g c = IfOk-weaker c.put_below.result _ _ (λ t u. put_numbers _ _ _ _ t u.refresh) (updated g (goal.at.returns-clause-numbers g c).After-put_below)

pub returns-clause-there : goal.returns-clause-there
returns-clause-there g c =
    IfOk-weaker c.put_below.result _ _ (λ t u. large_all_same _ _ _ t u.same (large_all_put _ _ _ X _ _
    c.size-size.ensures.sound c.requires.new (omega (arith, c.requires.few)) c.requires.there))
    (updated g (goal.at.returns-clause-there g c).After-put_below)

pub returns-clause-watched : goal.returns-clause-watched
returns-clause-watched g c =
    IfOk-weaker c.put_below.result _ _ (λ t u. all_watched-put _ _ _ X _ _ t c.size-size.ensures.sound c.requires.new
    (omega (arith, c.requires.few)) c.requires.there u.same)
    (updated g (goal.at.returns-clause-watched g c).After-put_below)

pub returns-clause-balance : goal.returns-clause-balance
returns-clause-balance g c = λ balanced. IfOk-weaker c.put_below.result _ _ (λ t u. u.balance balanced) (updated g (goal.at.returns-clause-balance g c).After-put_below)

pub returns-then-is_empty-clause-balance : goal.returns-then-is_empty-clause-balance
returns-then-is_empty-clause-balance g c = λ balanced.
    let none = sym c.is_empty.ensures ∙ c.if-is_empty.true in
    let large = c.args.large in
    IfOk-weaker c.put.result _ _ (λ t. (balanced_unwatched large _ t none).1) (c.put.ensures.balance ((balanced_unwatched large _ c.args.tree none).0 balanced))

pub returns-then-is_empty-clause-there : goal.returns-then-is_empty-clause-there
returns-then-is_empty-clause-there g c =
    let none = nil_from_length c.args.watches.now (eqb-true _ 0 (sym c.is_empty.ensures ∙ c.if-is_empty.true)) in
    IfOk-weaker c.put.result _ _ (λ t _. subst (λ (ws : List Watch). AreLargeAt c.args.large (paths_in ws) t) (sym none) tt) c.put.ensures.contents

pub returns-then-is_empty-clause-begins : goal.returns-then-is_empty-clause-begins
returns-then-is_empty-clause-begins g c = extended_itself c.args.watches.now

pub returns-then-is_empty-clause-few : goal.returns-then-is_empty-clause-few
returns-then-is_empty-clause-few g c = more_itself 2 c.args.watches.now

pub returns-then-is_empty-clause-logged : goal.returns-then-is_empty-clause-logged
returns-then-is_empty-clause-logged g c =
    let none = nil_from_length c.args.watches.now (eqb-true _ 0 (sym c.is_empty.ensures ∙ c.if-is_empty.true)) in
    IfOk-weaker c.put.result _ _ (λ t _. subst (λ (ws : List Watch). ws ≡ with_puts c.args.number c.args.point c.args.tree ws) (sym none) refl) c.put.ensures.contents

pub returns-then-is_empty-clause-watched : goal.returns-then-is_empty-clause-watched
returns-then-is_empty-clause-watched g c =
    let none = nil_from_length c.args.watches.now (eqb-true _ 0 (sym c.is_empty.ensures ∙ c.if-is_empty.true)) in
    IfOk-weaker c.put.result _ _ (λ t _. subst (λ (ws : List Watch). AreWatched
    (λ p. IsWatched p c.args.tree t (logged_put c.args.number c.args.point p c.args.tree)) (paths_in ws))
    (sym none) tt) c.put.ensures.contents

pub returns-clause-refresh : goal.returns-clause-refresh
returns-clause-refresh g c = IfOk-weaker c.put_below.result _ _ (λ t u. u.refresh) (updated g (goal.at.returns-clause-refresh g c).After-put_below)

pub returns-clause-unrebuilt : goal.returns-clause-unrebuilt
returns-clause-unrebuilt g c = λ calm. IfOk-weaker c.put_below.result _ _ (λ t u. u.unrebuilt calm) (updated g (goal.at.returns-clause-unrebuilt g c).After-put_below)

pub returns-clause-nodes_made : goal.returns-clause-nodes_made
returns-clause-nodes_made g c = λ calm. let few = rw c.live-item.ensures at c.put_below.ensures.nodes_made in omega (arith, few calm)

pub put-requires-clause-low : goal.put-requires-clause-low
put-requires-clause-low g c = c.requires.low

pub put-requires-clause-few : goal.put-requires-clause-few
put-requires-clause-few g c = c.requires.few

pub put-requires-clause-new : goal.put-requires-clause-new
put-requires-clause-new g c = c.requires.new

pub returns-then-is_empty-clause-contents : goal.returns-then-is_empty-clause-contents
returns-then-is_empty-clause-contents g c = c.put.ensures.contents

pub returns-then-is_empty-clause-numbers : goal.returns-then-is_empty-clause-numbers
returns-then-is_empty-clause-numbers g c = c.put.ensures.numbers

pub returns-then-is_empty-clause-refresh : goal.returns-then-is_empty-clause-refresh
returns-then-is_empty-clause-refresh g c = c.put.ensures.refresh

pub returns-then-is_empty-clause-unrebuilt : goal.returns-then-is_empty-clause-unrebuilt
returns-then-is_empty-clause-unrebuilt g c = c.put.ensures.unrebuilt

pub returns-then-is_empty-clause-nodes_made : goal.returns-then-is_empty-clause-nodes_made
returns-then-is_empty-clause-nodes_made g c = c.put.ensures.nodes_made

pub log_puts-requires : goal.log_puts-requires
log_puts-requires g c = c.requires.room

pub returns-in_err-log_puts-clause-begins : goal.returns-in_err-log_puts-clause-begins
returns-in_err-log_puts-clause-begins g c = c.log_puts.ensures.begins

pub returns-in_err-log_puts-clause-few : goal.returns-in_err-log_puts-clause-few
returns-in_err-log_puts-clause-few g c = c.log_puts.ensures.few

pub returns-in_err-log_puts-clause-nodes_made : goal.returns-in_err-log_puts-clause-nodes_made
returns-in_err-log_puts-clause-nodes_made g c = λ calm. omega arith

pub put_below-requires-clause-live : goal.put_below-requires-clause-live
put_below-requires-clause-live g c = rw c.live-item.ensures refl

pub put_below-requires-clause-low : goal.put_below-requires-clause-low
put_below-requires-clause-low g c = c.requires.low

pub put_below-requires-clause-few : goal.put_below-requires-clause-few
put_below-requires-clause-few g c = c.requires.few

pub put_below-requires-clause-new : goal.put_below-requires-clause-new
put_below-requires-clause-new g c = rw c.live-item.ensures c.requires.new

pub returns-clause-begins : goal.returns-clause-begins
returns-clause-begins g c = c.log_puts.ensures.begins

pub returns-clause-few : goal.returns-clause-few
returns-clause-few g c = c.log_puts.ensures.few

pub returns-clause-logged : goal.returns-clause-logged
returns-clause-logged g c = IfOk-weaker c.put_below.result _ _ (λ t u. c.in_ok-log_puts.ensures.logged) c.put_below.ensures.updated
