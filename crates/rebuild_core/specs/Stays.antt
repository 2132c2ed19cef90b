-- Parts that an update leaves where they are, and what it logs for them.
use Rattle.std.specs.Prelude.{◌+◌, ◌*◌, ◌≤◌, List, ◌++◌, length, map}
use Rattle.map_items.specs.Contents.{Member}
use Rattle.map_items.specs.Fold.{points_in}
use Rattle.map_items.specs.Ops.{Extends}
use Rattle.map_items.specs.declared.op.Op.{Op}
use Rattle.map_items.specs.declared.op.Op.TheVariants.{Mark, Put}
use Rattle.map_items.specs.declared.update.Update.{Update}
use Rattle.kd_tree.specs.Shape.{Shape, levels, nodes}
use Rattle.kd_mark.specs.Watch.{logged_mark}
use Rattle.kd_update.specs.Watch.{logged_put}
use Rattle.map_update.specs.Single.{most_ops}
use Rattle.rebuild_core.specs.Lawful.{StateAt}
use Rattle.kd_update.specs.Detached.{PartAt}
use Rattle.kd_tree.specs.declared.limits.TheConstants.{MAX_LEVELS, MAX_NODES}
use Rattle.op_logger.specs.declared.log.TheConstants.{MAX_LOGGED}

-- The update finds no full tree before a point that it puts, so that the tree isn't rebuilt for its bounds.
pub record HasTreeRoom (u : Update) (s : StateAt) : Type 0 where
  pub low : levels s.tree + points_in u ≤ MAX_LEVELS
  pub few : nodes s.tree + points_in u ≤ MAX_NODES

-- the part's own log has room for two operations for each of the update
abbrev pub HasOwnRoom : Update → PartAt → Type 0
HasOwnRoom u p = length p.log + 2 * most_ops u ≤ MAX_LOGGED

-- The part is one of these, with a log that begins with what it was.
pub record StaysAmong (p : PartAt) (ps : List PartAt) : Type 0 where
  pub log : List Op
  pub there : Member (record p { log = log }) ps
  pub begins : Extends p.log log

-- the parts, each with what the operation is to it at the end of its log
abbrev pub logged_by : Op → Shape → List PartAt → List PartAt
logged_by (Mark c a) t ps = map (λ (p : PartAt). record p { log = p.log ++ logged_mark c a p.path t }) ps
logged_by (Put n x) t ps = map (λ (p : PartAt). record p { log = p.log ++ logged_put n x p.path t }) ps
