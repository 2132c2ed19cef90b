-- Trees on which an update is at work, beside watched subtrees.
use Rattle.std.specs.Prelude.{◌≡◌, ℕ, ◌+◌, ◌*◌, ◌<◌, ◌≤◌, List, length, All, Result, IfOk}
use Rattle.map_items.specs.Contents.{Member}
use Rattle.map_items.specs.declared.memory.NoMemory.{NoMemory}
use Rattle.map_items.specs.declared.op.Op.{Op}
use Rattle.map_items.specs.declared.op.Op.TheVariants.{Mark, Put}
use Rattle.kd_tree.specs.Shape.{Shape, levels, nodes, numbers}
use Rattle.kd_mark.specs.declared.watch.Watch.{Watch}
use Rattle.kd_mark.specs.Several.{IsBalancedClear}
use Rattle.kd_mark.specs.Watches.{HaveRoom, paths_in, with_marks}
use Rattle.kd_update.specs.Watches.{with_puts}
use Rattle.kd_update.specs.Detached.{AreLawfulParts, AreLeft, PartAt, paths, watches_of}
use Rattle.map_update.specs.Single.{RebuildsNothing, entered_nodes, unrebuilt}
use Rattle.map_update.specs.declared.draft.Draft.{Draft}
use Rattle.kd_tree.specs.declared.limits.TheConstants.{MAX_LEVELS, MAX_NODES}
use Rattle.op_logger.specs.declared.log.TheConstants.{MAX_LOGGED}

-- The draft watches these parts: they are lawful in its tree, which is balanced outside them, and each number is below the next one.
pub record IsDraft (large next last : ℕ) (ps : List PartAt) (w : Draft) : Type 0 where
  pub watched : w.watches ≡ watches_of ps
  pub parts : AreLawfulParts large next last w.tree ps
  pub balanced : IsBalancedClear large (paths ps) w.tree
  pub below : All (λ n. n < next) (numbers w.tree)

-- it watches some parts
abbrev pub IsLawfulDraft : ℕ → ℕ → Draft → Type 0
IsLawfulDraft large next w = (last : ℕ) × (ps : List PartAt) × IsDraft large next last ps w

-- it watches what is left of these parts
abbrev pub IsDraftLeft : ℕ → ℕ → ℕ → List PartAt → Draft → Type 0
IsDraftLeft large next last ps w = (qs : List PartAt) × AreLeft ps qs × IsDraft large next last qs w

-- so many points may be put before the tree is full, and is rebuilt for its bounds
pub record HasRoomFor (puts : ℕ) (w : Draft) : Type 0 where
  pub low : levels w.tree + puts ≤ MAX_LEVELS
  pub few : nodes w.tree + puts ≤ MAX_NODES

-- the watch's own log has room for two operations for each of so many
abbrev pub HasLogRoomFor : ℕ → Watch → Type 0
HasLogRoomFor ops x = length x.log + 2 * ops ≤ MAX_LOGGED

-- each of the first watches whose own log has room for two operations is one of the second, as it was
abbrev pub AreSpared : List Watch → List Watch → Type 0
AreSpared vs ws = (x : Watch) → Member x vs → HasLogRoomFor 1 x → Member x ws

-- One of the watches is at the path of x, with no more than two operations more for each of so many.
pub record IsStill (ops : ℕ) (x : Watch) (ws : List Watch) : Type 0 where
  pub watch : Watch
  pub there : Member watch ws
  pub path : watch.path ≡ x.path
  pub few : length watch.log ≤ length x.log + 2 * ops

-- The second draft is the first after at most so many operations, of which so many put a point.
pub record IsDrafted (puts ops : ℕ) (v w : Draft) : Type 0 where
  pub low : levels w.tree ≤ levels v.tree + puts
  pub few : nodes w.tree ≤ nodes v.tree + puts
  -- where the tree has room, nothing is forgotten whose own log has
  pub still : HasRoomFor puts v → (x : Watch) → Member x v.watches → HasLogRoomFor ops x → IsStill ops x w.watches

-- the watches, each log with what the operation is to its subtree
abbrev pub with_op : Op → Shape → List Watch → List Watch
with_op (Mark c a) t ws = with_marks c a t ws
with_op (Put n p) t ws = with_puts n p t ws

-- the draft after the operation, where nothing is rebuilt
abbrev pub plain_draft : Op → Draft → Draft
plain_draft op w = record { tree = unrebuilt op w.tree; watches = with_op op w.tree w.watches }

-- A draft stays one, of what is left of its parts, with so many points submitted after.
abbrev pub KeepsDraft : ℕ → ℕ → ℕ → Draft → Result Draft NoMemory → Type 0
KeepsDraft large next more v done = (last : ℕ) (ps : List PartAt) → IsDraft large next last ps v → IfOk done (IsDraftLeft large more last ps)

-- Where the tree has room for so many points, what is watched stays so as long as its own log has room for so many operations,
-- whatever room the others have.
abbrev pub KeepsWatched : ℕ → ℕ → Draft → Result Draft NoMemory → Type 0
KeepsWatched puts ops v done = HasRoomFor puts v → (x : Watch) → Member x v.watches → HasLogRoomFor ops x → IfOk done (λ w. Member x.path (paths_in w.watches))

-- The operation is done, and nothing else, where it rebuilds nothing and each log has room.
abbrev pub DoesPlainly : ℕ → Op → Draft → Result Draft NoMemory → Type 0
DoesPlainly large op v done = HaveRoom v.watches → RebuildsNothing large op v.tree → IfOk done (λ w. w ≡ plain_draft op v)

-- Then it makes at most so many nodes: the counter rises from the one number to the other.
abbrev pub MakesFew : ℕ → Op → Draft → ℕ → ℕ → Type 0
MakesFew large op v before after = HaveRoom v.watches → RebuildsNothing large op v.tree → after ≤ before + (5 * entered_nodes op v.tree + 1)
