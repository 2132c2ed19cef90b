-- What a scan that is put does to the subtree at a path, as operations on that subtree's own items.
use Rattle.std.specs.Prelude.{◌≡◌, ℕ, ◌+◌, ◌≤◌, List, [], ◌∷◌, ◌++◌, length, filter}
use Rattle.point_geom.specs.Place.{Place}
use Rattle.point_geom.specs.declared.axis.Axis.{Axis}
use Rattle.map_items.specs.declared.item.Item.{Item}
use Rattle.map_items.specs.declared.op.Op.{Op}
use Rattle.map_items.specs.declared.op.Op.TheVariants.{Put}
use Rattle.kd_tree.specs.Shape.{Shape, leaf, fork, nodes}
use Rattle.kd_tree.specs.Walk.{tagged}
use Rattle.kd_tree.specs.declared.path.Side.{Side}
use Rattle.kd_tree.specs.Parts.{child}
use Rattle.kd_mark.specs.declared.watch.Watch.{Watch}
use Rattle.kd_update.specs.Put.{goes_left}
use Rattle.kd_update.specs.Scan.{IsGrown}
use Rattle.kd_mark.specs.Several.{IsBalancedClear}
use Rattle.kd_mark.specs.Watch.{handed}
use Rattle.kd_update.specs.Watch.{goes_to}
use Rattle.op_logger.specs.declared.log.TheConstants.{MAX_LOGGED}

-- the items put one after the other, as operations
abbrev pub puts_of : List Item → List Op
puts_of [] = []
puts_of (i ∷ is) = Put i.number i.point ∷ puts_of is

-- those that go to this side of a node at q with this axis, in their order
abbrev pub going : Side → Axis → Place → List Item → List Item
going side axis q is = filter (λ i. goes_to side (goes_left axis i.point q)) is

-- What is logged of items that are put, for the subtree at the path. Where at least one meets each node above, it is the action that
-- the last of these has pending for the watched root, once, and then each item whose route goes on to the root.
abbrev pub logged_scan : List Side → List Item → Shape → List Op
logged_scan [] is t = puts_of is
logged_scan (side ∷ path) [] t = []
logged_scan (side ∷ path) (i ∷ is) leaf = []
logged_scan (side ∷ path) (i ∷ is) (fork h l r) = handed path h.pending ++ logged_scan path (going side h.axis h.item.point (i ∷ is)) (tagged h.pending (child side l r))

-- The second tree has what remains of the first and the items, and no node of the first is gone.
pub record IsWholeGrown (s : Shape) (is : List Item) (t : Shape) : Type 0 where
  pub grown : IsGrown s is t
  pub many : nodes s + length is ≤ nodes t

-- The new tree is the old one with the items, where those that come to the path's subtree are put and no node of it is gone, and
-- where none comes nothing is changed.
abbrev pub IsMet : List Side → List Item → Shape → Shape → Type 0
IsMet [] is s t = IsWholeGrown s is t
IsMet (side ∷ path) [] s t = s ≡ t
IsMet (side ∷ path) (i ∷ is) leaf t = ⊥
IsMet (side ∷ path) (i ∷ is) (fork h l r) leaf = ⊥
IsMet (side ∷ path) (i ∷ is) (fork h l r) (fork g l' r') = IsMet path (going side h.axis h.item.point (i ∷ is)) (tagged h.pending (child side l r)) (child side l' r')

-- `IsMet` for the subtree at each of the paths
abbrev pub AreMet : List (List Side) → List Item → Shape → Shape → Type 0
AreMet [] is s t = Unit {0}
AreMet (p ∷ ps) is s t = IsMet p is s t × AreMet ps is s t

-- The new tree is the old one with the items, some subtrees rebuilt, none of them above a path, at its end or below it.
pub record IsCrossed (large : ℕ) (ps : List (List Side)) (s : Shape) (is : List Item) (t : Shape) : Type 0 where
  pub grown : IsGrown s is t
  pub met : AreMet ps is s t
  pub balance : IsBalancedClear large ps s → IsBalancedClear large ps t

-- Each log has room for the items and two operations more. So, done one by one, none of them would find a log without room for two.
abbrev pub HaveRoomAtOnce : ℕ → List Watch → Type 0
HaveRoomAtOnce n [] = Unit {0}
HaveRoomAtOnce n (w ∷ ws) = (length w.log + n + 2 ≤ MAX_LOGGED) × HaveRoomAtOnce n ws

-- the watches, each log with what the items do to its subtree
abbrev pub with_scan : List Item → Shape → List Watch → List Watch
with_scan is t [] = []
with_scan is t (w ∷ ws) = record w { log = w.log ++ logged_scan w.path is t } ∷ with_scan is t ws
