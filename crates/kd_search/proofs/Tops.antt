-- The remaining items of a tree are its top's item, unless that is dropped, and both children.
use Rattle.std.proofs.Common.{◌≡◌, ◌≤ℤ◌, ℕ, ◌≤◌, [], ◌∷◌, ◌++◌, List, subst, sym, ap, ◌∙◌, inl, inr}
use Rattle.point_geom.specs.Place.{Place}
use Rattle.point_geom.specs.Axes.{on}
use Rattle.point_geom.specs.Distances.{dist2, gap2}
use Rattle.node_labels.specs.Labels.{composed}
use Rattle.node_labels.specs.declared.tag.Tag.{Tag}
use Rattle.map_items.specs.declared.item.Item.{Item}
use Rattle.map_items.specs.Contents.{kept, relabelled}
use Rattle.kd_tree.specs.Shape.{Head, Shape, fork}
use Rattle.kd_tree.specs.Walk.{walk}
use Rattle.kd_tree.specs.Sound.{IsSound}
use Rattle.kd_tree.specs.declared.look.Top.{Top}
use Rattle.kd_tree.proofs.Actions.{AllKept-composed}
use Rattle.kd_tree.proofs.Left.{all_left}
use Rattle.kd_search.specs.Points.{AreBelow, AreAbove, AreAway}
use Rattle.kd_search.specs.Sides.{AreSidesOf, IsEitherWay}
use Rattle.kd_search.specs.declared.sides.Sides.{Sides}
use Rattle.kd_search.proofs.Planes.{axis_gap, away_below, away_above}

-- the left child's aren't above the top's plane
pub left_below : (h : Head) (pending : Tag) (t l r : Shape) → t ≡ fork h l r → IsSound t → AreBelow h.axis h.item.point (walk (composed h.pending pending) l)
left_below h pending t l r e s =
    let sound = subst IsSound e s in
    let P : Place → Type 0 = λ x. on h.axis x ≤ℤ on h.axis h.item.point in
    all_left P _ l (AllKept-composed P h.pending pending l sound.0.below)

-- and the right child's aren't below it
pub right_above : (h : Head) (pending : Tag) (t l r : Shape) → t ≡ fork h l r → IsSound t → AreAbove h.axis h.item.point (walk (composed h.pending pending) r)
right_above h pending t l r e s =
    let sound = subst IsSound e s in
    let P : Place → Type 0 = λ x. on h.axis h.item.point ≤ℤ on h.axis x in
    all_left P _ r (AllKept-composed P h.pending pending r sound.0.above)

-- the top's item, which the gap is crossed to, and both children, the farther of which it is crossed to
pub record IsSplit (m : List Item) (q : Place) (gap : ℕ) (i : Item) (one other : List Item) : Type 0 where
  pub children : List Item
  pub items : m ≡ kept (i ∷ []) ++ children
  pub turned : IsEitherWay children one other
  pub item : gap ≤ dist2 q i.point
  pub far : AreAway gap q other

split_pending : (t : Shape) (pending : Tag) (top : Top) (q : Place) (s : Sides)
    → t ≡ fork (record { item = top.item; axis = top.axis; pending = top.pending }) top.left.now top.right.now
    → IsSound t → AreSidesOf top q s
    → IsSplit (walk pending t) q s.gap (relabelled pending top.item) (walk (composed top.pending pending) s.near.now) (walk (composed top.pending pending) s.far.now)
split_pending t pending top q s e sound is =
    let h : Head = record { item = top.item; axis = top.axis; pending = top.pending } in
    let p = top.item.point in
    let below = composed top.pending pending in
    let left = top.left.now in
    let right = top.right.now in
    let own : s.gap ≤ dist2 q p = subst (λ d. d ≤ dist2 q p) (sym is.gap) (axis_gap top.axis q p) in
    elim is.children [
      | inl w ↦ record {
        children = walk below left ++ walk below right;
        items = ap (walk pending) e;
        turned = inl (ap (λ x. walk below x ++ walk below right) (sym w.near) ∙ ap (λ x. walk below s.near.now ++ walk below x) (sym w.far));
        item = own;
        far =
            subst (λ d. AreAway d q (walk below s.far.now)) (sym is.gap)
            (subst (λ x. AreAway (gap2 (on top.axis q) (on top.axis p)) q (walk below x)) (sym w.far) (away_above top.axis q p (walk below right) w.side (right_above h pending t left right e sound)));
      }
      | inr w ↦ record {
        children = walk below left ++ walk below right;
        items = ap (walk pending) e;
        turned = inr (ap (λ x. walk below x ++ walk below right) (sym w.far) ∙ ap (λ x. walk below s.far.now ++ walk below x) (sym w.near));
        item = own;
        far =
            subst (λ d. AreAway d q (walk below s.far.now)) (sym is.gap)
            (subst (λ x. AreAway (gap2 (on top.axis q) (on top.axis p)) q (walk below x)) (sym w.far) (away_below top.axis q p (walk below left) w.side (left_below h pending t left right e sound)));
      }
    ]

-- a tree round a point, with what its item is made and what is pending for its children
pub split : (t : Shape) (pending : Tag) (top : Top) (q : Place) (s : Sides) (i : Item) (below : Tag)
    → t ≡ fork (record { item = top.item; axis = top.axis; pending = top.pending }) top.left.now top.right.now
    → IsSound t → AreSidesOf top q s
    → i ≡ relabelled pending top.item → below ≡ composed top.pending pending → IsSplit (walk pending t) q s.gap i (walk below s.near.now) (walk below s.far.now)
split t pending top q s i below e sound is own under = rw (own, under) (split_pending t pending top q s e sound is)

-- `split` of a tree whose children aren't looked at by a point
pub walk_top : (t : Shape) (pending : Tag) (top : Top) (i : Item) (below : Tag) → t ≡ fork (record { item = top.item; axis = top.axis; pending = top.pending }) top.left.now top.right.now
    → i ≡ relabelled pending top.item → below ≡ composed top.pending pending → walk pending t ≡ kept (i ∷ []) ++ (walk below top.left.now ++ walk below top.right.now)
walk_top t pending top i below e own under = rw (own, under) (ap (walk pending) e)
