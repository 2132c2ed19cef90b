-- Many points put into a tree at once.
use Rattle.std.specs.Prelude.{◌≡◌, ℕ, ◌+◌, ◌<◌, ◌≤◌, max, true, false, List, [], ◌∷◌, ◌++◌, length, map, take, drop, All, IsPermutation}
use Rattle.point_geom.specs.Place.{Place}
use Rattle.node_labels.specs.Labels.{keep_tag}
use Rattle.node_labels.specs.declared.label.Label.TheVariants.{Live}
use Rattle.map_items.specs.declared.item.Item.{Item}
use Rattle.map_items.specs.Contents.{live_at, put}
use Rattle.kd_tree.specs.Shape.{Shape, leaf, fork, levels, nodes, numbers}
use Rattle.kd_tree.specs.Walk.{walk}
use Rattle.kd_tree.specs.Contents.{AreDistinct, contents}
use Rattle.kd_mark.specs.Refresh.{AreAmong}
use Rattle.kd_mark.specs.Update.{IsBalancedBelow}
use Rattle.kd_update.specs.Put.{goes_left}
use Rattle.kd_tree.specs.declared.limits.TheConstants.{MAX_NODES}
use Rattle.kd_update.specs.declared.limits.TheConstants.{MAX_PASS_LEVELS}

-- the items put one after the other
abbrev pub put_each : List Item → List Item → List Item
put_each m [] = m
put_each m (i ∷ is) = put_each (put m i.number i.point) is

-- live items at the points, under the numbers from n on
abbrev pub live_from : ℕ → List Place → List Item
live_from n [] = []
live_from n (p ∷ ps) = live_at n p ∷ live_from (n + 1) ps

-- each of the items is live
abbrev pub AreLive : List Item → Type 0
AreLive is = All (λ i. i.label ≡ Live) is

-- the items' numbers, in their order
abbrev pub numbers_in : List Item → List ℕ
numbers_in is = map (λ i. i.number) is

-- The items may be put as well as those that are held: they are live, no number occurs twice, and there is room for all.
pub record MayJoin (m is : List Item) : Type 0 where
  pub live : AreLive is
  pub distinct : AreDistinct (m ++ is)
  pub room : length m + length is ≤ MAX_NODES

-- The second tree is the first with the items put: it holds them, has no other number and no more nodes, and stays balanced.
pub record IsPut (large : ℕ) (s : Shape) (is : List Item) (t : Shape) : Type 0 where
  pub held : contents t ≡ put_each (contents s) is
  pub from : AreAmong (numbers t) (numbers_in is ++ numbers s)
  pub few : nodes t ≤ nodes s + length is
  pub balanced : IsBalancedBelow large s → IsBalancedBelow large t

-- The items may be put in one pass: they are fewer than large nodes are, and the tree's bounds aren't near.
pub record IsPiece (large : ℕ) (s : Shape) (is : List Item) : Type 0 where
  pub live : AreLive is
  pub distinct : AreDistinct (walk keep_tag s ++ is)
  pub small : length is < max 2 large
  pub short : length is < MAX_NODES
  pub low : levels s ≤ MAX_PASS_LEVELS
  pub few : nodes s + length is ≤ MAX_NODES

-- The second tree has what remains of the first and the items, on no more nodes than both and on few more levels.
pub record IsGrown (s : Shape) (is : List Item) (t : Shape) : Type 0 where
  pub same : IsPermutation (walk keep_tag s ++ is) (walk keep_tag t)
  pub few : nodes t ≤ nodes s + length is
  pub low : levels t ≤ levels s + 22
  pub from : AreAmong (numbers t) (numbers s ++ numbers_in is)

-- of the items, the first n go left of the top, and the others right
abbrev pub IsParted : Shape → ℕ → List Item → Type 0
IsParted leaf n is = ⊥
IsParted (fork h l r) n is =
    (n ≤ length is)
    × All (λ i. goes_left h.axis i.point h.item.point ≡ true) (take n is)
    × All (λ i. goes_left h.axis i.point h.item.point ≡ false) (drop n is)
