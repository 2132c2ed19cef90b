use Rattle.std.proofs.Common.{◌≡◌, ◌∷◌, ◌++◌, ◌-◌, ◌/◌, List, IsPermutation, length, false, refl, rules}
use Rattle.std.specs.Prelude.{All}
use Rattle.std.proofs.lemmas.Fn.{always_returns_same}
use Rattle.point_geom.specs.declared.axis.Axis.{Axis}
use Rattle.point_geom.specs.declared.axis.Axis.TheVariants.{X, Y, Z}
use Rattle.node_labels.specs.Labels.{keep_tag}
use Rattle.map_items.specs.declared.item.Item.{Item}
use Rattle.kd_tree.specs.Build.{IsSplit, key_of, precedes, widest}
use Rattle.kd_tree.proofs.build.halves.Goals as goal

-- parts that were searched by the coordinate on the axis k, which is the widest
split_on : (k a : Axis) (xs f : List Item) (x : Item) (b : List Item) → a ≡ k → a ≡ widest xs
    → IsPermutation xs (f ++ x ∷ b) → length f ≡ (length xs - 1) / 2
    → All (λ i. precedes k x i ≡ false) f × All (λ i. precedes k i x ≡ false) b
    → IsSplit xs (record { item = x; axis = a; pending = keep_tag }) f b
split_on k a xs f x b e w same half around = record {
  axis = w;
  same = same;
  half = half;
  before = rw e around.0;
  after = rw e around.1;
  pending = refl;
}

pub returns-in-X : goal.returns-in-X
returns-in-X c =
    let s = c.select_nth_unstable_by_key.ensures in
    split_on X _ _ _ _ _ c.in-X.is c.requires.axis s.permutation s.front_len (s.partitioned (key_of X) (always_returns_same _ _ _ (λ a r g h. search rules)))

pub returns-in-Y : goal.returns-in-Y
returns-in-Y c =
    let s = c.select_nth_unstable_by_key-in-Y.ensures in
    split_on Y _ _ _ _ _ c.in-Y.is c.requires.axis s.permutation s.front_len (s.partitioned (key_of Y) (always_returns_same _ _ _ (λ a r g h. search rules)))

pub returns-in-Z : goal.returns-in-Z
returns-in-Z c =
    let s = c.select_nth_unstable_by_key-in-Z.ensures in
    split_on Z _ _ _ _ _ c.in-Z.is c.requires.axis s.permutation s.front_len (s.partitioned (key_of Z) (always_returns_same _ _ _ (λ a r g h. search rules)))
