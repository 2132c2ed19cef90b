use Rattle.std.proofs.Common.{◌≡◌, ◌∙◌, ℤ, ◌-ℤ◌, [], ◌∷◌, refl, sym, subst, arith}
use Rattle.std.proofs.lemmas.Int.{ints}
use Rattle.std.proofs.lemmas.List.Elements.{All-from_recursion}
use Rattle.std.proofs.lemmas.List.Sorted.{IsPermutation-refl}
use Rattle.std.proofs.lemmas.Result.{IfOk-weaker}
use Rattle.point_geom.specs.declared.axis.Axis.TheVariants.{X}
use Rattle.node_labels.specs.Labels.{keep_tag}
use Rattle.map_items.specs.declared.item.Item.{Item}
use Rattle.kd_tree.specs.Shape.{Shape, fork, leaf}
use Rattle.kd_tree.specs.Build.{IsBuilt, greatest}
use Rattle.kd_tree.proofs.build.built_leaf.Goals as goal

-- a single place reaches nowhere, so X is as good as the others
alone : (x y z : ℤ) → greatest (x -ℤ x) (y -ℤ y) (z -ℤ z) ≡ X
alone x y z = grind (arith, ints)

of_one : (i : Item) (l r : Shape) → l ≡ leaf → r ≡ leaf → IsBuilt (i ∷ []) (fork (record { item = i; axis = X; pending = keep_tag }) l r)
of_one i l r d e = rw (d, e) (
  [],
  [],
  record {
    axis = sym (alone i.point.x i.point.y i.point.z);
    same = IsPermutation-refl _;
    half = refl;
    before = All-from_recursion _ [] tt;
    after = All-from_recursion _ [] tt;
    pending = refl;
  },
  refl,
  refl,
)

pub returns-clause-shape : goal.returns-clause-shape
returns-clause-shape g c =
    IfOk-weaker c.filled.result _ (IsBuilt (c.args.item ∷ [])) (λ t e. subst (IsBuilt (c.args.item ∷ []))
    (sym (e ∙ c.made-node.ensures.shape)) (of_one c.args.item _ _ c.empty.ensures c.empty-2.ensures))
    c.filled.ensures
