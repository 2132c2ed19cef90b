use Rattle.std.proofs.Common.{◌≡◌, ◌∙◌, ◌<◌, ◌≤◌, List, [], ◌∷◌, ◌++◌, false, arith, length, subst, sym}
use Rattle.std.specs.List.{AllByRecursion}
use Rattle.std.proofs.lemmas.List.Elements.{recursion_from_All}
use Rattle.node_labels.specs.Labels.{is_dropped, keep_tag}
use Rattle.map_items.specs.declared.item.Item.{Item}
use Rattle.map_items.specs.Contents.{AreContents, live_at}
use Rattle.map_items.proofs.Numbered.{contents_length, contents_push}
use Rattle.kd_tree.specs.Shape.{Shape}
use Rattle.kd_tree.specs.Walk.{walk}
use Rattle.kd_tree.specs.Sound.{IsSound}
use Rattle.kd_tree.specs.Contents.{AreDistinct, contents}
use Rattle.kd_tree.proofs.Held.{are_contents_of, are_distinct, contents_kept, contents_rising}
use Rattle.kd_update.proofs.Joins.{contents_size, walk_distinct}
use Rattle.base_tests.proofs.tests.scratches.Tools.with_hundredth.Goals as goal

-- the contents are those of a map whose next number is 100
below : (t : Shape) → IsSound t → AllByRecursion (λ i. i.number < 100) (contents t) → AreContents 0 100 (contents t)
below t sound all = are_contents_of 0 100 (contents t) (contents_rising t sound) all (recursion_from_All (λ (i : Item). is_dropped i.label ≡ false) (contents t) (contents_kept t))

joins : (t : Shape) (i : Item) → AreContents 0 100 (contents t) → i ≡ live_at 100 i.point → AreDistinct (walk keep_tag t ++ i ∷ [])
joins t i fit e =
    let pushed = contents_push 0 100 (contents t) i.point (omega arith) fit in
    walk_distinct t (i ∷ []) (are_distinct 0 101 (contents t ++ i ∷ []) (subst (λ (j : Item). AreContents 0 101 (contents t ++ j ∷ [])) (sym e) pushed))

few : (t : Shape) → AreContents 0 100 (contents t) → length (walk keep_tag t) ≤ 100
few t fit = omega (arith, contents_length 0 100 (contents t) (omega arith) fit, contents_size t)

pub rebuilt_with-requires-clause-distinct : goal.rebuilt_with-requires-clause-distinct
rebuilt_with-requires-clause-distinct g c =
    let all = subst (λ (xs : List Item). AllByRecursion (λ (i : Item). i.number < 100) xs) (c.as_slice.ensures ∙ c.in_ok-items.ensures) (c.all_below.ensures c.if-not-all_below.false) in
    joins c.args.tree c.item.result (below c.args.tree c.size-size.ensures.sound all) c.item.ensures.live

pub rebuilt_with-requires-clause-few : goal.rebuilt_with-requires-clause-few
rebuilt_with-requires-clause-few g c =
    let all = subst (λ (xs : List Item). AllByRecursion (λ (i : Item). i.number < 100) xs) (c.as_slice.ensures ∙ c.in_ok-items.ensures) (c.all_below.ensures c.if-not-all_below.false) in
    omega (arith, few c.args.tree (below c.args.tree c.size-size.ensures.sound all))
