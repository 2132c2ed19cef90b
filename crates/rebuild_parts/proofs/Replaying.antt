-- Values that are built of items, and on which operations are done.
use Rattle.std.proofs.Common.{◌≡◌, ℕ, ◌≤◌, List, [], ◌∷◌, ◌++◌, map, ap, sym, ◌∙◌, subst, inl, inr, arith}
use Rattle.std.specs.Prelude.{IsPermutation, ◌==◌}
use Rattle.std.proofs.lemmas.List.Elements.{Contains-append_cases, Contains-append_left, Contains-append_right}
use Rattle.std.proofs.lemmas.List.Sorted.{Contains-permutation, IsPermutation-sym}
use Rattle.map_items.specs.declared.item.Item.{Item}
use Rattle.map_items.specs.declared.op.Op.{Op}
use Rattle.map_items.specs.Ops.{Fit, numbers_put, replay}
use Rattle.map_items.proofs.Replays.{fit_append, numbers_put-append, replay-append}
use Rattle.kd_tree.specs.Shape.{Shape, numbers}
use Rattle.kd_tree.specs.Contents.{contents}
use Rattle.kd_mark.specs.Refresh.{AreAmong}
use Rattle.kd_mark.proofs.Trees.{among_append, among_same}
use Rattle.rebuild_parts.specs.Built.{AreNumbersOf, BuiltAt, IsLawfulBuilt}

pub numbers_of : (items : List Item) (t : Shape) → IsPermutation (map (λ i. i.number) items) (numbers t) → AreNumbersOf items t
numbers_of items t p n k = Contains-permutation (numbers t) (map (λ (i : Item). i.number) items) n (IsPermutation-sym _ _ p) k

-- numbers of a tree after operations, among those of a tree that holds fewer
pub among_after : (ops : List Op) (new mid old : List ℕ) → AreAmong new (numbers_put ops ++ mid) → AreAmong mid old → AreAmong new (numbers_put ops ++ old)
among_after ops new mid old f g n k = among_append (numbers_put ops) (numbers_put ops) mid old (among_same (numbers_put ops)) g n (f n k)

-- with more operations done the value is lawful
pub replayed_lawful : (b : BuiltAt) (ops : List Op) (t : Shape) (large : ℕ) → IsLawfulBuilt b
    → Fit (contents b.tree) ops → contents t ≡ replay (contents b.tree) ops
    → AreAmong (numbers t) (numbers_put ops ++ numbers b.tree)
    → IsLawfulBuilt (record b { done = b.done ++ ops; tree = t; large = large })
replayed_lawful b ops t large k fit held among =
    let items = map (λ (i : Item). i.number) b.items in
    let puts : numbers_put (b.done ++ ops) ≡ numbers_put b.done ++ numbers_put ops = numbers_put-append b.done ops in
    record {
      fit = fit_append b.items b.done ops k.fit (subst (λ m. Fit m ops) k.replayed fit);
      replayed = held ∙ ap (λ m. replay m ops) k.replayed ∙ sym (replay-append b.items b.done ops);
      numbers = subst (λ ns. AreAmong (numbers t) (ns ++ items)) (sym puts)
          (λ n c. elim (Contains-append_cases (numbers_put ops) (numbers b.tree) n (among n c)) [
            | inl u ↦ Contains-append_left (numbers_put b.done ++ numbers_put ops) items n (Contains-append_right (numbers_put b.done) (numbers_put ops) n u)
            | inr v ↦ elim (Contains-append_cases (numbers_put b.done) items n (k.numbers n v)) [
              | inl u ↦ Contains-append_left (numbers_put b.done ++ numbers_put ops) items n (Contains-append_left (numbers_put b.done) (numbers_put ops) n u)
              | inr u ↦ Contains-append_right (numbers_put b.done ++ numbers_put ops) items n u
            ]
          ]);
    }
