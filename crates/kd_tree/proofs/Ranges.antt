-- The least and the greatest number of a tree's nodes.
use Rattle.std.proofs.Common.{◌≡◌, ℕ, ◌≤◌, min, max, inl, inr, List, [], ◌∷◌, ◌++◌, Option, Some, None, refl, ap, ◌∙◌, sym, subst, arith}
use Rattle.std.specs.Prelude.{All, Contains}
use Rattle.std.specs.List.{AllByRecursion}
use Rattle.std.proofs.Math.Nat.{min-eq_left, min-eq_right}
use Rattle.std.proofs.lemmas.Bool.{cases_lt}
use Rattle.std.proofs.lemmas.List.Elements.{All-nil, All-cons, All-append, All-weaker, All-from_recursion, Contains-push, Contains-append_left, Contains-append_right}
use Rattle.node_labels.specs.Labels.{apply, composed}
use Rattle.node_labels.specs.declared.label.Label.{Label}
use Rattle.node_labels.specs.declared.label.Label.TheVariants.{Live, Suspended, Dropped}
use Rattle.node_labels.specs.declared.tag.Tag.{Tag}
use Rattle.map_items.specs.declared.item.Item.{Item}
use Rattle.map_items.specs.Contents.{relabelled, kept}
use Rattle.kd_tree.specs.Shape.{Shape, leaf, fork, numbers}
use Rattle.kd_tree.specs.Walk.{walk}
use Rattle.kd_tree.specs.Numbers.{one_number, widened, range, IsRangeOf}
use Rattle.kd_tree.specs.declared.numbers.Numbers.{Numbers}

-- the range, if there is one, is that of the numbers
abbrev pub IsRangeIn : List ℕ → Option Numbers → Type 0
IsRangeIn ns None = ns ≡ []
IsRangeIn ns (Some r) = IsRangeOf ns r

one_is : (n : ℕ) → IsRangeOf (n ∷ []) (one_number n)
one_is n =
    let Q : ℕ → Type 0 = λ m. n ≤ m in
    let R : ℕ → Type 0 = λ m. m ≤ n in
    record {
      least = Contains-push [] n;
      greatest = Contains-push [] n;
      from = All-cons Q n [] (omega arith) (All-nil Q);
      to = All-cons R n [] (omega arith) (All-nil R);
    }

append-none : (ns : List ℕ) → ns ++ [] ≡ ns
append-none [] = refl
append-none (n ∷ ns) = ap (λ ms. n ∷ ms) (append-none ns)

contains_min : (ns ms : List ℕ) (a b : ℕ) → Contains ns a → Contains ms b → Contains (ns ++ ms) (min a b)
contains_min ns ms a b k l = elim (cases_lt a b) [
  | inl e ↦ subst (Contains (ns ++ ms)) (sym (min-eq_left (omega (arith, e)))) (Contains-append_left ns ms a k)
  | inr e ↦ subst (Contains (ns ++ ms)) (sym (min-eq_right e)) (Contains-append_right ns ms b l)
]

contains_max : (ns ms : List ℕ) (a b : ℕ) → Contains ns a → Contains ms b → Contains (ns ++ ms) (max a b)
contains_max ns ms a b k l = elim (cases_lt a b) [
  | inl e ↦ let top : max a b ≡ b = omega (arith, e) in subst (Contains (ns ++ ms)) (sym top) (Contains-append_right ns ms b l)
  | inr e ↦ let top : max a b ≡ a = omega (arith, e) in subst (Contains (ns ++ ms)) (sym top) (Contains-append_left ns ms a k)
]

widened_is : (ns ms : List ℕ) (a : Numbers) (o : Option Numbers) → IsRangeOf ns a → IsRangeIn ms o → IsRangeOf (ns ++ ms) (widened a o)
widened_is ns ms a None k e = subst (λ (xs : List ℕ). IsRangeOf xs a) (sym (ap (λ (xs : List ℕ). ns ++ xs) e ∙ append-none ns)) k
widened_is ns ms a (Some b) k l =
    let Q : ℕ → Type 0 = λ n. min a.least b.least ≤ n in
    let R : ℕ → Type 0 = λ n. n ≤ max a.greatest b.greatest in
    record {
      least = contains_min ns ms a.least b.least k.least l.least;
      greatest = contains_max ns ms a.greatest b.greatest k.greatest l.greatest;
      from = All-append Q ns ms (All-weaker (λ n. a.least ≤ n) Q (λ n e. omega (arith, e)) ns k.from) (All-weaker (λ n. b.least ≤ n) Q (λ n e. omega (arith, e)) ms l.from);
      to = All-append R ns ms (All-weaker (λ n. n ≤ a.greatest) R (λ n e. omega (arith, e)) ns k.to) (All-weaker (λ n. n ≤ b.greatest) R (λ n e. omega (arith, e)) ms l.to);
    }

-- the range of a tree is that of its nodes' numbers
pub range_is : (t : Shape) → IsRangeIn (numbers t) (range t)
range_is leaf = refl
range_is (fork h l r) =
    let n = h.item.number in
    widened_is (n ∷ numbers l) (numbers r) (widened (one_number n) (range l)) (range r) (widened_is (n ∷ []) (numbers l) (one_number n) (range l) (one_is n) (range_is l)) (range_is r)

-- the number lies in the range
abbrev pub IsInRange : Numbers → ℕ → Type 0
IsInRange r n = (r.least ≤ n) × (n ≤ r.greatest)

-- the range, if there is one, is part of r
abbrev pub Ranged : Option Numbers → Numbers → Type 0
Ranged None r = Unit {0}
Ranged (Some s) r = (r.least ≤ s.least) × (s.greatest ≤ r.greatest)

widened_parts : (a : Numbers) (o : Option Numbers) (r : Numbers) → r.least ≤ (widened a o).least → (widened a o).greatest ≤ r.greatest → (r.least ≤ a.least) × (a.greatest ≤ r.greatest) × Ranged o r
widened_parts a None r k l = (k, l, tt)
widened_parts a (Some b) r k l = (omega (arith, k), omega (arith, l), (omega (arith, k), omega (arith, l)))

-- the remaining items of a tree have numbers in its range
pub walk_ranged : (a : Tag) (t : Shape) (r : Numbers) → Ranged (range t) r → All (λ i. IsInRange r i.number) (walk a t)
walk_ranged a leaf r k = let Q : Item → Type 0 = λ i. IsInRange r i.number in All-nil Q
walk_ranged a (fork h l r) e k =
    let n = h.item.number in
    let outer = widened_parts (widened (one_number n) (range l)) (range r) e k.0 k.1 in
    let inner = widened_parts (one_number n) (range l) e outer.0 outer.1 in
    let Q : Item → Type 0 = λ i. IsInRange e i.number in
    All-append Q _ _
    (All-from_recursion Q (kept (relabelled a h.item ∷ [])) (own (inner.0, inner.1) (apply a h.item.label)))
    (All-append Q _ _ (walk_ranged (composed h.pending a) l e inner.2)
    (walk_ranged (composed h.pending a) r e outer.2))
  where
    own : IsInRange e h.item.number → (x : Label) → AllByRecursion (λ (i : Item). IsInRange e i.number) (kept (record h.item { label = x } ∷ []))
    own p Live = (p, tt)
    own p Suspended = (p, tt)
    own p Dropped = tt

pub ranged_itself : (r : Numbers) → Ranged (Some r) r
ranged_itself r = (omega arith, omega arith)
