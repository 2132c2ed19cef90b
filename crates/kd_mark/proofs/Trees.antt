-- What the walk of a tree shows of its nodes.
use Rattle.std.proofs.Common.{◌≡◌, ℕ, ◌+◌, ◌<◌, ◌≤◌, ◌^◌, inl, inr, suc, zero, ap, ◌∙◌, sym, subst, arith, List, [], ◌∷◌, ◌++◌, Some, pow_pos}
use Rattle.std.proofs.Math.Nat.{pow-succ'}
use Rattle.std.proofs.lemmas.List.Elements.{Contains-append_left, Contains-append_right, Contains-append_cases}
use Rattle.node_labels.specs.Labels.{keep_tag}
use Rattle.node_labels.specs.declared.tag.Tag.{Tag}
use Rattle.node_labels.proofs.Laws.{composed-keep_right}
use Rattle.kd_tree.specs.Shape.{Head, Shape, leaf, fork, nodes, levels}
use Rattle.kd_tree.specs.Walk.{walk, tagged}
use Rattle.kd_tree.specs.Parts.{pushed}
use Rattle.kd_tree.specs.declared.change.Fork.{Fork}
use Rattle.kd_tree.proofs.Actions.{tagged_nodes}
use Rattle.kd_tree.proofs.Contents.{walk-tagged}
use Rattle.kd_mark.specs.Refresh.{AreAmong}
use Rattle.std.proofs.lemmas.Option.{same_Some}

-- a tree that had an action done to it, walked by itself
pub walk-tagged_keep : (a : Tag) (t : Shape) → walk keep_tag (tagged a t) ≡ walk a t
walk-tagged_keep a t = walk-tagged a keep_tag t ∙ ap (λ q. walk q t) (composed-keep_right a)

-- fewer nodes than a full tree of one level more
pub nodes_below : (n : ℕ) (t : Shape) → levels t ≤ n → nodes t < 2 ^ n
nodes_below n leaf k = omega (arith, pow_pos n)
nodes_below zero (fork h l r) k = absurd (omega arith)
nodes_below (suc n) (fork h l r) k = rw (pow-succ' 2 n) (omega (arith, nodes_below n l (omega arith), nodes_below n r (omega arith)))

-- numbers

pub among_same : (ns : List ℕ) → AreAmong ns ns
among_same ns n k = k

pub among_append : (a b c d : List ℕ) → AreAmong a b → AreAmong c d → AreAmong (a ++ c) (b ++ d)
among_append a b c d f g n k = elim (Contains-append_cases a c n k) [ inl u ↦ Contains-append_left b d n (f n u) | inr v ↦ Contains-append_right b d n (g n v) ]

-- the numbers of a node and its children are among those of others
pub among_fork : (n : ℕ) (l r l' r' : List ℕ) → AreAmong l l' → AreAmong r r' → AreAmong (n ∷ (l ++ r)) (n ∷ (l' ++ r'))
among_fork n l r l' r' f g = among_append (n ∷ []) (n ∷ []) (l ++ r) (l' ++ r') (among_same (n ∷ [])) (among_append l l' r r' f g)

-- trees taken apart

abbrev pub forked : Head → Shape → Shape → Fork
forked h l r = record { item = h.item; axis = h.axis; left = tagged h.pending l; right = tagged h.pending r }

-- what holds of each node and what it is taken apart to holds of a tree that is taken apart
pub at_pushed : (P : Shape → Fork → Type 0) (s : Shape) (f : Fork) → Some f ≡ pushed s → ((h : Head) (l r : Shape) → P (fork h l r) (forked h l r)) → P s f
at_pushed P leaf f x k = absurd (cc)
at_pushed P (fork h l r) f x k = subst (P (fork h l r)) (sym (same_Some f (forked h l r) x)) (k h l r)

pub pushed_nodes : (s : Shape) (f : Fork) → Some f ≡ pushed s → nodes s ≡ nodes f.left + nodes f.right + 1
pushed_nodes s f x = at_pushed (λ z g. nodes z ≡ nodes g.left + nodes g.right + 1) s f x (λ h l r. omega (arith, tagged_nodes h.pending l, tagged_nodes h.pending r))

pub pushed_smaller : (s : Shape) (f : Fork) → Some f ≡ pushed s → (nodes f.left < nodes s) × (nodes f.right < nodes s)
pushed_smaller s f x = let all = pushed_nodes s f x in (omega (arith, all), omega (arith, all))
