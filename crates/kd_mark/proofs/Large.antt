-- Large subtrees at paths.
use Rattle.std.proofs.Common.{◌≡◌, ℕ, ◌≤◌, ap, ◌∙◌, sym, arith, List, [], ◌∷◌, Some}
use Rattle.std.proofs.lemmas.Option.{same_Some}
use Rattle.map_items.specs.declared.op.Op.{Op}
use Rattle.kd_tree.specs.Shape.{Shape, leaf, fork, nodes}
use Rattle.kd_tree.specs.Parts.{at}
use Rattle.kd_tree.specs.declared.path.Side.{Side}
use Rattle.kd_tree.specs.declared.path.Side.TheVariants.{Left, Right}
use Rattle.kd_mark.specs.Watch.{IsLargeAt, IsWatched}

-- no subtree has more nodes than its tree
pub at_nodes : (path : List Side) (t s : Shape) → at path t ≡ Some s → nodes s ≤ nodes t
at_nodes [] t s e = omega (arith, ap nodes (same_Some t s e))
at_nodes (side ∷ path) leaf s e = absurd (cc)
at_nodes (Left ∷ path) (fork h l r) s e = omega (arith, at_nodes path l s e)
at_nodes (Right ∷ path) (fork h l r) s e = omega (arith, at_nodes path r s e)

-- so a tree has at least as many nodes as a large subtree at a path
pub large_nodes : (large : ℕ) (path : List Side) (t : Shape) → IsLargeAt large path t → large ≤ nodes t
large_nodes large path t k = omega (arith, k.size, at_nodes path t k.node k.there)

-- the watched subtree is there afterwards, and no smaller
pub large_after : (large : ℕ) (path : List Side) (old new : Shape) (ops : List Op) → IsLargeAt large path old → IsWatched path old new ops → IsLargeAt large path new
large_after large path old new ops k w =
    let same : k.node ≡ w.before = same_Some k.node w.before (sym k.there ∙ w.was) in
    record { node = w.after; there = w.is; size = omega (arith, k.size, w.size, ap nodes same) }

-- where the same is at the path, the same is large there
pub large_same : (large : ℕ) (path : List Side) (t u : Shape) → at path u ≡ at path t → IsLargeAt large path t → IsLargeAt large path u
large_same large path t u e k = record { node = k.node; there = e ∙ k.there; size = k.size }

-- what was watched of the plain result is watched of the new tree
pub watched_new : (path : List Side) (old plain new : Shape) (ops : List Op) → at path new ≡ at path plain → IsWatched path old plain ops → IsWatched path old new ops
watched_new path old plain new ops e w = record { before = w.before; after = w.after; was = w.was; is = e ∙ w.is; size = w.size; fit = w.fit; replayed = w.replayed }
