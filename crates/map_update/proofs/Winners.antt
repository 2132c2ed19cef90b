-- Which item remains in a voxel, and where nothing changes.
use Rattle.std.proofs.Common.{◌≡◌, ℕ, ◌+◌, ◌<◌, true, false, [], ◌∷◌, List, inl, inr, refl, drop, length, sym, subst, ap, ◌∙◌, arith}
use Rattle.std.specs.Prelude.{IfOk}
use Rattle.std.specs.declared.result.Result.{Result}
use Rattle.std.specs.declared.result.Result.TheVariants.{Ok, Err}
use Rattle.point_geom.specs.Place.{Place, Bounds}
use Rattle.point_geom.specs.Boxes.{voxel}
use Rattle.map_items.specs.declared.item.Item.{Item}
use Rattle.map_items.specs.declared.memory.NoMemory.{NoMemory}
use Rattle.map_fold.specs.Answers.{inside_all}
use Rattle.map_items.specs.Contents.{AreContents, IsRising, comes_before, in_box, live_at, live_items, winner, Member}
use Rattle.map_items.specs.Ops.{IsUnheld}
use Rattle.map_fold.specs.Thinned.{NoneBefore, rivals}
use Rattle.map_fold.proofs.Centre.{not_itself, order}
use Rattle.map_fold.proofs.Found.{member-filter, member-filter_of}
use Rattle.map_fold.proofs.Thinning.{winner_is}
use Rattle.kd_tree.specs.Shape.{Shape}
use Rattle.kd_tree.specs.Sound.{IsSound}
use Rattle.kd_tree.specs.Contents.{contents}
use Rattle.kd_tree.proofs.Held.{are_contents}
use Rattle.kd_search.specs.Best.{IsBest}
use Rattle.map_update.specs.Draft.{IsLawfulDraft}
use Rattle.map_update.specs.declared.draft.Draft.{Draft}
use Rattle.kd_tree.specs.Maps.{map_of}
use Rattle.map_update.specs.OnePoint.{IsRejected}

-- what a draft holds is what a map may hold
pub draft_contents : (large next : ℕ) (w : Draft) → IsSound w.tree → IsLawfulDraft large next w → AreContents 0 next (contents w.tree)
draft_contents large next w sound d = are_contents next w.tree sound d.2.below

-- a new item that comes before the best of its voxel wins
pub new_wins : (edge n : ℕ) (m : List Item) (p : Place) (held : Item) → IsRising 0 m → IsUnheld n m
    → IsBest m (voxel edge p) held → comes_before (voxel edge p) (live_at n p) held ≡ true
    → winner edge m n p ≡ live_at n p
new_wins edge n m p held rising new best before = winner_is edge n m p (live_at n p) rising new (inl refl) first
  where
    first : NoneBefore (voxel edge p) (live_at n p) (rivals edge m n p)
    first i (inl same) = subst (λ (j : Item). comes_before (voxel edge p) j (live_at n p) ≡ false) (sym same) (not_itself (voxel edge p) (live_at n p))
    first i (inr inside) =
        let is = member-filter (in_box (voxel edge p)) i (live_items m) inside in
        (order (voxel edge p)).chain i held (live_at n p) (best.first i is.0 is.1) ((order (voxel edge p)).one_way (live_at n p) held before)

-- and else the best stays
pub held_wins : (edge n : ℕ) (m : List Item) (p : Place) (held : Item) → IsRising 0 m → IsUnheld n m
    → IsBest m (voxel edge p) held → comes_before (voxel edge p) (live_at n p) held ≡ false → winner edge m n p ≡ held
held_wins edge n m p held rising new best behind =
    winner_is edge n m p held rising new (inr (member-filter_of (in_box (voxel edge p)) held (live_items m) best.live best.held)) first
  where
    first : NoneBefore (voxel edge p) held (rivals edge m n p)
    first i (inl same) = subst (λ (j : Item). comes_before (voxel edge p) j held ≡ false) (sym same) behind
    first i (inr inside) = let is = member-filter (in_box (voxel edge p)) i (live_items m) inside in best.first i is.0 is.1

only_one : {X : Type 0} (x : X) (xs : List X) → Member x xs → length xs ≡ 1 → xs ≡ x ∷ []
only_one x [] n e = absurd n
only_one x (y ∷ []) (inl same) e = ap (λ z. z ∷ []) (sym same)
only_one x (y ∷ []) (inr none) e = absurd none
only_one x (y ∷ z ∷ zs) n e = absurd (omega arith)

-- where one item is live in the box, it is the best
pub alone_inside : (m : List Item) (c : Bounds) (i : Item) → IsBest m c i → length (inside_all m c) ≡ 1 → inside_all m c ≡ i ∷ []
alone_inside m c i best one = only_one i (inside_all m c) (member-filter_of (in_box c) i (live_items m) best.live best.held) one

-- what is held is also what that is equal to
pub becomes : (r : Result Draft NoMemory) (xs ys : List Item) → xs ≡ ys → IfOk r (λ w. contents w.tree ≡ xs) → IfOk r (λ w. contents w.tree ≡ ys)
becomes (Ok w) xs ys e f = f ∙ e
becomes (Err x) xs ys e f = tt

-- equal points are rejected for equal trees and numbers
pub turned_same : (edge : ℕ) (s t : Shape) (k n : ℕ) (p q : Place) → t ≡ s → n ≡ k → q ≡ p → IsRejected edge (map_of s k) p → IsRejected edge (map_of t n) q
turned_same edge s t k n p q e f h turned =
    let one : IsRejected edge (map_of t k) p = subst (λ (x : Shape). IsRejected edge (map_of x k) p) (sym e) turned in
    let two : IsRejected edge (map_of t n) p = subst (λ (x : ℕ). IsRejected edge (map_of t x) p) (sym f) one in
    subst (IsRejected edge (map_of t n)) (sym h) two

-- a list of one point has no other
pub only_first : (i : ℕ) (ps : List Place) (p q : Place) → drop i ps ≡ q ∷ drop (i + 1) ps → i < length ps → ps ≡ p ∷ [] → (q ≡ p) × (i ≡ 0)
only_first i ps p q cut below one =
    let none : i ≡ 0 = omega (arith, ap length one) in
    let whole : ps ≡ q ∷ drop (i + 1) ps = sym (ap (λ k. drop k ps) none) ∙ cut in
    let first : q ∷ drop (i + 1) ps ≡ p ∷ [] = sym whole ∙ one in
    (cc, none)
