-- How many nodes an action on chosen items makes, where nothing is rebuilt.
use Rattle.std.proofs.Common.{◌≡◌, ℕ, ◌+◌, ◌*◌, ◌≤◌, Bool, true, false, not, ◌&&◌, cond, refl, sym, subst, arith, Some}
use Rattle.map_items.specs.declared.choice.Choice.{Choice}
use Rattle.kd_mark.specs.Reach.{covers, meets, reach, reach_of}
use Rattle.kd_mark.specs.declared.reach.Reach.{Reach}
use Rattle.node_labels.specs.declared.tag.Tag.{Tag}
use Rattle.map_items.specs.Contents.{chosen_by, marked_item}
use Rattle.kd_tree.specs.Shape.{Head, Shape, leaf, fork}
use Rattle.kd_tree.specs.Walk.{tagged}
use Rattle.kd_tree.specs.Parts.{pushed}
use Rattle.kd_tree.specs.declared.change.Fork.{Fork}
use Rattle.kd_mark.specs.Refresh.{IsNotDue}
use Rattle.kd_mark.specs.Mark.{marked_shape, RebuildsNoneEntered}
use Rattle.kd_mark.specs.Made.{entered_mark, made_mark}
use Rattle.kd_mark.proofs.Trees.{forked}
use Rattle.kd_mark.proofs.Refresh.{head}
use Rattle.std.proofs.lemmas.Option.{same_Some}
use Rattle.kd_mark.proofs.InBox.{IsEntered}

made_at : (m k : Bool) (x y u v : ℕ) → x ≤ 5 * u + 1 → y ≤ 5 * v + 1 → cond m (cond k 1 (3 + (x + y))) 0 ≤ 5 * cond (m && not k) (1 + (u + v)) 0 + 1
made_at false k x y u v p q = omega arith
made_at true true x y u v p q = omega arith
made_at true false x y u v p q = omega arith

pub made_few : (c : Choice) (t : Shape) → made_mark c t ≤ 5 * entered_mark c t + 1
unfolding made_mark entered_mark
made_few c leaf = omega arith
made_few c (fork h l r) = made_at (meets c (reach_of h l r)) (covers c (reach_of h l r)) _ _ _ _ (made_few c l) (made_few c r)

made-tagged : (c : Choice) (a : Tag) (t : Shape) → made_mark c (tagged a t) ≡ made_mark c t
unfolding made_mark
made-tagged c a leaf = refl
made-tagged c a (fork h l r) = refl

pub made_covered : (c : Choice) (s : Shape) (e : Reach) → Some e ≡ reach s → meets c e ≡ true → covers c e ≡ true → 1 ≤ made_mark c s
unfolding made_mark
made_covered c leaf e x m k = absurd (cc)
made_covered c (fork h l r) e x m k =
    let b = same_Some e (reach_of h l r) x in
    let m' : meets c (reach_of h l r) ≡ true = rw b at m in
    let k' : covers c (reach_of h l r) ≡ true = rw b at k in
    rw (m', k') (omega arith)

made_here : (c : Choice) (h : Head) (l r : Shape) → meets c (reach_of h l r) ≡ true → covers c (reach_of h l r) ≡ false
    → made_mark c (fork h l r) ≡ 3 + (made_mark c (tagged h.pending l) + made_mark c (tagged h.pending r))
unfolding made_mark
made_here c h l r m k = rw (m, k, made-tagged c h.pending l, made-tagged c h.pending r) refl

made_entered : (c : Choice) (s : Shape) (f : Fork) (e : Reach) → Some e ≡ reach s → meets c e ≡ true
    → covers c e ≡ false → Some f ≡ pushed s → made_mark c s ≡ 3 + (made_mark c f.left + made_mark c f.right)
made_entered c leaf f e x m k p = absurd (cc)
made_entered c (fork h l r) f e x m k p =
    let b = same_Some e (reach_of h l r) x in
    subst (λ (g : Fork). made_mark c (fork h l r) ≡ 3 + (made_mark c g.left + made_mark c g.right)) (sym (same_Some f (forked h l r) p)) (made_here c h l r (rw b at m) (rw b at k))

-- taking the top apart makes at most two
pub apart_mark : (c : Choice) (s : Shape) (e : Reach) (a b : ℕ) → Some e ≡ reach s → meets c e ≡ true → covers c e ≡ false → b ≤ a + 2 → b ≤ a + made_mark c s
apart_mark c leaf e a b x m k two = absurd (cc)
apart_mark c (fork h l r) e a b x m k two =
    let z = same_Some e (reach_of h l r) x in
    omega (arith, two, made_here c h l r (rw z at m) (rw z at k))

-- an entered node: two for the children, those below them, and one for itself
pub nodes_made_entered : (large : ℕ) (c : Choice) (a : Tag) (s : Shape) (f : Fork) (e : Reach) (n0 n1 n2 n3 n4 : ℕ)
    → IsEntered c a s f → Some e ≡ reach s → meets c e ≡ true → covers c e ≡ false → Some f ≡ pushed s
    → n1 ≤ n0 + 2 → (RebuildsNoneEntered large c (marked_shape c a f.left) → n2 ≤ n1 + made_mark c f.left)
    → (RebuildsNoneEntered large c (marked_shape c a f.right) → n3 ≤ n2 + made_mark c f.right)
    → (RebuildsNoneEntered large c (marked_shape c a f.left) → RebuildsNoneEntered large c (marked_shape c a f.right)
    → IsNotDue large
    (fork (head (marked_item (chosen_by c) a f.item) f.axis) (marked_shape c a f.left) (marked_shape c a f.right))
    → n4 ≤ n3 + 1)
    → RebuildsNoneEntered large c (marked_shape c a s) → n4 ≤ n0 + made_mark c s
nodes_made_entered large c a s f e n0 n1 n2 n3 n4 w x m k p two left right own criteria =
    let parts = w.criteria large criteria in
    omega (arith, two, left parts.1, right parts.2, own parts.1 parts.2 parts.0, made_entered c s f e x m k p)
