-- What is logged of an action, read from the tree.
use Rattle.std.proofs.Common.{◌≡◌, ℕ, ◌+◌, ◌≤◌, Bool, true, false, cond, refl, ap, ◌∙◌, sym, subst, arith, List, [], ◌∷◌, ◌++◌, length, length-append, append_assoc, append-nil, min, Option, Some, None}
use Rattle.std.proofs.lemmas.Bool.{cond_both, cond-true, cond-false}
use Rattle.map_items.specs.declared.choice.Choice.{Choice}
use Rattle.kd_mark.specs.Reach.{covers, meets, reach, reach_of}
use Rattle.kd_mark.specs.declared.reach.Reach.{Reach}
use Rattle.node_labels.specs.Labels.{composed}
use Rattle.node_labels.specs.declared.tag.Tag.{Tag}
use Rattle.map_items.specs.Contents.{all_items}
use Rattle.map_items.specs.declared.op.Op.{Op}
use Rattle.map_items.specs.declared.op.Op.TheVariants.{Mark}
use Rattle.kd_tree.specs.Shape.{Head, Shape, leaf, fork}
use Rattle.kd_tree.specs.Walk.{tagged}
use Rattle.kd_tree.specs.declared.path.Side.{Side}
use Rattle.kd_tree.specs.Parts.{child}
use Rattle.kd_mark.specs.Mark.{is_entered}
use Rattle.kd_mark.specs.Watch.{is_keep, handed, is_met, logged_mark}
use Rattle.std.proofs.lemmas.Option.{same_Some}

-- at most two operations are logged

-- an operation that is handed to the watched root, and one more; further up only what is logged further down
pub handed_few : (path : List Side) (q : Tag) (ops : List Op) → length ops ≤ 1 + min 1 (length path) → length (handed path q ++ ops) ≤ 2
handed_few [] q ops k = cond_both (is_keep q) [] (Mark all_items q ∷ []) (λ os. length (os ++ ops) ≤ 2) (λ _. omega (arith, k)) (λ _. omega (arith, k))
handed_few (side ∷ path) q ops k = omega (arith, k)

mark_few : (c : Choice) (a : Tag) (path : List Side) (t : Shape) → length (logged_mark c a path t) ≤ 1 + min 1 (length path)
unfolding logged_mark
mark_few c a [] t = cond_both (is_met c t) (Mark c a ∷ []) [] (λ os. length os ≤ 1) (λ _. omega arith) (λ _. omega arith)
mark_few c a (side ∷ path) leaf = omega arith
mark_few c a (side ∷ path) (fork h l r) =
    let few : length (handed path h.pending ++ logged_mark c a path (tagged h.pending (child side l r))) ≤ 2 = handed_few path h.pending _ (mark_few c a path (tagged h.pending (child side l r))) in
    cond_both (is_entered c (reach_of h l r)) _ [] (λ os. length os ≤ 1 + min 1 (length (side ∷ path))) (λ _. omega (arith, few)) (λ _. omega arith)

pub logged_mark_few : (c : Choice) (a : Tag) (path : List Side) (t : Shape) → length (logged_mark c a path t) ≤ 2
logged_mark_few c a path t = omega (arith, mark_few c a path t)

-- lists in parts

-- nothing is logged
pub logged_none : (log ops : List Op) → ops ≡ [] → log ≡ log ++ ops
logged_none log ops e = sym (ap (λ os. log ++ os) e ∙ append-nil log)

-- the parts of the room
pub room_first : (n : ℕ) (xs ys zs : List Op) → xs ≡ ys ++ zs → n + length xs ≤ 65536 → n + length ys ≤ 65536
room_first n xs ys zs e k = omega (arith, k, ap length e, length-append ys zs)

pub few_first : (a b : ℕ) (xs ys zs : List Op) → xs ≡ ys ++ zs → b ≤ a + length ys → b ≤ a + length xs
few_first a b xs ys zs e k = omega (arith, k, ap length e, length-append ys zs)

pub few_rest : (a b d : ℕ) (xs ys zs : List Op) → xs ≡ ys ++ zs → b ≤ a + length ys → d ≤ b + length zs → d ≤ a + length xs
few_rest a b d xs ys zs e k f = omega (arith, k, f, ap length e, length-append ys zs)

pub room_rest : (before after xs ys zs : List Op) → xs ≡ ys ++ zs → after ≡ before ++ ys → length before + length xs ≤ 65536 → length after + length zs ≤ 65536
room_rest before after xs ys zs e f k = omega (arith, k, ap length e, length-append ys zs, ap length f, length-append before ys)

pub logged_all : (before mid after xs ys zs : List Op) → xs ≡ ys ++ zs → mid ≡ before ++ ys → after ≡ mid ++ zs → after ≡ before ++ xs
logged_all before mid after xs ys zs e f g = g ∙ ap (λ z. z ++ zs) f ∙ append_assoc before ys zs ∙ ap (λ z. before ++ z) (sym e)

-- a mark, read from the tree

-- where the path ends, the mark itself, if it meets the tree
pub ahead_root : (c : Choice) (a q : Tag) (path : List Side) (t : Shape) (b : Bool) → length path ≡ 0 → is_met c t ≡ b → logged_mark c a path (tagged q t) ≡ cond b (Mark c a ∷ []) []
unfolding logged_mark
ahead_root c a q [] leaf b e k = ap (λ m. cond m (Mark c a ∷ []) []) k
ahead_root c a q [] (fork h l r) b e k = ap (λ m. cond m (Mark c a ∷ []) []) k
ahead_root c a q (side ∷ path) t b e k = absurd (omega (arith, e))

pub ahead_none : (c : Choice) (a q : Tag) (side : Side) (path : List Side) (t : Shape) → ◌≡◌ {A = Option Reach} None (reach t) → logged_mark c a (side ∷ path) (tagged q t) ≡ []
unfolding logged_mark
ahead_none c a q side path leaf x = refl
ahead_none c a q side path (fork h l r) x = absurd (cc)

-- nothing is logged of what isn't entered
pub ahead_passed : (c : Choice) (a q : Tag) (side : Side) (path : List Side) (t : Shape) (e : Reach) → Some e ≡ reach t → is_entered c e ≡ false → logged_mark c a (side ∷ path) (tagged q t) ≡ []
unfolding logged_mark
ahead_passed c a q side path leaf e x k = refl
ahead_passed c a q side path (fork h l r) e x k = cond-false (is_entered c (reach_of h l r)) _ _ (rw (same_Some e (reach_of h l r) x) at k)

pub ahead_entered : (c : Choice) (a q p : Tag) (side : Side) (path : List Side) (t s : Shape) (e : Reach) (h : Head)
    (l r : Shape) → Some e ≡ reach t → meets c e ≡ true → covers c e ≡ false → t ≡ fork h l r
    → p ≡ composed h.pending q → s ≡ child side l r
    → logged_mark c a (side ∷ path) (tagged q t) ≡ handed path p ++ logged_mark c a path (tagged p s)
unfolding logged_mark
ahead_entered c a q p side path t s e h l r x m k is pending on =
    let b = same_Some e (reach_of h l r) (x ∙ ap reach is) in
    let into_it : is_entered c (reach_of h l r) ≡ true = subst (λ z. is_entered c z ≡ true) b (rw (m, k) refl) in
    rw (is, pending, on) (cond-true (is_entered c (reach_of h l r)) _ _ into_it)
