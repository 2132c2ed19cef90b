-- What is logged of a point, read from the tree, and which numbers are put by what is logged.
use Rattle.std.proofs.Common.{◌≡◌, ℕ, ◌+◌, ◌≤◌, Bool, cond, refl, ap, ◌∙◌, sym, subst, arith, List, [], ◌∷◌, ◌++◌, length, min, All}
use Rattle.std.proofs.lemmas.List.Elements.{All-cons, All-nil}
use Rattle.std.proofs.lemmas.Bool.{cond_both}
use Rattle.point_geom.specs.Place.{Place}
use Rattle.map_items.specs.declared.choice.Choice.{Choice}
use Rattle.kd_mark.specs.Reach.{reach_of}
use Rattle.node_labels.specs.Labels.{composed}
use Rattle.node_labels.specs.declared.tag.Tag.{Tag}
use Rattle.map_items.specs.Contents.{all_items}
use Rattle.map_items.specs.declared.op.Op.{Op}
use Rattle.map_items.specs.declared.op.Op.TheVariants.{Mark, Put}
use Rattle.map_items.specs.Ops.{numbers_put}
use Rattle.kd_tree.specs.Shape.{Head, Shape, leaf, fork}
use Rattle.kd_tree.specs.Walk.{tagged}
use Rattle.kd_tree.specs.declared.path.Side.{Side}
use Rattle.kd_tree.specs.Parts.{child}
use Rattle.kd_mark.specs.Mark.{is_entered}
use Rattle.kd_update.specs.Put.{goes_left}
use Rattle.kd_mark.specs.Watch.{is_keep, handed, is_met, logged_mark}
use Rattle.kd_update.specs.Watch.{goes_to, logged_put}
use Rattle.kd_mark.proofs.Logged.{handed_few}

-- at most two operations are logged

put_few : (n : ℕ) (p : Place) (path : List Side) (t : Shape) → length (logged_put n p path t) ≤ 1 + min 1 (length path)
unfolding logged_put
put_few n p [] t = omega arith
put_few n p (side ∷ path) leaf = omega arith
put_few n p (side ∷ path) (fork h l r) =
    let few = put_few n p path (tagged h.pending (child side l r)) in
    let on : List Op → Type 0 = λ os. length os ≤ 1 + min 1 (length path) in
    omega (
      arith,
      handed_few path h.pending _ (cond_both (goes_to side (goes_left h.axis p h.item.point))
          (logged_put n p path (tagged h.pending (child side l r))) [] on (λ _. few) (λ _. omega arith)),
    )

pub logged_put_few : (n : ℕ) (p : Place) (path : List Side) (t : Shape) → length (logged_put n p path t) ≤ 2
logged_put_few n p path t = omega (arith, put_few n p path t)

-- no number is put by a pending action, or by a mark

pub handed_puts : (path : List Side) (q : Tag) (ops : List Op) → numbers_put (handed path q ++ ops) ≡ numbers_put ops
handed_puts [] q ops = cond_both (is_keep q) [] (Mark all_items q ∷ []) (λ os. numbers_put (os ++ ops) ≡ numbers_put ops) (λ _. refl) (λ _. refl)
handed_puts (side ∷ path) q ops = refl

pub mark_puts : (c : Choice) (a : Tag) (path : List Side) (t : Shape) → numbers_put (logged_mark c a path t) ≡ []
unfolding logged_mark
mark_puts c a [] t = cond_both (is_met c t) (Mark c a ∷ []) [] (λ os. numbers_put os ≡ []) (λ _. refl) (λ _. refl)
mark_puts c a (side ∷ path) leaf = refl
mark_puts c a (side ∷ path) (fork h l r) =
    cond_both (is_entered c (reach_of h l r)) (handed path h.pending ++ logged_mark c a path (tagged h.pending (child side l r))) [] (λ os. numbers_put os ≡ [])
    (λ _. handed_puts path h.pending (logged_mark c a path (tagged h.pending (child side l r))) ∙ mark_puts c a path (tagged h.pending (child side l r))) (λ _. refl)

-- and a point puts its own number alone
pub put_puts : (P : ℕ → Type 0) (n : ℕ) (p : Place) (path : List Side) (t : Shape) → P n → All P (numbers_put (logged_put n p path t))
unfolding logged_put
put_puts P n p [] t k = All-cons P n [] k (All-nil P)
put_puts P n p (side ∷ path) leaf k = All-nil P
put_puts P n p (side ∷ path) (fork h l r) k =
    cond_both (goes_to side (goes_left h.axis p h.item.point)) (logged_put n p path (tagged h.pending (child side l r))) [] (λ os. All P (numbers_put (handed path h.pending ++ os)))
    (λ _. subst (All P) (sym (handed_puts path h.pending (logged_put n p path (tagged h.pending (child side l r))))) (put_puts P n p path (tagged h.pending (child side l r)) k))
    (λ _. subst (All P) (sym (handed_puts path h.pending [])) (All-nil P))

-- a point, read from the tree

pub ahead_put_root : (n : ℕ) (p : Place) (q : Tag) (path : List Side) (t : Shape) → length path ≡ 0 → logged_put n p path (tagged q t) ≡ Put n p ∷ []
unfolding logged_put
ahead_put_root n p q [] t e = refl
ahead_put_root n p q (side ∷ path) t e = absurd (omega (arith, e))

pub ahead_put_none : (n : ℕ) (p : Place) (q : Tag) (side : Side) (path : List Side) (t : Shape) → t ≡ leaf → logged_put n p (side ∷ path) (tagged q t) ≡ []
unfolding logged_put
ahead_put_none n p q side path t e = ap (λ z. logged_put n p (side ∷ path) (tagged q z)) e

pub ahead_put : (n : ℕ) (p : Place) (q o : Tag) (side : Side) (path : List Side) (t s : Shape) (h : Head) (l r : Shape)
    (b : Bool) → t ≡ fork h l r → o ≡ composed h.pending q → s ≡ child side l r
    → b ≡ goes_to side (goes_left h.axis p h.item.point)
    → logged_put n p (side ∷ path) (tagged q t) ≡ handed path o ++ cond b (logged_put n p path (tagged o s)) []
unfolding logged_put
ahead_put n p q o side path t s h l r b is pending on goes = rw (is, pending, on, goes) refl
