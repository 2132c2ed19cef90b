-- Trees that are settled.
use Rattle.std.proofs.Common.{◌≡◌, ◌∙◌, Bool, true, false, List, [], ◌∷◌, Option, inl, inr, None, Some, cond, refl, ap, sym, subst, arith}
use Rattle.node_labels.specs.Labels.{keep_tag}
use Rattle.node_labels.specs.declared.tag.Tag.{Tag}
use Rattle.kd_tree.specs.Shape.{Head, Shape, fork}
use Rattle.kd_tree.specs.Walk.{tagged}
use Rattle.kd_tree.specs.Sound.{IsSound, IsSoundFork}
use Rattle.kd_tree.specs.Criteria.{AllMeetCriteria, first_breach, first_of, on_side}
use Rattle.kd_tree.specs.Parts.{pushed}
use Rattle.kd_tree.specs.declared.change.Fork.{Fork}
use Rattle.kd_tree.specs.declared.path.Side.{Side}
use Rattle.kd_tree.specs.declared.path.Side.TheVariants.{Left, Right}
use Rattle.kd_tree.proofs.Actions.{tagged-keep}
use Rattle.kd_tree.proofs.Breaches.{clear_of_none, criteria_at, criteria_of, first_free-none, none_of_clear}
use Rattle.kd_mark.specs.Refresh.{RefreshesIfDue}
use Rattle.kd_mark.specs.Update.{IsSettled}
use Rattle.kd_mark.proofs.Refresh.{head, refresh_same, refresh_trans, refresh_fork, refresh_sound, rebuilt_if_due_refresh}
use Rattle.kd_mark.proofs.TakenApart.{apart}

-- the children of a tree that was taken apart, settled, may be joined
pub settled_sound : (s : Shape) (f : Fork) (l r : Shape) → Some f ≡ pushed s → IsSound s → IsSettled f.left l → IsSettled f.right r → IsSoundFork (head f.item f.axis) l r
settled_sound s f l r x k left right = refresh_sound f.item f.axis f.left f.right l r (apart s f x k).sound left.refresh right.refresh

-- and their parent is settled
pub settled_fork : (s : Shape) (f : Fork) (l r t : Shape) → Some f ≡ pushed s → IsSound s → IsSettled f.left l
    → IsSettled f.right r → RefreshesIfDue 4194305 (fork (head f.item f.axis) l r) t → (AllMeetCriteria 10 s → ⊥)
    → IsSettled s t
settled_fork s f l r t x k left right done breach = record {
  refresh = refresh_trans s (fork (head f.item f.axis) f.left f.right) t (apart s f x k).refresh
      (refresh_trans (fork (head f.item f.axis) f.left f.right) (fork (head f.item f.axis) l r) t
      (refresh_fork f.item f.axis f.left f.right l r left.refresh right.refresh)
      (rebuilt_if_due_refresh 4194305 (fork (head f.item f.axis) l r) t done));
  criteria = criteria done;
  unrebuilt = λ c. absurd (breach c);
}
  where
    criteria : RefreshesIfDue 4194305 (fork (head f.item f.axis) l r) t → AllMeetCriteria 10 t
    criteria (inl k') = let few = (settled_sound s f l r x k left right).few in subst (AllMeetCriteria 10) k'.1 ((λ many. k'.0 many (omega arith)), left.criteria, right.criteria)
    criteria (inr k') = k'.2

-- a tree without a breach stays
pub settled_clean : (t : Shape) → first_breach 10 t ≡ None → IsSettled t t
settled_clean t e = record { refresh = refresh_same t; criteria = criteria_of 10 t (clear_of_none 10 [] t (first_free-none 10 t ∙ e)); unrebuilt = λ _. refl }

-- where a breach is found, not all nodes meet the criteria
pub breached_not : (t : Shape) (p : List Side) → first_breach 10 t ≡ Some p → AllMeetCriteria 10 t → ⊥
breached_not t p e k =
    let none : first_breach 10 t ≡ None = sym (first_free-none 10 t) ∙ none_of_clear 10 [] t (λ q s there clear large. criteria_at 10 t q s k there large) in
    cc

-- what a fork's first breach is, by whether its top is one, and by those of its children
abbrev first : Bool → Option (List Side) → Option (List Side) → Option (List Side)
first top o q = cond top (Some []) (first_of (on_side Left o) (on_side Right q))

went_left : (top : Bool) (o q : Option (List Side)) (rest : List Side) → first top o q ≡ Some (Left ∷ rest) → o ≡ Some rest
went_left true o q rest e = cc
went_left false None None rest e = cc
went_left false None (Some p) rest e = cc
went_left false (Some p) q rest e = cc

went_right : (top : Bool) (o q : Option (List Side)) (rest : List Side) → first top o q ≡ Some (Right ∷ rest) → (o ≡ None) × (q ≡ Some rest)
went_right true o q rest e = cc
went_right false None None rest e = cc
went_right false None (Some p) rest e = (refl, cc)
went_right false (Some p) q rest e = cc

-- a tree that is a fork with no pending action, taken apart
module _ (t : Shape) (h : Head) (l r : Shape) (f : Fork) (rest : List Side) (is : t ≡ fork h l r) (keep : h.pending ≡ keep_tag) (parts : Some f ≡ pushed t) where
  taken : Some f ≡ pushed (fork h l r)
  taken = parts ∙ ap pushed is

  left_is : f.left ≡ l
  left_is = let same : f.left ≡ tagged h.pending l = cc taken in same ∙ ap (λ (a : Tag). tagged a l) keep ∙ tagged-keep l

  right_is : f.right ≡ r
  right_is = let same : f.right ≡ tagged h.pending r = cc taken in same ∙ ap (λ (a : Tag). tagged a r) keep ∙ tagged-keep r

  -- a breach on the left is the left child's first one
  pub first_left : first_breach 10 t ≡ Some (Left ∷ rest) → first_breach 10 f.left ≡ Some rest
  first_left e = ap (first_breach 10) left_is ∙ went_left _ (first_breach 10 l) (first_breach 10 r) rest (sym (ap (first_breach 10) is) ∙ e)

  -- where it is on the right, there is none on the left
  pub none_left : first_breach 10 t ≡ Some (Right ∷ rest) → first_breach 10 f.left ≡ None
  none_left e = ap (first_breach 10) left_is ∙ (went_right _ (first_breach 10 l) (first_breach 10 r) rest (sym (ap (first_breach 10) is) ∙ e)).0

  -- and it is the right child's first one
  pub first_right : first_breach 10 t ≡ Some (Right ∷ rest) → first_breach 10 f.right ≡ Some rest
  first_right e = ap (first_breach 10) right_is ∙ (went_right _ (first_breach 10 l) (first_breach 10 r) rest (sym (ap (first_breach 10) is) ∙ e)).1
