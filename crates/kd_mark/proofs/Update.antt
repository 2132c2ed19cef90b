-- What updates make of a tree.
use Rattle.std.proofs.Common.{◌≡◌, ℕ, ap, ◌∙◌}
use Rattle.node_labels.specs.declared.tag.Tag.{Tag}
use Rattle.kd_tree.specs.Shape.{Head, Shape, leaf, fork}
use Rattle.kd_tree.specs.Walk.{tagged}
use Rattle.kd_tree.specs.Criteria.{AllMeetCriteria}
use Rattle.kd_mark.specs.Update.{IsBalancedBelow}

-- a tree without a breach is balanced
pub criteria_balanced : (large : ℕ) (t : Shape) → AllMeetCriteria 10 t → IsBalancedBelow large t
criteria_balanced large leaf k = tt
criteria_balanced large (fork h l r) k = ((λ many few. (k.0 many).0), criteria_balanced large l k.1, criteria_balanced large r k.2)

pub balanced_tagged : (large : ℕ) (a : Tag) (t : Shape) → IsBalancedBelow large t → IsBalancedBelow large (tagged a t)
balanced_tagged large a leaf k = tt
balanced_tagged large a (fork h l r) k = k

-- the children of a tree taken apart
pub balanced_children : (large : ℕ) (h : Head) (l r : Shape) → IsBalancedBelow large (fork h l r) → IsBalancedBelow large (tagged h.pending l) × IsBalancedBelow large (tagged h.pending r)
balanced_children large h l r k = (balanced_tagged large h.pending l k.1, balanced_tagged large h.pending r k.2)

pub children_alike : (h : Head) (l r l' r' : Shape) → l' ≡ l → r' ≡ r → fork h l' r' ≡ fork h l r
children_alike h l r l' r' e f = ap (λ x. fork h x r') e ∙ ap (λ x. fork h l x) f
