-- Operations one after the other.
use Rattle.std.proofs.Common.{◌≡◌, List, [], ◌∷◌, ◌++◌, refl, ap, ◌∙◌, sym, append_assoc, append-nil}
use Rattle.map_items.specs.declared.item.Item.{Item}
use Rattle.map_items.specs.declared.op.Op.{Op}
use Rattle.map_items.specs.declared.op.Op.TheVariants.{Mark, Put}
use Rattle.map_items.specs.Ops.{perform, replay, Fit, numbers_put, Extends}

-- operations, and then others
pub replay-append : (m : List Item) (a b : List Op) → replay m (a ++ b) ≡ replay (replay m a) b
replay-append m [] b = refl
replay-append m (op ∷ a) b = replay-append (perform m op) a b

-- those after it fit what it leaves
pub fit_rest : (m : List Item) (op : Op) (ops : List Op) → Fit m (op ∷ ops) → Fit (perform m op) ops
fit_rest m (Mark within a) ops k = k
fit_rest m (Put n p) ops k = k.2

-- operations that fit, and then others that fit what they leave
pub fit_append : (m : List Item) (a b : List Op) → Fit m a → Fit (replay m a) b → Fit m (a ++ b)
fit_append m [] b k l = l
fit_append m (Mark within t ∷ a) b k l = fit_append (perform m (Mark within t)) a b k l
fit_append m (Put n p ∷ a) b k l = (k.0, k.1, fit_append (perform m (Put n p)) a b k.2 l)

-- a prefix of operations that fit fits
pub fit_front : (m : List Item) (a b : List Op) → Fit m (a ++ b) → Fit m a
fit_front m [] b k = tt
fit_front m (Mark within t ∷ a) b k = fit_front (perform m (Mark within t)) a b k
fit_front m (Put n p ∷ a) b k = (k.0, k.1, fit_front (perform m (Put n p)) a b k.2)

-- what comes after the prefix fits what that leaves
pub fit_second : (m : List Item) (a b : List Op) → Fit m (a ++ b) → Fit (replay m a) b
fit_second m [] b k = k
fit_second m (op ∷ a) b k = fit_second (perform m op) a b (fit_rest m op (a ++ b) k)

-- the numbers that both put
pub numbers_put-append : (a b : List Op) → numbers_put (a ++ b) ≡ numbers_put a ++ numbers_put b
numbers_put-append [] b = refl
numbers_put-append (Mark within t ∷ a) b = numbers_put-append a b
numbers_put-append (Put n p ∷ a) b = ap (λ ns. n ∷ ns) (numbers_put-append a b)

-- a list begins with itself
pub extends_itself : (a : List Op) → Extends a a
extends_itself a = ([], sym (append-nil a))

-- what begins with a list that begins with another begins with that one
pub extends_on : (a b c : List Op) → Extends a b → Extends b c → Extends a c
extends_on a b c f g = (f.0 ++ g.0, g.1 ∙ ap (λ ops. ops ++ g.0) f.1 ∙ append_assoc a f.0 g.0)
