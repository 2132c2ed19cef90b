-- Operations done on trees, one after the other, the runs of points among them, and the items that they put.
use Rattle.std.proofs.Common.{◌≡◌, ℕ, ◌<◌, ◌≤◌, true, cond, List, [], ◌∷◌, ◌++◌, length, refl, ap, ◌∙◌, sym, subst, arith, count_by, ◌==◌, append-nil, length-append, Result, Ok, Err, IfOk, ◌+◌}
use Rattle.std.proofs.lemmas.Bool.{false≢true}
use Rattle.std.proofs.lemmas.List.{length-map}
use Rattle.std.proofs.lemmas.List.Elements.{All-cons, All-head, All-nil, All-tail}
use Rattle.std.proofs.lemmas.List.Sorted.{length_permutation, IsPermutation-middle, IsPermutation-sym, sum_by-IsPermutation}
use Rattle.std.proofs.lemmas.List.Sums.{sum_by-cons}
use Rattle.map_items.specs.declared.item.Item.{Item}
use Rattle.map_items.specs.declared.op.Op.{Op}
use Rattle.map_items.specs.declared.op.Op.TheVariants.{Mark, Put}
use Rattle.map_items.specs.Contents.{live_at, put}
use Rattle.map_items.specs.Ops.{Fit, IsUnheld, numbers_put, replay}
use Rattle.map_items.proofs.Replays.{numbers_put-append, replay-append}
use Rattle.kd_tree.specs.Shape.{Shape, levels, nodes, numbers}
use Rattle.kd_tree.specs.Contents.{AreDistinct, by_number, contents}
use Rattle.kd_tree.specs.Sound.{IsSound}
use Rattle.kd_tree.proofs.Held.{by_number-contents, contents_distinct, contents_few}
use Rattle.kd_tree.proofs.Numbered.{by_number_moves, once_moved}
use Rattle.kd_mark.specs.Refresh.{AreAmong}
use Rattle.kd_mark.specs.Update.{IsBalancedBelow}
use Rattle.kd_update.specs.Scan.{IsGrown, IsPiece, MayJoin, numbers_in, put_each}
use Rattle.kd_update.specs.Replay.{ArePuts, IsPerformed, IsRun, is_put, items_put}
use Rattle.kd_update.proofs.Grown.{IsLive}
use Rattle.kd_update.proofs.Route.{at_most_one}
use Rattle.kd_mark.proofs.Trees.{among_same}
use Rattle.kd_mark.proofs.Among.{among_then}
use Rattle.kd_update.proofs.Joins.{join_grown, join_piece, put_new}

-- operations one after the other

pub performed_none : (large : ℕ) (s : Shape) → IsPerformed large s [] s
performed_none large s = record { held = refl; from = among_same (numbers s); balanced = λ k. k; low = omega arith; few = omega arith }

puts-append : (a b : List Op) → length (numbers_put (a ++ b)) ≡ length (numbers_put a) + length (numbers_put b)
puts-append a b = ap length (numbers_put-append a b) ∙ length-append (numbers_put a) (numbers_put b)

-- some operations, and then others
pub performed_then : (large : ℕ) (s t u : Shape) (a b : List Op) → IsPerformed large s a t → IsPerformed large t b u → IsPerformed large s (a ++ b) u
performed_then large s t u a b f g = record {
  held = g.held ∙ ap (λ m. replay m b) f.held ∙ sym (replay-append (contents s) a b);
  from = subst (λ ns. AreAmong (numbers u) (ns ++ numbers s)) (sym (numbers_put-append a b)) (among_then (numbers_put a) (numbers_put b) (numbers s) (numbers t) (numbers u) f.from g.from);
  balanced = λ k. g.balanced (f.balanced k);
  low = omega (arith, f.low, g.low, puts-append a b);
  few = omega (arith, f.few, g.few, puts-append a b);
}

-- all that is known of a result, as one fact
pub all_performed : {E : Type 0} (large : ℕ) (s : Shape) (ops : List Op) (r : Result Shape E)
    → IfOk r (λ t. contents t ≡ replay (contents s) ops)
    → IfOk r (λ t. AreAmong (numbers t) (numbers_put ops ++ numbers s))
    → (IsBalancedBelow large s → IfOk r (λ t. IsBalancedBelow large t))
    → IfOk r (λ t. levels t ≤ levels s + length (numbers_put ops))
    → IfOk r (λ t. nodes t ≤ nodes s + length (numbers_put ops))
    → IfOk r (λ t. IsPerformed large s ops t)
all_performed large s ops (Ok t) held from balanced low few = record { held = held; from = from; balanced = balanced; low = low; few = few }
all_performed large s ops (Err e) held from balanced low few = tt

-- runs of points

abbrev IsPutOp : Op → Type 0
IsPutOp op = is_put op ≡ true

-- what the items are

pub numbers_put-items : (ops : List Op) → numbers_put ops ≡ numbers_in (items_put ops)
numbers_put-items [] = refl
numbers_put-items (Mark c a ∷ ops) = numbers_put-items ops
numbers_put-items (Put n p ∷ ops) = ap (λ ns. n ∷ ns) (numbers_put-items ops)

pub items_put-length : (ops : List Op) → length (items_put ops) ≡ length (numbers_put ops)
items_put-length ops = sym (ap length (numbers_put-items ops) ∙ length-map (items_put ops) (λ (i : Item). i.number))

puts-length : (ops : List Op) → ArePuts ops → length (numbers_put ops) ≡ length ops
puts-length [] k = refl
puts-length (Mark c a ∷ ops) k = absurd (false≢true (All-head IsPutOp (Mark c a) ops k))
puts-length (Put n p ∷ ops) k = omega (arith, puts-length ops (All-tail IsPutOp (Put n p) ops k))

replay-put_each : (m : List Item) (ops : List Op) → ArePuts ops → replay m ops ≡ put_each m (items_put ops)
replay-put_each m [] k = refl
replay-put_each m (Mark c a ∷ ops) k = absurd (false≢true (All-head IsPutOp (Mark c a) ops k))
replay-put_each m (Put n p ∷ ops) k = replay-put_each (put m n p) ops (All-tail IsPutOp (Put n p) ops k)

-- where the operations fit, the items may join

distinct_new : (x : Item) (xs : List Item) → IsUnheld x.number xs → AreDistinct xs → AreDistinct (x ∷ xs)
distinct_new x xs new k = record {
  once = λ n.
      let held : ℕ → ℕ = λ m. count_by (λ i. m == i.number) xs in
      omega (arith, sum_by-cons (λ (i : Item). cond (n == i.number) 1 0) x xs, at_most_one n x.number (held n) (held x.number) (λ e. ap held e) (k.once n) new);
}

join_list : (w : List Item) (ops : List Op) → ArePuts ops → AreDistinct w → length w ≤ 4194304 → Fit (by_number w) ops → MayJoin w (items_put ops)
join_list w [] k d few f = record { live = All-nil IsLive; distinct = rw append-nil d; room = omega (arith, few) }
join_list w (Mark c a ∷ ops) k d few f = absurd (false≢true (All-head IsPutOp (Mark c a) ops k))
join_list w (Put n p ∷ ops) k d few f =
    let i = live_at n p in
    let is = items_put ops in
    let g : Item → ℕ = λ j. cond (n == j.number) 1 0 in
    let new : IsUnheld n w = omega (arith, sum_by-IsPermutation g w (by_number w) (by_number_moves w), f.0) in
    let once = distinct_new i w new d in
    let fit : Fit (by_number (i ∷ w)) ops = subst (λ m. Fit m ops) (sym (put_new i w refl once)) f.2 in
    let less : length w < 4194304 = omega (arith, length_permutation w (by_number w) (by_number_moves w), f.1) in
    let rest = join_list (i ∷ w) ops (All-tail IsPutOp (Put n p) ops k) once (omega (arith, less)) fit in
    record {
      live = All-cons IsLive i is refl rest.live;
      distinct = once_moved ((i ∷ w) ++ is) (w ++ i ∷ is) (IsPermutation-sym _ _ (IsPermutation-middle w i is)) rest.distinct;
      room = omega (arith, rest.room);
    }

pub run_join : (large : ℕ) (s : Shape) (ops : List Op) → IsSound s → IsRun large ops s → Fit (contents s) ops → MayJoin (contents s) (items_put ops)
run_join large s ops sound r f =
    join_list (contents s) ops r.puts (contents_distinct s sound) (omega (arith, r.few, contents_few s)) (subst (λ m. Fit m ops) (sym (by_number-contents s sound)) f)

-- a run may be put in one pass
pub run_piece : (large : ℕ) (s : Shape) (ops : List Op) → IsRun large ops s → MayJoin (contents s) (items_put ops) → IsPiece large s (items_put ops)
run_piece large s ops r k =
    let same = items_put-length ops ∙ puts-length ops r.puts in
    join_piece large s (items_put ops) k (omega (arith, same, r.small)) (omega (arith, same, r.short)) r.low (omega (arith, same, r.few))

-- and a tree that has grown by it has its operations done
pub run_performed : (large : ℕ) (s t : Shape) (ops : List Op) → IsRun large ops s → MayJoin (contents s) (items_put ops)
    → IsGrown s (items_put ops) t → (IsBalancedBelow large s → IsBalancedBelow large t) → IsPerformed large s ops t
run_performed large s t ops r k g balanced =
    let put = join_grown large s t (items_put ops) k g balanced in
    record {
      held = put.held ∙ sym (replay-put_each (contents s) ops r.puts);
      from = subst (λ ns. AreAmong (numbers t) (ns ++ numbers s)) (sym (numbers_put-items ops)) put.from;
      balanced = balanced;
      low = omega (arith, g.low, r.many, puts-length ops r.puts);
      few = omega (arith, g.few, items_put-length ops);
    }
