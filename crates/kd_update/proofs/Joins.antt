-- Items put to those that are held, one after the other and at once.
use Rattle.std.proofs.Common.{◌≡◌, ℕ, ◌+◌, ◌<◌, ◌≤◌, max, cond, refl, ap, ◌∙◌, sym, subst, arith, List, [], ◌∷◌, ◌++◌, length, length-append, append_assoc, IsPermutation, count_by, ◌==◌, eq-eqb}
use Rattle.std.proofs.lemmas.List.{map-append, append-nil}
use Rattle.std.proofs.lemmas.List.Elements.{All-cons, All-head, All-nil, All-tail}
use Rattle.std.proofs.lemmas.List.Sorted.{Contains-permutation, length_permutation, IsPermutation-sym, IsPermutation-append_left, IsPermutation-append_comm, IsPermutation-middle}
use Rattle.std.proofs.lemmas.List.Sums.{sum_by-cons}
use Rattle.point_geom.specs.Place.{Place}
use Rattle.node_labels.specs.Labels.{keep_tag}
use Rattle.node_labels.specs.declared.label.Label.TheVariants.{Live}
use Rattle.map_items.specs.declared.item.Item.{Item}
use Rattle.map_items.specs.Contents.{AreContents, live_at, put}
use Rattle.map_items.specs.Fold.{add_points}
use Rattle.map_items.proofs.Numbered.{contents_length, contents_push}
use Rattle.kd_tree.specs.Shape.{Shape, levels, nodes, numbers}
use Rattle.kd_tree.specs.Walk.{walk, times}
use Rattle.kd_tree.specs.Contents.{AreDistinct, by_number, contents, insert_item}
use Rattle.kd_tree.proofs.Contents.{times_contents}
use Rattle.kd_tree.proofs.Held.{are_distinct}
use Rattle.kd_tree.proofs.Numbered.{by_number-moved, by_number_moves, counted_in, insert-put, numbered_from, once_moved}
use Rattle.kd_mark.specs.Refresh.{AreAmong}
use Rattle.kd_mark.specs.Update.{IsBalancedBelow}
use Rattle.kd_update.specs.Scan.{AreLive, IsGrown, IsPiece, IsPut, MayJoin, live_from, numbers_in, put_each}
use Rattle.kd_mark.proofs.Trees.{among_same}
use Rattle.kd_mark.proofs.Among.{among_then}
use Rattle.kd_update.proofs.Grown.{IsLive, all_first, all_last, distinct_front, live_of, new_first}
use Rattle.kd_update.specs.declared.limits.TheConstants.{MAX_PASS_LEVELS}

-- items put one after the other

pub put_each-append : (m xs ys : List Item) → put_each m (xs ++ ys) ≡ put_each (put_each m xs) ys
put_each-append m [] ys = refl
put_each-append m (i ∷ xs) ys = put_each-append (put m i.number i.point) xs ys

-- a new item comes to its place
pub put_new : (i : Item) (xs : List Item) → i.label ≡ Live → AreDistinct (i ∷ xs) → insert_item i (by_number xs) ≡ put (by_number xs) i.number i.point
put_new i xs live d =
    let g : Item → ℕ = λ k. cond (i.number == k.number) 1 0 in
    let here : g i ≡ 1 = rw (eq-eqb i.number i.number refl) refl in
    ap (λ j. insert_item j (by_number xs)) (live_of i live)
    ∙ insert-put (by_number xs) i.number i.point (λ j m e. omega (arith, here, d.once i.number, sum_by-cons g i xs, counted_in j i.number xs (numbered_from j xs m) e))

-- items put one after the other are those of both lists by number
pub by_number-put_each : (xs is : List Item) → AreDistinct (xs ++ is) → AreLive is → by_number (xs ++ is) ≡ put_each (by_number xs) is
by_number-put_each xs [] d k = ap by_number (append-nil xs)
by_number-put_each xs (i ∷ is) d k =
    let moved : IsPermutation (xs ++ i ∷ is) (i ∷ (xs ++ is)) = IsPermutation-middle xs i is in
    let distinct : AreDistinct ((i ∷ xs) ++ is) = once_moved (xs ++ i ∷ is) (i ∷ (xs ++ is)) moved d in
    by_number-moved (xs ++ i ∷ is) (i ∷ (xs ++ is)) moved d
    ∙ by_number-put_each (i ∷ xs) is distinct (All-tail IsLive i is k)
    ∙ ap (λ m. put_each m is) (put_new i xs (All-head IsLive i is k) (distinct_front (i ∷ xs) is distinct))

-- a tree with items put

pub put_none : (large : ℕ) (s : Shape) → IsPut large s [] s
put_none large s = record { held = refl; from = among_same (numbers s); few = omega arith; balanced = λ k. k }

pub put_then : (large : ℕ) (s t u : Shape) (xs ys : List Item) → IsPut large s xs t → IsPut large t ys u → IsPut large s (xs ++ ys) u
put_then large s t u xs ys f g = record {
  held = g.held ∙ ap (λ m. put_each m ys) f.held ∙ sym (put_each-append (contents s) xs ys);
  from =
      subst (λ z. AreAmong (numbers u) (z ++ numbers s)) (sym (map-append (λ (i : Item). i.number) xs ys))
      (among_then (numbers_in xs) (numbers_in ys) (numbers s) (numbers t) (numbers u) f.from g.from);
  few = omega (arith, f.few, g.few, length-append xs ys);
  balanced = λ k. g.balanced (f.balanced k);
}

-- items that may join what a tree holds

pub walk_distinct : (s : Shape) (is : List Item) → AreDistinct (contents s ++ is) → AreDistinct (walk keep_tag s ++ is)
walk_distinct s is d = once_moved _ _ (IsPermutation-append_left is _ _ (IsPermutation-sym _ _ (by_number_moves (walk keep_tag s)))) d

pub contents_size : (s : Shape) → length (contents s) ≡ length (walk keep_tag s)
contents_size s = length_permutation (walk keep_tag s) (contents s) (by_number_moves (walk keep_tag s))

pub join_piece : (large : ℕ) (s : Shape) (is : List Item) → MayJoin (contents s) is → length is < max 2 large
    → length is < 4194304 → levels s ≤ MAX_PASS_LEVELS → nodes s + length is ≤ 4194304 → IsPiece large s is
join_piece large s is k small short low few = record { live = k.live; distinct = walk_distinct s is k.distinct; small = small; short = short; low = low; few = few }

-- what a tree that has grown by them holds, and what numbers it has
pub grown_held : (s t : Shape) (is : List Item) → AreLive is → AreDistinct (walk keep_tag s ++ is) → IsGrown s is t → contents t ≡ put_each (contents s) is
grown_held s t is live distinct g = sym (by_number-moved (walk keep_tag s ++ is) (walk keep_tag t) g.same distinct) ∙ by_number-put_each (walk keep_tag s) is distinct live

pub grown_numbers : (s t : Shape) (is : List Item) → IsGrown s is t → AreAmong (numbers t) (numbers_in is ++ numbers s)
grown_numbers s t is g n c = Contains-permutation _ _ n (IsPermutation-append_comm (numbers s) (numbers_in is)) (g.from n c)

-- a tree that has grown by them has them put
pub join_grown : (large : ℕ) (s t : Shape) (is : List Item) → MayJoin (contents s) is → IsGrown s is t → (IsBalancedBelow large s → IsBalancedBelow large t) → IsPut large s is t
join_grown large s t is k g balanced = record { held = grown_held s t is k.live (walk_distinct s is k.distinct) g; from = grown_numbers s t is g; few = g.few; balanced = balanced }

pub join_first : (m xs ys : List Item) → MayJoin m (xs ++ ys) → MayJoin m xs
join_first m xs ys k = record {
  live = all_first IsLive xs ys k.live;
  distinct = distinct_front (m ++ xs) ys (subst AreDistinct (sym (append_assoc m xs ys)) k.distinct);
  room = omega (arith, k.room, length-append xs ys);
}

-- and when the first of them are put, the others still may
pub join_rest : (s t : Shape) (xs ys : List Item) → MayJoin (contents s) (xs ++ ys) → contents t ≡ put_each (contents s) xs → MayJoin (contents t) ys
join_rest s t xs ys k e =
    let w = walk keep_tag s in
    let both : AreDistinct ((w ++ xs) ++ ys) = subst AreDistinct (sym (append_assoc w xs ys)) (walk_distinct s (xs ++ ys) k.distinct) in
    let is : contents t ≡ by_number (w ++ xs) = e ∙ sym (by_number-put_each w xs (distinct_front (w ++ xs) ys both) (all_first IsLive xs ys k.live)) in
    let moved : IsPermutation (w ++ xs) (contents t) = subst (IsPermutation (w ++ xs)) (sym is) (by_number_moves (w ++ xs)) in
    record {
      live = all_last IsLive xs ys k.live;
      distinct = once_moved _ _ (IsPermutation-append_left ys _ _ moved) both;
      room = omega (arith, k.room, length_permutation (w ++ xs) (contents t) moved, length-append w xs, length-append xs ys, contents_size s);
    }

-- the number of the first isn't held
pub join_new : (m is : List Item) (i : Item) (s : Shape) → contents s ≡ m → MayJoin m (i ∷ is) → times i.number keep_tag s ≡ 0
join_new m is i s e k = omega (arith, new_first m is i k.distinct, times_contents i.number s, ap (count_by (λ (j : Item). i.number == j.number)) e)

-- points under the numbers that come next

pub live_from-length : (n : ℕ) (ps : List Place) → length (live_from n ps) ≡ length ps
live_from-length n [] = refl
live_from-length n (p ∷ ps) = omega (arith, live_from-length (n + 1) ps)

live_from_live : (n : ℕ) (ps : List Place) → AreLive (live_from n ps)
live_from_live n [] = All-nil IsLive
live_from_live n (p ∷ ps) = All-cons IsLive (live_at n p) (live_from (n + 1) ps) refl (live_from_live (n + 1) ps)

contents_more : (n : ℕ) (m : List Item) (ps : List Place) → AreContents 0 n m → AreContents 0 (n + length ps) (m ++ live_from n ps)
contents_more n m [] k =
    let same : n ≡ n + 0 = omega arith in
    rw append-nil (subst (λ h. AreContents 0 h m) same k)
contents_more n m (p ∷ ps) k =
    let one = m ++ live_at n p ∷ [] in
    let more = contents_more (n + 1) one ps (contents_push 0 n m p (omega arith) k) in
    let high : n + 1 + length ps ≡ n + length (p ∷ ps) = omega arith in
    subst (λ h. AreContents 0 h (m ++ live_from n (p ∷ ps))) high (subst (AreContents 0 (n + 1 + length ps)) (append_assoc m (live_at n p ∷ []) (live_from (n + 1) ps)) more)

pub join_next : (n : ℕ) (m : List Item) (ps : List Place) → AreContents 0 n m → n + length ps ≤ 4194304 → MayJoin m (live_from n ps)
join_next n m ps k few = record {
  live = live_from_live n ps;
  distinct = are_distinct 0 (n + length ps) (m ++ live_from n ps) (contents_more n m ps k);
  room = omega (arith, few, live_from-length n ps, contents_length 0 n m (omega arith) k);
}

-- what they add
pub add_points-put_each : (n : ℕ) (m : List Item) (ps : List Place) → add_points ps (record { items = m; next = n }) ≡ record { items = put_each m (live_from n ps); next = n + length ps }
add_points-put_each n m [] = let same : n ≡ n + 0 = omega arith in ap (λ k. record { items = m; next = k }) same
add_points-put_each n m (p ∷ ps) =
    let same : n + 1 + length ps ≡ n + length (p ∷ ps) = omega arith in
    add_points-put_each (n + 1) (put m n p) ps ∙ ap (λ k. record { items = put_each (put m n p) (live_from (n + 1) ps); next = k }) same
