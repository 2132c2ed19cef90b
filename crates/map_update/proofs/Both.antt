-- Items that wait to be put where others are held, and what both are.
use Rattle.std.proofs.Common.{◌≡◌, ℕ, ◌+◌, ◌<◌, ◌≤◌, inl, Bool, true, false, not, cond, List, [], ◌∷◌, ◌++◌, None, length, refl, ap, sym, ◌∙◌, subst, arith, length-append, append_assoc}
use Rattle.std.specs.Prelude.{All, IsPermutation, count_by, filter, ◌==◌, ◌&&◌}
use Rattle.std.proofs.lemmas.Bool.{eqb-true}
use Rattle.std.proofs.lemmas.List.{append-nil}
use Rattle.std.proofs.lemmas.List.Elements.{All-append, All-contains, All-contains_itself, All-head, All-tail, All-weaker, filter-append}
use Rattle.std.proofs.lemmas.List.Sorted.{length_permutation, IsPermutation-sym, IsPermutation-to_front, sum_by-IsPermutation}
use Rattle.std.proofs.lemmas.List.Sums.{sum_by-append, sum_by-cons}
use Rattle.std.specs.Prelude.{Contains}
use Rattle.point_geom.specs.Place.{Bounds}
use Rattle.node_labels.specs.Labels.{is_live, thin_tag}
use Rattle.node_labels.specs.declared.label.Label.TheVariants.{Live}
use Rattle.map_items.specs.declared.item.Item.{Item}
use Rattle.map_fold.specs.Answers.{count, inside_all}
use Rattle.map_items.specs.Contents.{AreContents, in_box, mark, put}
use Rattle.map_items.specs.Ops.{IsUnheld}
use Rattle.map_items.proofs.Numbered.{contents_length}
use Rattle.map_items.proofs.Puts.{filter_none}
use Rattle.map_fold.proofs.Thinning.{inside_by, is_live_in, left_out, mark-thin}
use Rattle.kd_tree.specs.Contents.{AreDistinct, by_number, insert_item}
use Rattle.kd_tree.proofs.Held.{are_distinct, by_number-are}
use Rattle.kd_tree.proofs.Numbered.{by_number-filter, by_number-moved, by_number_moves, counted_in, insert-put, once_moved}
use Rattle.kd_search.specs.Best.{best_from, best_inside, best_of}
use Rattle.kd_search.proofs.Boxed.{count-by_number, inside-append}
use Rattle.kd_search.proofs.Least.{best-by_number, best_from-append, best_from-none}
use Rattle.kd_mark.specs.Refresh.{AreAmong}
use Rattle.kd_update.specs.Scan.{AreLive, MayJoin, put_each}
use Rattle.kd_update.proofs.Grown.{IsLive, live_of}

-- what is held and these items, by number
abbrev pub both : List Item → List Item → List Item
both m ws = by_number (m ++ ws)

-- no number occurs twice
pub distinct_both : (next : ℕ) (m ws : List Item) → AreContents 0 next (both m ws) → AreDistinct (m ++ ws)
distinct_both next m ws k =
    let xs = m ++ ws in
    once_moved (by_number xs) xs (IsPermutation-sym xs (by_number xs) (by_number_moves xs)) (are_distinct 0 next (by_number xs) k)

-- with nothing that waits it is what is held
pub none_held : (m : List Item) → by_number m ≡ m → both m [] ≡ m
none_held m e = ap by_number (append-nil m) ∙ e

-- a new number occurs once
distinct_new : (x : Item) (xs : List Item) → IsUnheld x.number xs → AreDistinct xs → AreDistinct (x ∷ xs)
distinct_new x xs new k = record { once = λ n. cases n (n == x.number) refl }
  where
    cases : (n : ℕ) (b : Bool) → (n == x.number) ≡ b → count_by (λ i. n == i.number) (x ∷ xs) ≤ 1
    cases n true e =
        let here : n ≡ x.number = eqb-true n x.number e in
        let one : ◌≡◌ {A = ℕ} (cond (n == x.number) 1 0) 1 = ap (λ (b : Bool). cond {A = ℕ} b 1 0) e in
        let none : IsUnheld n xs = subst (λ (m : ℕ). IsUnheld m xs) (sym here) new in
        omega (arith, sum_by-cons (λ (i : Item). cond (n == i.number) 1 0) x xs, none)
    cases n false e =
        let zero : ◌≡◌ {A = ℕ} (cond (n == x.number) 1 0) 0 = ap (λ (b : Bool). cond {A = ℕ} b 1 0) e in
        omega (arith, sum_by-cons (λ (i : Item). cond (n == i.number) 1 0) x xs, k.once n)

-- one more that waits is put
pub with_held : (m ws : List Item) (x : Item) → x.label ≡ Live → AreDistinct (m ++ ws) → IsUnheld x.number (both m ws) → both m (ws ++ x ∷ []) ≡ put (both m ws) x.number x.point
with_held m ws x live k new =
    let xs = m ++ ws in
    let all = m ++ (ws ++ x ∷ []) in
    let f : Item → ℕ = λ i. cond (x.number == i.number) 1 0 in
    let free : IsUnheld x.number xs = omega (arith, sum_by-IsPermutation f xs (by_number xs) (by_number_moves xs), new) in
    let moved : IsPermutation all (x ∷ xs) = subst (λ ys. IsPermutation ys (x ∷ xs)) (append_assoc m ws (x ∷ [])) (IsPermutation-to_front xs x) in
    let once : AreDistinct all = once_moved (x ∷ xs) all (IsPermutation-sym all (x ∷ xs) moved) (distinct_new x xs free k) in
    by_number-moved all (x ∷ xs) moved once
    ∙ ap (λ j. insert_item j (by_number xs)) (live_of x live)
    ∙ insert-put (by_number xs) x.number x.point (λ i there e. absurd (omega (arith, counted_in i x.number (by_number xs) there e, new)))

-- the first of what is still to be put has a number that isn't held
first_new : (m us vs : List Item) (x : Item) → AreDistinct (m ++ (us ++ x ∷ vs)) → IsUnheld x.number (by_number (m ++ us)) × AreDistinct (m ++ us)
first_new m us vs x k = (
  omega (arith, sum_by-IsPermutation (f x.number) (m ++ us) (by_number (m ++ us)) (by_number_moves (m ++ us)), parts x.number, own, k.once x.number),
  record { once = λ n. omega (arith, parts n, k.once n) },
)
  where
    f : ℕ → Item → ℕ
    f n i = cond (n == i.number) 1 0

    parts : (n : ℕ) → count_by (λ i. n == i.number) (m ++ (us ++ x ∷ vs)) ≡ count_by (λ i. n == i.number) (m ++ us) + count_by (λ i. n == i.number) (x ∷ vs)
    parts n = omega (arith, sum_by-append (f n) m (us ++ x ∷ vs), sum_by-append (f n) us (x ∷ vs), sum_by-append (f n) m us)

    own : 1 ≤ count_by (λ i. x.number == i.number) (x ∷ vs)
    own = counted_in x x.number (x ∷ vs) (inl refl) refl

put_more : (m us vs : List Item) → AreLive vs → AreDistinct (m ++ (us ++ vs)) → put_each (both m us) vs ≡ both m (us ++ vs)
put_more m us [] live k = ap (both m) (sym (append-nil us))
put_more m us (x ∷ vs) live k =
    let new = first_new m us vs x k in
    let same : (us ++ x ∷ []) ++ vs ≡ us ++ x ∷ vs = append_assoc us (x ∷ []) vs in
    ap (λ xs. put_each xs vs) (sym (with_held m us x (All-head IsLive x vs live) new.1 new.0))
    ∙ put_more m (us ++ x ∷ []) vs (All-tail IsLive x vs live) (subst (λ ys. AreDistinct (m ++ ys)) (sym same) k)
    ∙ ap (both m) same

-- all that wait, put one after the other
pub put_held : (next : ℕ) (m ws : List Item) → AreContents 0 next m → AreLive ws → AreContents 0 next (both m ws) → put_each m ws ≡ both m ws
put_held next m ws held live k = ap (λ xs. put_each xs ws) (sym (none_held m (by_number-are 0 next m held))) ∙ put_more m [] ws live (distinct_both next m ws k)

pub may_join : (next : ℕ) (m ws : List Item) → next ≤ 4194304 → AreLive ws → AreContents 0 next (both m ws) → MayJoin m ws
may_join next m ws few live k =
    let xs = m ++ ws in
    record {
      live = live;
      distinct = distinct_both next m ws k;
      room = omega (arith, few, contents_length 0 next (by_number xs) (omega arith) k, length_permutation xs (by_number xs) (by_number_moves xs), length-append m ws);
    }

-- numbers that come from two lists below a bound are below it
pub among_below : (next : ℕ) (ks ns ms : List ℕ) → AreAmong ms (ks ++ ns) → All (λ n. n < next) ks → All (λ n. n < next) ns → All (λ n. n < next) ms
among_below next ks ns ms among first second =
    let P : ℕ → Type 0 = λ n. n < next in
    All-weaker (λ n. Contains ms n) P (λ n k. All-contains P (ks ++ ns) n (All-append P ks ns first second) (among n k)) ms (All-contains_itself ms)

-- where a test lets nothing through, its contrary lets all through
all_left : (p : Item → Bool) (xs : List Item) → filter p xs ≡ [] → filter (λ x. not (p x)) xs ≡ xs
all_left p [] e = refl
all_left p (x ∷ xs) e = let parts = filter_none p x xs e in rw parts.0 (ap (λ ys. x ∷ ys) (all_left p xs parts.1))

-- what remains of both without what is live in the box
cleared_held : (c : Bounds) (next : ℕ) (m ws : List Item) → AreContents 0 next (both m ws) → AreContents 0 next m
    → both (mark m (in_box c) thin_tag) (filter (left_out c) ws) ≡ mark (both m ws) (in_box c) thin_tag
cleared_held c next m ws k h =
    ap (λ xs. by_number (xs ++ filter (left_out c) ws)) (mark-thin c 0 next m h)
    ∙ ap by_number (sym (filter-append (left_out c) m ws))
    ∙ by_number-filter (left_out c) (m ++ ws)
    ∙ sym (mark-thin c 0 next (both m ws) k)

-- the best of what is held, and then of what waits
best_both : (c : Bounds) (m ws : List Item) → AreDistinct (m ++ ws) → best_from c (best_inside m c) (inside_all ws c) ≡ best_inside (both m ws) c
best_both c m ws distinct =
    let xs = inside_all m c in
    let ys = inside_all ws c in
    ap (λ b. best_from c b ys) (sym (best_from-none c xs))
    ∙ sym (best_from-append c None xs ys)
    ∙ best_from-none c (xs ++ ys)
    ∙ ap (best_of c) (sym (inside-append c m ws))
    ∙ sym (best-by_number c (m ++ ws) distinct)

-- how many of both are live in the box
count_both : (c : Bounds) (m ws : List Item) → count (both m ws) c ≡ count m c + length (filter (is_live_in c) ws)
count_both c m ws =
    count-by_number c (m ++ ws)
    ∙ ap length (inside-append c m ws)
    ∙ length-append (inside_all m c) (inside_all ws c)
    ∙ ap (λ xs. count m c + length xs) (inside_by c ws)

not_both : (a b : Bool) → b ≡ false → (a && b) ≡ false
not_both true b e = e
not_both false b e = refl

-- where nothing that waits is in the box, nothing of it is live there
none_live : (c : Bounds) (ws : List Item) → All (λ i. in_box c i ≡ false) ws → filter (is_live_in c) ws ≡ []
none_live c [] k = refl
none_live c (x ∷ ws) k =
    let P : Item → Type 0 = λ i. in_box c i ≡ false in
    let out : is_live_in c x ≡ false = not_both (is_live x.label) (in_box c x) (All-head P x ws k) in rw out (none_live c ws (All-tail P x ws k))

-- then what is held alone is thinned
pub cleared_clear : (c : Bounds) (high : ℕ) (m ws : List Item) → All (λ i. in_box c i ≡ false) ws → AreContents 0 high (both m ws) → AreContents 0 high m
    → both (mark m (in_box c) thin_tag) ws ≡ mark (both m ws) (in_box c) thin_tag
cleared_clear c high m ws clear k h = ap (both (mark m (in_box c) thin_tag)) (sym (all_left (is_live_in c) ws (none_live c ws clear))) ∙ cleared_held c high m ws k h

-- and its best is that of both
pub best_clear : (c : Bounds) (m ws : List Item) → All (λ i. in_box c i ≡ false) ws → AreDistinct (m ++ ws) → best_inside m c ≡ best_inside (both m ws) c
best_clear c m ws clear distinct = ap (best_from c (best_inside m c)) (sym (inside_by c ws ∙ none_live c ws clear)) ∙ best_both c m ws distinct

-- and so is the count
pub count_clear : (c : Bounds) (m ws : List Item) → All (λ i. in_box c i ≡ false) ws → count m c ≡ count (both m ws) c
count_clear c m ws clear = let none = ap length (none_live c ws clear) in omega (arith, count_both c m ws, none)
