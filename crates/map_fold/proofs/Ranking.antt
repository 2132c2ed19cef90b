-- Hits in order, of which the first k are kept.
use Rattle.std.proofs.Common.{◌≡◌, ℕ, zero, suc, ◌+◌, ◌≤◌, true, false, cond, List, [], ◌∷◌, ◌++◌, ◌<◌, ◌-◌, length, length-append, take, drop, get_or, refl, sym, ap, ◌∙◌, arith, append_assoc}
use Rattle.std.specs.List.{insert}
use lib.Seq.{paste}
use Rattle.std.proofs.Math.ListN.{set}
use Rattle.std.proofs.Math.Seq.{take-suc, set-append_seam, take-append_seam}
use Rattle.std.proofs.lemmas.List.{take_all, drop_all, take-take, drop-take, length-take-le, append-nil}
use Rattle.std.specs.declared.option.Option.{Option}
use Rattle.point_geom.specs.Place.{Place}
use Rattle.node_labels.specs.Labels.{is_live}
use Rattle.map_fold.specs.declared.hits.Hit.{Hit}
use Rattle.map_items.specs.declared.item.Item.{Item}
use Rattle.map_fold.specs.Answers.{put_hit, is_nearer, hit_of, is_within, nearest, in_order, candidates}

-- the first n of the first n + 1
pub take-take_suc : {X : Type 0} (n : ℕ) (xs : List X) → take n (take (suc n) xs) ≡ take n xs
take-take_suc zero xs = refl
take-take_suc (suc n) [] = refl
take-take_suc (suc n) (x ∷ xs) = ap (λ ys. x ∷ ys) (take-take_suc n xs)

-- what is beyond the first k never comes among them
pub put_hit-take : (k : ℕ) (h : Hit) (xs : List Hit) → take k (put_hit h (take k xs)) ≡ take k (put_hit h xs)
put_hit-take zero h xs = refl
put_hit-take (suc k) h [] = refl
put_hit-take (suc k) h (g ∷ xs) =
    elim (is_nearer g h) as (λ b. take (suc k) (cond b (g ∷ put_hit h (take k xs)) (h ∷ g ∷ take k xs)) ≡ take (suc k) (cond b (g ∷ put_hit h xs) (h ∷ g ∷ xs))) [
      | true ↦ ap (λ ys. g ∷ ys) (put_hit-take k h xs)
      | false ↦ ap (λ ys. h ∷ ys) (behind k g xs)
    ]
  where
    behind : (k : ℕ) (g : Hit) (xs : List Hit) → take k (g ∷ take k xs) ≡ take k (g ∷ xs)
    behind zero g xs = refl
    behind (suc k) g xs = ap (λ ys. g ∷ ys) (take-take_suc k xs)

-- to leave out what is beyond the first n before one is put in, or after it
pub insert-take : {X : Type 0} (at n : ℕ) (xs : List X) (x : X) → at ≤ n → insert (take n xs) at x ≡ take (suc n) (insert xs at x)
insert-take zero n xs x h = refl
insert-take (suc at) zero xs x h = absurd (omega arith)
insert-take (suc at) (suc n) [] x h = refl
insert-take (suc at) (suc n) (y ∷ xs) x h = ap (λ ys. y ∷ ys) (insert-take at n xs x (omega arith))

-- one is put in
pub length-insert : {X : Type 0} (at : ℕ) (xs : List X) (x : X) → length (insert xs at x) ≡ length xs + 1
length-insert zero xs x = omega arith
length-insert (suc at) [] x = refl
length-insert (suc at) (y ∷ xs) x = omega (arith, length-insert at xs x)

-- a list without its last, which was pushed
pub take-pushed : {X : Type 0} (xs ys : List X) (x : X) → ys ≡ xs ++ x ∷ [] → take (length ys - 1) ys ≡ xs
take-pushed xs ys x e =
    let short : length ys - 1 ≡ length xs = omega (arith, ap length e, length-append xs (x ∷ [])) in
    ap (λ n. take n ys) short ∙ ap (λ zs. take (length xs) zs) e ∙ take-append_seam xs (x ∷ [])

-- those from at on move up by one, over the last, and x takes their first place
pub set-shifted : {X : Type 0} (at next last room : ℕ) (xs : List X) (x : X) → next ≡ suc at → length xs ≡ suc last → at + room ≡ last
    → set (paste xs next (drop at xs) room) at x ≡ insert (take last xs) at x
set-shifted at next last room xs x e long rest =
    let below : at < length xs = omega arith in
    let moved = take room (drop at xs) in
    let none : drop (next + room) xs ≡ [] = drop_all (next + room) xs (omega arith) in
    let front : take next xs ≡ take at xs ++ get_or xs at x ∷ [] = rw e (take-suc xs at x below) in
    let here : length (take at xs) ≡ at = length-take-le at xs (omega arith) in
    let seam : set (take at xs ++ get_or xs at x ∷ moved) at x ≡ take at xs ++ x ∷ moved =
    ap (λ n. set (take at xs ++ get_or xs at x ∷ moved) n x) (sym here) ∙ set-append_seam (take at xs) (get_or xs at x) moved x in
    let first : take at (take last xs) ≡ take at xs = take-take at last xs (omega arith) in
    let second : drop at (take last xs) ≡ moved = rw (← rest) (drop-take at room xs) in
    ap (λ ys. set ((take next xs ++ moved) ++ ys) at x) none
    ∙ ap (λ ys. set ys at x) (append-nil (take next xs ++ moved))
    ∙ ap (λ ys. set (ys ++ moved) at x) front
    ∙ ap (λ ys. set ys at x) (append_assoc (take at xs) (get_or xs at x ∷ []) moved)
    ∙ seam
    ∙ ap (λ ys. ys ++ x ∷ moved) (sym first)
    ∙ ap (λ ys. take at (take last xs) ++ x ∷ ys) (sym second)

-- one is put in over the last of k, or before one that was pushed for it
pub insert-full : {X : Type 0} (k at : ℕ) (xs : List X) (x : X) → at < k → length xs ≡ k → insert (take (length xs - 1) xs) at x ≡ take k (insert xs at x)
insert-full k at xs x below full =
    insert-take at (length xs - 1) xs x (omega arith) ∙ ap (λ n. take n (insert xs at x)) (let e : suc (length xs - 1) ≡ k = omega arith in e)

pub insert-room : {X : Type 0} (k at : ℕ) (xs ys : List X) (x : X) → length xs < k → ys ≡ xs ++ x ∷ [] → insert (take (length ys - 1) ys) at x ≡ take k (insert xs at x)
insert-room k at xs ys x room pushed =
    ap (λ zs. insert zs at x) (take-pushed xs ys x pushed) ∙ sym (take_all k (insert xs at x) (omega (arith, length-insert at xs x)))

-- one more item that is live and near enough
pub nearest-cons : (i : Item) (rest : List Item) (k : ℕ) (q : Place) (r : Option ℕ) → is_live i.label ≡ true → is_within r (hit_of q i) ≡ true
    → take k (put_hit (hit_of q i) (nearest rest k q r)) ≡ nearest (i ∷ rest) k q r
nearest-cons i rest k q r live near = rw (live, near) (put_hit-take k (hit_of q i) (in_order (candidates rest q r)))
