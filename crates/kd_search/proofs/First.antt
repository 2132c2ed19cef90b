-- Items kept in the order of their numbers, up to a count: what comes too late, and that either of two lists may come first.
use Rattle.std.proofs.Common.{◌≡◌, ℕ, zero, suc, ◌<◌, ◌≤◌, ◌-◌, ◌⊎◌, get_or, inl, inr, arith, Bool, true, false, List, [], ◌∷◌, ◌++◌, length, take, refl, sym, ap, ◌∙◌, subst}
use Rattle.std.specs.Prelude.{filter, nat_lt}
use Rattle.std.proofs.Math.Seq.{take-append_seam}
use Rattle.std.proofs.lemmas.Bool.{cases_Bool, cond_both, cond-true, cond-false, false_from_ne_true, lt-ltb, ltb-true, ltb-false}
use Rattle.std.proofs.lemmas.List.{take_all}
use Rattle.point_geom.specs.Place.{Bounds}
use Rattle.node_labels.specs.Labels.{is_live}
use Rattle.map_items.specs.declared.item.Item.{Item}
use Rattle.map_items.specs.Contents.{Member, in_box, kept, live_items}
use Rattle.map_fold.specs.Answers.{inside_all}
use Rattle.map_fold.proofs.Found.{member-filter}
use Rattle.kd_tree.specs.Contents.{AreDistinct, insert_item}
use Rattle.kd_search.specs.First.{AreFrom, AreTo, Ascend, AreFirst, AreFullTo}
use Rattle.kd_search.specs.Inserted.{insert_all}
use Rattle.kd_search.specs.Sides.{IsEitherWay}
use Rattle.kd_search.proofs.Boxed.{inside-top}
use Rattle.kd_search.proofs.Inserted.{insert_item-take, insert_all-append, in_turn}
use Rattle.kd_search.proofs.Others.{AreApart, three_of}

from_less : (a b : ℕ) (m : List Item) → a ≤ b → AreFrom b m → AreFrom a m
from_less a b [] h k = tt
from_less a b (i ∷ m) h k = (omega (arith, k.0), from_less a b m h k.1)

insert_from : (n : ℕ) (i : Item) (m : List Item) → n ≤ i.number → AreFrom n m → AreFrom n (insert_item i m)
insert_from n i [] h k = (h, tt)
insert_from n i (j ∷ m) h k = cond_both (nat_lt i.number j.number) _ _ (AreFrom n) (λ _. (h, k)) (λ _. (k.0, insert_from n i m h k.1))

insert_ascend : (i : Item) (m : List Item) → Ascend m → Ascend (insert_item i m)
insert_ascend i [] k = (tt, tt)
insert_ascend i (j ∷ m) k =
    cond_both (nat_lt i.number j.number) _ _ Ascend
    (λ e. let h : i.number < j.number = ltb-true i.number j.number e in ((omega arith, from_less i.number j.number m (omega arith) k.0), k))
    (λ e. (insert_from j.number i m (ltb-false i.number j.number e) k.0, insert_ascend i m k.1))

insert_all_ascend : (found m : List Item) → Ascend m → Ascend (insert_all found m)
insert_all_ascend [] m h = h
insert_all_ascend (i ∷ found) m h = insert_ascend i (insert_all found m) (insert_all_ascend found m h)

take_from : (n k : ℕ) (m : List Item) → AreFrom n m → AreFrom n (take k m)
take_from n zero m h = tt
take_from n (suc k) [] h = tt
take_from n (suc k) (i ∷ m) h = (h.0, take_from n k m h.1)

take_ascend : (k : ℕ) (m : List Item) → Ascend m → Ascend (take k m)
take_ascend zero m h = tt
take_ascend (suc k) [] h = tt
take_ascend (suc k) (i ∷ m) h = (take_from i.number k m h.0, take_ascend k m h.1)

take_few : (k : ℕ) (m : List Item) → length (take k m) ≤ k
take_few zero m = omega arith
take_few (suc k) [] = omega arith
take_few (suc k) (i ∷ m) = omega (arith, take_few k m)

-- nothing is held yet
pub first_none : (k : ℕ) (items : List Item) → items ≡ [] → AreFirst k items
first_none k items e = subst (AreFirst k) (sym e) (record { few = omega arith; order = tt })

-- after more items the first k are held
pub first_more : (k : ℕ) (found items new : List Item) → AreFirst k items → new ≡ take k (insert_all found items) → AreFirst k new
first_more k found items new h e =
    subst (AreFirst k) (sym e) (record { few = take_few k (insert_all found items); order = take_ascend k (insert_all found items) (insert_all_ascend found items h.order) })

-- no more items leave what is held
pub first_same : (k : ℕ) (found items : List Item) → AreFirst k items → found ≡ [] → items ≡ take k (insert_all found items)
first_same k found items h e = sym (ap (λ z. take k (insert_all z items)) e ∙ take_all k items h.few)

from_at : (n j : ℕ) (m : List Item) (x : Item) → AreFrom n m → j < length m → n ≤ (get_or m j x).number
from_at n j [] x h l = absurd (omega arith)
from_at n zero (i ∷ m) x h l = h.0
from_at n (suc j) (i ∷ m) x h l = from_at n j m x h.1 (omega arith)

to_at : (n j : ℕ) (m : List Item) (x : Item) → Ascend m → length m ≡ suc j → (get_or m j x).number ≤ n → AreTo n m
to_at n j [] x h l e = tt
to_at n zero (i ∷ []) x h l e = (e, tt)
to_at n zero (i ∷ j ∷ m) x h l e = absurd (omega arith)
to_at n (suc j) (i ∷ m) x h l e = (omega (arith, from_at i.number j m x h.0 (omega arith), e), to_at n j m x h.1 (omega arith) e)

-- where the last of k items has at most this number, all have
pub full_to : (k n : ℕ) (m : List Item) (x : Item) → 1 ≤ k → AreFirst k m → k ≤ length m → (get_or m (k - 1) x).number ≤ n → AreFullTo k m n
full_to k n m x some h l e = record { all = omega (arith, h.few); to = to_at n (k - 1) m x h.order (omega (arith, h.few)) e }

insert_behind : (n : ℕ) (i : Item) (m : List Item) → n ≤ i.number → AreTo n m → insert_item i m ≡ m ++ i ∷ []
insert_behind n i [] h k = refl
insert_behind n i (j ∷ m) h k =
    let low : j.number ≤ n = k.0 in
    cond-false (nat_lt i.number j.number) _ _ (false_from_ne_true _ (λ e. let less : i.number < j.number = ltb-true i.number j.number e in absurd (omega arith)))
    ∙ ap (λ z. j ∷ z) (insert_behind n i m h k.1)

take-front : (k : ℕ) (m more : List Item) → length m ≡ k → take k (m ++ more) ≡ m
take-front k m more e = subst (λ n. take n (m ++ more) ≡ m) e (take-append_seam m more)

full_stays : (k n : ℕ) (found items : List Item) → AreFullTo k items n → AreFrom n found → items ≡ take k (insert_all found items)
full_stays k n [] items f h = sym (take_all k items (omega (arith, f.all)))
full_stays k n (i ∷ found) items f h =
    sym (
    sym (insert_item-take k i (insert_all found items)) ∙ ap (λ z. take k (insert_item i z)) (sym (full_stays k n found items f h.1))
    ∙ ap (take k) (insert_behind n i items h.0 f.to) ∙ take-front k items (i ∷ []) f.all
    )

filter_from : (n : ℕ) (p : Item → Bool) (m : List Item) → AreFrom n m → AreFrom n (filter p m)
filter_from n p [] h = tt
filter_from n p (i ∷ m) h = cond_both (p i) _ _ (AreFrom n) (λ _. (h.0, filter_from n p m h.1)) (λ _. filter_from n p m h.1)

-- what has no lower number than k that are held doesn't come among them
pub left_behind : (k n : ℕ) (c : Bounds) (m items : List Item) → AreFullTo k items n → AreFrom n m → items ≡ take k (insert_all (inside_all m c) items)
left_behind k n c m items f h = full_stays k n (inside_all m c) items f (filter_from n (in_box c) (live_items m) (filter_from n (λ i. is_live i.label) m h))

insert_by : (i x : Item) (m : List Item) → nat_lt i.number x.number ≡ false → insert_item i (x ∷ m) ≡ x ∷ insert_item i m
insert_by i x m e = cond-false (nat_lt i.number x.number) _ _ e

insert_front : (i x : Item) (m : List Item) → nat_lt i.number x.number ≡ true → insert_item i (x ∷ m) ≡ i ∷ x ∷ m
insert_front i x m e = cond-true (nat_lt i.number x.number) _ _ e

not_less : (a b : ℕ) → a ≤ b → nat_lt b a ≡ false
not_less a b h = false_from_ne_true _ (λ e. let less : b < a = ltb-true b a e in absurd (omega arith))

-- of two items the one with the lesser number may be put in first
lesser_first : (a b : Item) (m : List Item) → a.number < b.number → insert_item a (insert_item b m) ≡ insert_item b (insert_item a m)
lesser_first a b [] h = insert_front a b [] (lt-ltb a.number b.number h) ∙ sym (insert_by b a [] (not_less a.number b.number (omega arith)))
lesser_first a b (x ∷ m) h = elim (cases_Bool (nat_lt a.number x.number)) [
  | inl ax ↦ sym (ap (insert_item b) (insert_front a x m ax) ∙ insert_by b a (x ∷ m) (not_less a.number b.number (omega arith)) ∙ sym (later (cases_Bool (nat_lt b.number x.number)) ax))
  | inr ax ↦
      let low : x.number ≤ a.number = ltb-false a.number x.number ax in
      let bx : nat_lt b.number x.number ≡ false = not_less x.number b.number (omega arith) in
      ap (insert_item a) (insert_by b x m bx) ∙ insert_by a x (insert_item b m) ax ∙ ap (λ z. x ∷ z) (lesser_first a b m h)
      ∙ sym (insert_by b x (insert_item a m) bx) ∙ ap (insert_item b) (sym (insert_by a x m ax))
]
  where
    later : (nat_lt b.number x.number ≡ true) ⊎ (nat_lt b.number x.number ≡ false) → nat_lt a.number x.number ≡ true → insert_item a (insert_item b (x ∷ m)) ≡ a ∷ insert_item b (x ∷ m)
    later (inl bx) ax = ap (insert_item a) (insert_front b x m bx) ∙ insert_front a b (x ∷ m) (lt-ltb a.number b.number h) ∙ ap (λ z. a ∷ z) (sym (insert_front b x m bx))
    later (inr bx) ax = ap (insert_item a) (insert_by b x m bx) ∙ insert_front a x (insert_item b m) ax ∙ ap (λ z. a ∷ z) (sym (insert_by b x m bx))

-- either of two items with different numbers may be put in first
insert_item-insert_item : (a b : Item) (m : List Item) → (a.number ≡ b.number → ⊥) → insert_item a (insert_item b m) ≡ insert_item b (insert_item a m)
insert_item-insert_item a b m other = elim (cases_Bool (nat_lt a.number b.number)) [
  | inl less ↦ lesser_first a b m (ltb-true a.number b.number less)
  | inr from ↦ let low : b.number ≤ a.number = ltb-false a.number b.number from in sym (lesser_first b a m (omega arith))
]

-- no number of the one is that of an item of the other
abbrev pub ItemsApart : List Item → List Item → Type 0
ItemsApart xs ys = (i j : Item) → Member i xs → Member j ys → i.number ≡ j.number → ⊥

insert_all-insert_item : (xs : List Item) (i : Item) (m : List Item) → ((j : Item) → Member j xs → j.number ≡ i.number → ⊥) → insert_all xs (insert_item i m) ≡ insert_item i (insert_all xs m)
insert_all-insert_item [] i m k = refl
insert_all-insert_item (x ∷ xs) i m k =
    ap (insert_item x) (insert_all-insert_item xs i m (λ j n. k j (inr n))) ∙ insert_item-insert_item x i (insert_all xs m) (k x (inl refl))

-- so may either of two lists
insert_all-insert_all : (xs ys m : List Item) → ItemsApart xs ys → insert_all xs (insert_all ys m) ≡ insert_all ys (insert_all xs m)
insert_all-insert_all [] ys m k = refl
insert_all-insert_all (x ∷ xs) ys m k =
    ap (insert_item x) (insert_all-insert_all xs ys m (λ i j n. k i j (inr n)))
    ∙ sym (insert_all-insert_item ys x (insert_all xs m) (λ j n e. k x j (inl refl) n (sym e)))

inside_apart : (c : Bounds) (xs ys : List Item) → AreApart xs ys → ItemsApart (inside_all xs c) (inside_all ys c)
inside_apart c xs ys k i j m n e = k i j (member-filter (in_box c) i (live_items xs) m).0 (member-filter (in_box c) j (live_items ys) n).0 e

turned : (top xs ys m : List Item) → ItemsApart xs ys → insert_all (top ++ (xs ++ ys)) m ≡ insert_all (top ++ (ys ++ xs)) m
turned top xs ys m k =
    insert_all-append top (xs ++ ys) m
    ∙ ap (insert_all top) (insert_all-append xs ys m ∙ insert_all-insert_all xs ys m k ∙ sym (insert_all-append ys xs m))
    ∙ sym (insert_all-append top (ys ++ xs) m)

either_way : (c : Bounds) (i : Item) (first second children m : List Item) → AreApart first second → IsEitherWay children first second
    → insert_all (inside_all (i ∷ []) c ++ (inside_all second c ++ inside_all first c)) m ≡ insert_all (inside_all (kept (i ∷ []) ++ children) c) m
either_way c i first second children m k (inl e) =
    turned (inside_all (i ∷ []) c) (inside_all second c) (inside_all first c) m (inside_apart c second first (λ a b n o x. k b a o n (sym x)))
    ∙ ap (λ z. insert_all z m) (sym (ap (λ w. inside_all (kept (i ∷ []) ++ w) c) e ∙ inside-top c i first second))
either_way c i first second children m k (inr e) =
    ap (λ z. insert_all z m) (sym (ap (λ w. inside_all (kept (i ∷ []) ++ w) c) e ∙ inside-top c i second first))

-- both children, whichever comes first, and then a node's item
pub in_either_turn : (k : ℕ) (c : Bounds) (i : Item) (first second children whole m one two three : List Item)
    → AreDistinct whole → whole ≡ kept (i ∷ []) ++ children → IsEitherWay children first second
    → one ≡ take k (insert_all (inside_all first c) m) → two ≡ take k (insert_all (inside_all second c) one) → three ≡ take k (insert_all (inside_all (i ∷ []) c) two)
    → three ≡ take k (insert_all (inside_all whole c) m)
in_either_turn k c i first second children whole m one two three distinct all way e f g =
    let apart = three_of i first second children whole distinct all way in
    in_turn k (inside_all (i ∷ []) c) (inside_all second c) (inside_all first c) m one two three e f g
    ∙ ap (take k) (either_way c i first second children m apart.children way ∙ ap (λ z. insert_all (inside_all z c) m) (sym all))
