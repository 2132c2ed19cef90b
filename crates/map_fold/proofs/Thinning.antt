-- What downsampling makes of a list of items.
use Rattle.std.proofs.Common.{◌≡◌, ◌≢◌, ℕ, ◌+◌, ◌<◌, ◌≤◌, inl, inr, Bool, true, false, not, cond, List, [], ◌∷◌, map, refl, ap, sym, ◌∙◌, subst, arith}
use Rattle.std.specs.Prelude.{filter, ◌&&◌}
use Rattle.std.proofs.lemmas.Bool.{and_parts, cases_Bool}
use Rattle.std.specs.Cmp.Derive.{both_true}
use Rattle.point_geom.specs.Place.{Place, Bounds}
use Rattle.point_geom.specs.Boxes.{holds, voxel}
use Rattle.point_geom.proofs.Laws.{voxel_held}
use Rattle.node_labels.specs.Labels.{is_live, is_suspended, is_dropped, thin_tag}
use Rattle.node_labels.specs.declared.label.Label.{Label}
use Rattle.node_labels.specs.declared.label.Label.TheVariants.{Live, Suspended, Dropped}
use Rattle.map_items.specs.declared.item.Item.{Item}
use Rattle.map_items.specs.Contents.{AreContents, IsRising, centre_cmp, comes_before, in_box, kept, least, live_at, live_items, mark, marked_item, put, relabelled, thin, winner, Member}
use Rattle.map_fold.specs.Answers.{inside_all}
use Rattle.map_items.specs.Ops.{IsUnheld}
use Rattle.map_fold.specs.Thinned.{IsThinned, NoneBefore, rivals}
use Rattle.map_fold.proofs.Centre.{items_alike, least_first, least_member, live_is, not_itself, one_best}
use Rattle.map_fold.proofs.Found.{member-filter, item_number, one_number}
use Rattle.map_items.proofs.Numbered.{contents_mark, contents_rise, contents_within, unheld_above}
use Rattle.map_items.proofs.Puts.{contents_put, filter_none, filter-put_only, filter-put_out, put_after, put_front, unheld_below, unheld_cons, unheld_parts}

-- live, and in the box
abbrev pub is_live_in : Bounds → Item → Bool
is_live_in c i = is_live i.label && in_box c i

abbrev pub left_out : Bounds → Item → Bool
left_out c i = not (is_live_in c i)

-- the live items in a box, by one test
pub inside_by : (c : Bounds) (m : List Item) → inside_all m c ≡ filter (is_live_in c) m
inside_by c [] = refl
inside_by c (i ∷ m) =
    elim (is_live i.label) as (λ b. filter (in_box c) (cond b (i ∷ live_items m) (live_items m)) ≡ cond (b && in_box c i) (i ∷ filter (is_live_in c) m) (filter (is_live_in c) m)) [
      | true ↦ ap (λ xs. cond (in_box c i) (i ∷ xs) xs) (inside_by c m)
      | false ↦ inside_by c m
    ]

-- each of them is live, in the box, and of the map
pub inside_is : (c : Bounds) (m : List Item) (i : Item) → Member i (inside_all m c) → Member i m × (is_live i.label ≡ true) × (in_box c i ≡ true)
inside_is c m i n =
    let box = member-filter (in_box c) i (live_items m) n in
    let live = member-filter (λ (j : Item). is_live j.label) i m box.0 in
    (live.0, live.1, box.1)

-- what one test lets through of what another lets through, where that lets all of it through
filter-filter : {X : Type 0} (p q : X → Bool) (xs : List X) → ((x : X) → p x ≡ true → q x ≡ true) → filter p (filter q xs) ≡ filter p xs
filter-filter p q [] h = refl
filter-filter p q (x ∷ xs) h =
    let rest = filter-filter p q xs h in
    elim (cases_Bool (q x)) [
      | inl e ↦ rw e (ap (λ ys. cond (p x) (x ∷ ys) ys) rest)
      | inr e ↦ elim (cases_Bool (p x)) [ inl f ↦ absurd (cc (h x f)) | inr f ↦ rw (e, f) rest ]
    ]

filter-filter_not : {X : Type 0} (p : X → Bool) (xs : List X) → filter p (filter (λ x. not (p x)) xs) ≡ []
filter-filter_not p [] = refl
filter-filter_not p (x ∷ xs) = elim (cases_Bool (p x)) [ inl e ↦ rw e (filter-filter_not p xs) | inr e ↦ rw (e, e) (filter-filter_not p xs) ]

-- THIN drops what is live in the box, and leaves the rest as it was
thin_cons : (c : Bounds) (n : ℕ) (p : Place) (x : Label) (m : List Item) → is_dropped x ≡ false
    → let i : Item = record { number = n; point = p; label = x } in
    mark (i ∷ m) (in_box c) thin_tag ≡ cond (left_out c i) (i ∷ mark m (in_box c) thin_tag) (mark m (in_box c) thin_tag)
thin_cons c n p Live m h =
    let i : Item = record { number = n; point = p; label = Live } in
    let rest = mark m (in_box c) thin_tag in
    elim (holds c p) as (λ b. kept (cond b (relabelled thin_tag i) i ∷ map (marked_item (in_box c) thin_tag) m) ≡ cond (not b) (i ∷ rest) rest) [ true ↦ refl | false ↦ refl ]
thin_cons c n p Suspended m h =
    let i : Item = record { number = n; point = p; label = Suspended } in
    elim (holds c p) as (λ b. kept (cond b (relabelled thin_tag i) i ∷ map (marked_item (in_box c) thin_tag) m) ≡ i ∷ mark m (in_box c) thin_tag) [ true ↦ refl | false ↦ refl ]
thin_cons c n p Dropped m h = absurd (cc)

pub mark-thin : (c : Bounds) (low high : ℕ) (m : List Item) → AreContents low high m → mark m (in_box c) thin_tag ≡ filter (left_out c) m
mark-thin c low high [] h = refl
mark-thin c low high (i ∷ m) h = thin_cons c i.number i.point i.label m h.2 ∙ ap (λ xs. cond (left_out c i) (i ∷ xs) xs) (mark-thin c (i.number + 1) high m h.3)

-- the remaining items are still what a map may hold
contents_left : (c : Bounds) (low high : ℕ) (m : List Item) → AreContents low high m → AreContents low high (filter (left_out c) m)
contents_left c low high m h = subst (AreContents low high) (mark-thin c low high m h) (contents_mark low high m (in_box c) thin_tag h)

-- the number of a live item in the box is held no more
left_unheld : (c : Bounds) (low high : ℕ) (m : List Item) (w : Item) → AreContents low high m → Member w m → is_live_in c w ≡ true → IsUnheld w.number (filter (left_out c) m)
left_unheld c low high [] w h n e = absurd n
left_unheld c low high (i ∷ m) w h (inl same) e =
    let f : is_live_in c i ≡ true = ap (is_live_in c) (sym same) ∙ e in
    let g : w.number ≡ i.number = ap (λ (j : Item). j.number) same in
    rw (f, g) (unheld_below (i.number + 1) high i.number (filter (left_out c) m) (omega arith) (contents_left c (i.number + 1) high m h.3))
left_unheld c low high (i ∷ m) w h (inr n) e =
    let rest = left_unheld c (i.number + 1) high m w h.3 n e in
    let above : i.number + 1 ≤ w.number = item_number (i.number + 1) m w (contents_rise (i.number + 1) high m h.3) n in
    over (left_out c i) rest (unheld_cons w.number i (filter (left_out c) m) (omega arith) rest)
  where
    over : (b : Bool) → IsUnheld w.number (filter (left_out c) m) → IsUnheld w.number (i ∷ filter (left_out c) m) → IsUnheld w.number (cond b (i ∷ filter (left_out c) m) (filter (left_out c) m))
    over true one more = more
    over false one more = one

-- the remaining items where nothing is taken out
filter_all : {X : Type 0} (p : X → Bool) (xs : List X) → filter p xs ≡ [] → filter (λ x. not (p x)) xs ≡ xs
filter_all p [] e = refl
filter_all p (x ∷ xs) e = let parts = filter_none p x xs e in rw parts.0 (ap (λ ys. x ∷ ys) (filter_all p xs parts.1))

-- a live item is what is put under its number
live_itself : (i : Item) → is_live i.label ≡ true → live_at i.number i.point ≡ i
live_itself i e = items_alike (live_at i.number i.point) i refl refl (sym (live_is i.label e))

-- a map without its one live item in the box, and that item put back
put_back : (c : Bounds) (low high : ℕ) (m : List Item) (w : Item) → AreContents low high m → filter (is_live_in c) m ≡ w ∷ [] → put (filter (left_out c) m) w.number w.point ≡ m
put_back c low high [] w h e = absurd (cc)
put_back c low high (i ∷ m) w h e =
    elim (cases_Bool (is_live_in c i)) [
      | inl f ↦
          let both : i ∷ filter (is_live_in c) m ≡ w ∷ [] = subst (λ b. cond b (i ∷ filter (is_live_in c) m) (filter (is_live_in c) m) ≡ w ∷ []) f e in
          let own : i ≡ w = cc in
          let none : filter (is_live_in c) m ≡ [] = cc in
          let left : filter (left_out c) (i ∷ m) ≡ m = ap (λ b. cond (not b) (i ∷ filter (left_out c) m) (filter (left_out c) m)) f ∙ filter_all (is_live_in c) m none in
          ap (λ (j : Item). put (filter (left_out c) (i ∷ m)) j.number j.point) (sym own)
          ∙ ap (λ xs. put xs i.number i.point) left
          ∙ put_front (i.number + 1) high i.number m i.point (omega arith) h.3
          ∙ ap (λ j. j ∷ m) (live_itself i (and_parts _ _ f).0)
      | inr f ↦
          let rest : filter (is_live_in c) m ≡ w ∷ [] = subst (λ b. cond b (i ∷ filter (is_live_in c) m) (filter (is_live_in c) m) ≡ w ∷ []) f e in
          let held = member-filter (is_live_in c) w m (subst (Member w) (sym rest) (inl refl)) in
          let above : i.number + 1 ≤ w.number = item_number (i.number + 1) m w (contents_rise (i.number + 1) high m h.3) held.0 in
          ap (λ b. put (cond (not b) (i ∷ filter (left_out c) m) (filter (left_out c) m)) w.number w.point) f
          ∙ put_after i (filter (left_out c) m) w.number w.point (omega arith)
          ∙ ap (λ xs. i ∷ xs) (put_back c (i.number + 1) high m w h.3 rest)
    ]

-- no number of a map is as great as the next
pub item_below : (low high : ℕ) (m : List Item) (i : Item) → AreContents low high m → Member i m → i.number < high
item_below low high [] i h n = absurd n
item_below low high (j ∷ m) i h (inl same) = subst (λ (w : Item). w.number < high) (sym same) h.1
item_below low high (j ∷ m) i h (inr n) = item_below (j.number + 1) high m i h.3 n

-- the winner is a rival
pub winner_rival : (edge n : ℕ) (m : List Item) (p : Place) → Member (winner edge m n p) (rivals edge m n p)
winner_rival edge n m p = least_member (voxel edge p) (live_at n p) (inside_all m (voxel edge p))

-- and none comes before it
pub winner_first : (edge n : ℕ) (m : List Item) (p : Place) → NoneBefore (voxel edge p) (winner edge m n p) (rivals edge m n p)
winner_first edge n m p = least_first (voxel edge p) (live_at n p) (inside_all m (voxel edge p))

-- rivals are live
pub rival_live : (edge n : ℕ) (m : List Item) (p : Place) (i : Item) → Member i (rivals edge m n p) → is_live i.label ≡ true
rival_live edge n m p i (inl same) = ap (λ (j : Item). is_live j.label) same
rival_live edge n m p i (inr held) = (inside_is (voxel edge p) m i held).1

-- and in the voxel
pub rival_inside : (edge n : ℕ) (m : List Item) (p : Place) (i : Item) → 1 ≤ edge → Member i (rivals edge m n p) → holds (voxel edge p) i.point ≡ true
rival_inside edge n m p i from (inl same) = ap (λ (j : Item). holds (voxel edge p) j.point) same ∙ voxel_held edge p from
rival_inside edge n m p i from (inr held) = (inside_is (voxel edge p) m i held).2

-- where a number isn't held, each item has another
pub unheld_of : (n : ℕ) (m : List Item) (k : Item) → IsUnheld n m → Member k m → k.number ≢ n
unheld_of n [] k h none = absurd none
unheld_of n (i ∷ m) k h (inl same) = λ e. (unheld_parts n i m h).0 (sym (ap (λ (w : Item). w.number) same) ∙ e)
unheld_of n (i ∷ m) k h (inr there) = unheld_of n m k (unheld_parts n i m h).1 there

-- rivals of one number are one
one_rival : (edge n : ℕ) (m : List Item) (p : Place) (i j : Item) → IsRising 0 m → IsUnheld n m → Member i (rivals edge m n p) → Member j (rivals edge m n p) → i.number ≡ j.number → i ≡ j
one_rival edge n m p i j h new (inl e) (inl f) same = e ∙ sym f
one_rival edge n m p i j h new (inl e) (inr held) same = absurd (unheld_of n m j new (inside_is (voxel edge p) m j held).0 (sym same ∙ ap (λ (w : Item). w.number) e))
one_rival edge n m p i j h new (inr held) (inl f) same = absurd (unheld_of n m i new (inside_is (voxel edge p) m i held).0 (same ∙ ap (λ (w : Item). w.number) f))
one_rival edge n m p i j h new (inr held) (inr other) same = one_number 0 m i j h (inside_is (voxel edge p) m i held).0 (inside_is (voxel edge p) m j other).0 same

-- a rival before which none of the rivals comes is the winner
pub winner_is : (edge n : ℕ) (m : List Item) (p : Place) (w : Item) → IsRising 0 m → IsUnheld n m
    → Member w (rivals edge m n p) → NoneBefore (voxel edge p) w (rivals edge m n p) → winner edge m n p ≡ w
winner_is edge n m p w h new rival first =
    let v = winner edge m n p in
    let is = winner_rival edge n m p in
    one_rival edge n m p v w h new is rival (one_best (voxel edge p) v w (first v is) (winner_first edge n m p w rival))

-- the winner's number is that of no remaining item, in the voxel or elsewhere
pub winner_unheld : (edge n : ℕ) (m : List Item) (p : Place) → AreContents 0 n m → IsUnheld (winner edge m n p).number (mark m (in_box (voxel edge p)) thin_tag)
winner_unheld edge n m p h = over (winner_rival edge n m p)
  where
    c : Bounds
    c = voxel edge p

    w : Item
    w = winner edge m n p

    over : Member w (rivals edge m n p) → IsUnheld w.number (mark m (in_box c) thin_tag)
    over (inl same) =
        subst (λ (i : Item). IsUnheld i.number (mark m (in_box c) thin_tag)) (sym same)
        (unheld_above 0 n n (mark m (in_box c) thin_tag) (omega arith) (contents_mark 0 n m (in_box c) thin_tag h))
    over (inr held) =
        let is = inside_is c m w held in
        subst (IsUnheld w.number) (sym (mark-thin c 0 n m h)) (left_unheld c 0 n m w h is.0 (both_true is.1 is.2))

-- it is the next number, or one that was given before
pub winner_number : (edge n : ℕ) (m : List Item) (p : Place) → AreContents 0 n m → (winner edge m n p).number < n + 1
winner_number edge n m p h = over (winner_rival edge n m p)
  where
    over : Member (winner edge m n p) (rivals edge m n p) → (winner edge m n p).number < n + 1
    over (inl same) = subst (λ (i : Item). i.number < n + 1) (sym same) (let e : n < n + 1 = omega arith in e)
    over (inr held) = let below = item_below 0 n m (winner edge m n p) h (inside_is (voxel edge p) m (winner edge m n p) held).0 in omega arith

-- what remains when a point was thinned is what a map may hold to which one more was submitted
pub contents_thin : (edge n : ℕ) (m : List Item) (p : Place) → AreContents 0 n m → AreContents 0 (n + 1) (thin edge m n p)
contents_thin edge n m p h =
    let w = winner edge m n p in
    let left = mark m (in_box (voxel edge p)) thin_tag in
    let before = contents_within 0 0 n (n + 1) left (omega arith) (omega arith) (contents_mark 0 n m (in_box (voxel edge p)) thin_tag h) in
    contents_put 0 (n + 1) w.number left w.point (omega arith) (winner_number edge n m p h) before

outside_left : (a b : Bool) → not b ≡ true → not (a && b) ≡ true
outside_left true true e = absurd (cc)
outside_left true false e = refl
outside_left false b e = refl

suspended_left : (x : Label) (b : Bool) → is_suspended x ≡ true → not (is_live x && b) ≡ true
suspended_left Live b e = absurd (cc)
suspended_left Suspended b e = refl
suspended_left Dropped b e = absurd (cc)

-- the definition of downsampling does what is said of it
pub thinned_is : (edge n : ℕ) (m : List Item) (p : Place) → 1 ≤ edge → AreContents 0 n m → IsThinned edge m n p (thin edge m n p)
thinned_is edge n m p from h =
    let c = voxel edge p in
    let w = winner edge m n p in
    let left = mark m (in_box c) thin_tag in
    let is = mark-thin c 0 n m h in
    let rival = winner_rival edge n m p in
    let inside : holds c w.point ≡ true = rival_inside edge n m p w from rival in
    let new = winner_unheld edge n m p h in
    record {
      winner = w;
      rival = rival;
      first = winner_first edge n m p;
      alone =
          inside_by c (put left w.number w.point)
          ∙ filter-put_only (is_live_in c) w.number w.point left inside (ap (filter (is_live_in c)) is ∙ filter-filter_not (is_live_in c) m) new
          ∙ ap (λ i. i ∷ []) (live_itself w (rival_live edge n m p w rival));
      others =
          filter-put_out (λ i. not (in_box c i)) w.number w.point left (ap not inside) new
          ∙ ap (filter (λ i. not (in_box c i))) is
          ∙ filter-filter (λ i. not (in_box c i)) (left_out c) m (λ i e. outside_left (is_live i.label) (in_box c i) e);
      suspended =
          filter-put_out (λ i. is_suspended i.label) w.number w.point left refl new
          ∙ ap (filter (λ i. is_suspended i.label)) is
          ∙ filter-filter (λ i. is_suspended i.label) (left_out c) m (λ i e. suspended_left i.label (in_box c i) e);
    }

-- where one live item is alone in the voxel and the new one doesn't come before it, nothing changes
pub thin_same : (edge n : ℕ) (m : List Item) (p : Place) (w : Item) → AreContents 0 n m
    → inside_all m (voxel edge p) ≡ w ∷ [] → comes_before (voxel edge p) (live_at n p) w ≡ false → thin edge m n p ≡ m
thin_same edge n m p w h alone behind =
    let c = voxel edge p in
    let rival : Member w (rivals edge m n p) = inr (subst (Member w) (sym alone) (inl refl)) in
    let is = winner_is edge n m p w (contents_rise 0 n m h) (unheld_above 0 n n m (omega arith) h) rival first in
    ap (λ (i : Item). put (mark m (in_box c) thin_tag) i.number i.point) is
    ∙ ap (λ xs. put xs w.number w.point) (mark-thin c 0 n m h)
    ∙ put_back c 0 n m w h (sym (inside_by c m) ∙ alone)
  where
    first : NoneBefore (voxel edge p) w (rivals edge m n p)
    first i (inl same) = subst (λ (j : Item). comes_before (voxel edge p) j w ≡ false) (sym same) behind
    first i (inr held) = over i (subst (Member i) alone held)
      where
        over : (i : Item) → Member i (w ∷ []) → comes_before (voxel edge p) i w ≡ false
        over i (inl same) = subst (λ (j : Item). comes_before (voxel edge p) j w ≡ false) (sym same) (not_itself (voxel edge p) w)
        over i (inr none) = absurd none

-- where nothing is live in the voxel, the point is put and nothing is dropped
pub thin_none : (edge n : ℕ) (m : List Item) (p : Place) → AreContents 0 n m → inside_all m (voxel edge p) ≡ [] → thin edge m n p ≡ put m n p
thin_none edge n m p h none =
    let c = voxel edge p in
    let all : mark m (in_box c) thin_tag ≡ m = mark-thin c 0 n m h ∙ filter_all (is_live_in c) m (sym (inside_by c m) ∙ none) in
    let alone : winner edge m n p ≡ live_at n p = ap (least (centre_cmp c) (live_at n p)) none in
    ap (λ (i : Item). put (mark m (in_box c) thin_tag) i.number i.point) alone ∙ ap (λ xs. put xs n p) all
