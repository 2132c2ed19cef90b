-- An item that enters a map by thinning its voxel, under any number that isn't held.
use Rattle.std.proofs.Common.{◌≡◌, ◌≢◌, ℕ, ◌+◌, ◌<◌, ◌⊎◌, inl, inr, Bool, true, false, not, List, [], ◌∷◌, refl, ap, sym, ◌∙◌, subst, arith}
use Rattle.std.specs.Prelude.{All, filter}
use Rattle.std.proofs.lemmas.List.Elements.{All-head, All-tail}
use Rattle.std.specs.Cmp.Derive.{both_true}
use Rattle.point_geom.specs.Place.{Place, Bounds}
use Rattle.point_geom.specs.Boxes.{voxel}
use Rattle.node_labels.specs.Labels.{thin_tag}
use Rattle.map_items.specs.declared.item.Item.{Item}
use Rattle.map_items.specs.Contents.{AreContents, IsRising, centre_cmp, comes_before, in_box, least, live_at, mark, put, thin, winner, Member}
use Rattle.map_fold.specs.Answers.{inside_all}
use Rattle.map_items.specs.Ops.{IsUnheld}
use Rattle.map_fold.specs.Thinned.{NoneBefore, rivals}
use Rattle.map_fold.proofs.Centre.{items_alike, live_is, not_itself}
use Rattle.map_fold.proofs.Found.{member-filter, member-filter_of, one_number}
use Rattle.map_items.proofs.Numbered.{contents_mark, contents_rise}
use Rattle.map_items.proofs.Puts.{contents_put, unheld_cons, unheld_parts}
use Rattle.map_fold.proofs.Thinning.{inside_by, inside_is, is_live_in, item_below, left_out, mark-thin, rival_live, winner_is, winner_rival}
use Rattle.kd_tree.specs.Contents.{by_number, insert_item}
use Rattle.kd_tree.proofs.Numbered.{Above, Rises, by_number_rising, insert-put, numbered_from, numbered_in, same_rising}
use Rattle.map_update.specs.Entrants.{AreEntrants, MayEnter, thin_each}

-- numbers and members

-- a number that no member has isn't held
pub unheld_by : (n : ℕ) (m : List Item) → ((k : Item) → Member k m → k.number ≢ n) → IsUnheld n m
unheld_by n [] h = refl
unheld_by n (i ∷ m) h = unheld_cons n i m (h i (inl refl)) (unheld_by n m (λ k there. h k (inr there)))

-- a number that isn't held is that of no member
pub unheld_of : (n : ℕ) (m : List Item) (k : Item) → IsUnheld n m → Member k m → k.number ≢ n
unheld_of n [] k h there = absurd there
unheld_of n (i ∷ m) k h (inl same) = λ e. (unheld_parts n i m h).0 (sym (ap (λ (j : Item). j.number) same) ∙ e)
unheld_of n (i ∷ m) k h (inr there) = unheld_of n m k (unheld_parts n i m h).1 there

above_of : (n low : ℕ) (m : List Item) → n < low → IsRising low m → Above n m
above_of n low [] below h = tt
above_of n low (i ∷ m) below h = (omega (arith, h.0), above_of n (i.number + 1) m (omega (arith, h.0)) h.1)

-- what a map holds is by number
pub contents_rises : (low high : ℕ) (m : List Item) → AreContents low high m → Rises m
contents_rises low high [] h = tt
contents_rises low high (i ∷ m) h = (above_of i.number (i.number + 1) m (omega arith) (contents_rise (i.number + 1) high m h.3), contents_rises (i.number + 1) high m h.3)

put_numbered : (low high n : ℕ) (m : List Item) (p : Place) → AreContents low high m → IsUnheld n m → put m n p ≡ by_number (live_at n p ∷ m)
put_numbered low high n m p h new =
    sym (insert-put m n p (λ k there e. unheld_of n m k new there e))
    ∙ ap (insert_item (live_at n p)) (sym (by_number_rising m (contents_rises low high m h)))

-- what is held after a put is new or was held
member-put : (low high n : ℕ) (m : List Item) (p : Place) (k : Item) → AreContents low high m → IsUnheld n m → Member k (put m n p) → (k ≡ live_at n p) ⊎ Member k m
member-put low high n m p k h new there = numbered_from k (live_at n p ∷ m) (subst (Member k) (put_numbered low high n m p h new) there)

-- and what is new or was held is held
member-put_of : (low high n : ℕ) (m : List Item) (p : Place) (k : Item) → AreContents low high m → IsUnheld n m → (k ≡ live_at n p) ⊎ Member k m → Member k (put m n p)
member-put_of low high n m p k h new there = subst (Member k) (sym (put_numbered low high n m p h new)) (numbered_in k (live_at n p ∷ m) there)

-- the winner

-- its number is below the bound
pub winner_below : (edge high n : ℕ) (m : List Item) (p : Place) → AreContents 0 high m → n < high → (winner edge m n p).number < high
winner_below edge high n m p h below = over (winner_rival edge n m p)
  where
    over : Member (winner edge m n p) (rivals edge m n p) → (winner edge m n p).number < high
    over (inl same) = subst (λ (i : Item). i.number < high) (sym same) below
    over (inr held) = item_below 0 high m (winner edge m n p) h (inside_is (voxel edge p) m (winner edge m n p) held).0

-- what remains next to the winner isn't live in the voxel, and was held
left_is : (edge high : ℕ) (m : List Item) (p : Place) (k : Item) → AreContents 0 high m → Member k (mark m (in_box (voxel edge p)) thin_tag) → Member k m × (is_live_in (voxel edge p) k ≡ false)
left_is edge high m p k h there =
    let parts = member-filter (left_out (voxel edge p)) k m (subst (Member k) (mark-thin (voxel edge p) 0 high m h) there) in
    (parts.0, over (is_live_in (voxel edge p) k) parts.1)
  where
    over : (b : Bool) → not b ≡ true → b ≡ false
    over true e = absurd (cc)
    over false e = refl

-- and what isn't live in the voxel remains
is_left : (edge high : ℕ) (m : List Item) (p : Place) (k : Item) → AreContents 0 high m → Member k m → is_live_in (voxel edge p) k ≡ false → Member k (mark m (in_box (voxel edge p)) thin_tag)
is_left edge high m p k h there out =
    subst (Member k) (sym (mark-thin (voxel edge p) 0 high m h)) (member-filter_of (left_out (voxel edge p)) k m there (ap not out))

-- its number is that of nothing else that remains
pub winner_new : (edge high n : ℕ) (m : List Item) (p : Place) → AreContents 0 high m → IsUnheld n m → IsUnheld (winner edge m n p).number (mark m (in_box (voxel edge p)) thin_tag)
winner_new edge high n m p h new = unheld_by w.number (mark m (in_box (voxel edge p)) thin_tag) (λ k there e. other k (left_is edge high m p k h there) e (winner_rival edge n m p))
  where
    w : Item
    w = winner edge m n p

    other : (k : Item) → Member k m × (is_live_in (voxel edge p) k ≡ false) → k.number ≡ w.number → Member w (rivals edge m n p) → ⊥
    other k there e (inl same) = unheld_of n m k new there.0 (e ∙ ap (λ (i : Item). i.number) same)
    other k there e (inr held) =
        let is = inside_is (voxel edge p) m w held in
        let one = one_number 0 m k w (contents_rise 0 high m h) there.0 is.0 e in
        let live : is_live_in (voxel edge p) w ≡ true = both_true is.1 is.2 in
        let out : is_live_in (voxel edge p) w ≡ false = sym (ap (is_live_in (voxel edge p)) one) ∙ there.1 in absurd (cc)

winner_itself : (edge n : ℕ) (m : List Item) (p : Place) → live_at (winner edge m n p).number (winner edge m n p).point ≡ winner edge m n p
winner_itself edge n m p =
    let w = winner edge m n p in
    items_alike (live_at w.number w.point) w refl refl (sym (live_is w.label (rival_live edge n m p w (winner_rival edge n m p))))

-- what a map holds when an item entered

-- it is what a map may hold under the bound
pub contents_entered : (edge high n : ℕ) (m : List Item) (p : Place) → AreContents 0 high m → n < high → AreContents 0 high (thin edge m n p)
contents_entered edge high n m p h below =
    let w = winner edge m n p in
    contents_put 0 high w.number (mark m (in_box (voxel edge p)) thin_tag) w.point (omega arith) (winner_below edge high n m p h below) (contents_mark 0 high m (in_box (voxel edge p)) thin_tag h)

-- it was held outside the voxel or suspended, or won
pub entered_from : (edge high n : ℕ) (m : List Item) (p : Place) (k : Item) → AreContents 0 high m → IsUnheld n m
    → Member k (thin edge m n p) → (Member k m × (is_live_in (voxel edge p) k ≡ false)) ⊎ (k ≡ winner edge m n p)
entered_from edge high n m p k h new there =
    let w = winner edge m n p in
    let left = mark m (in_box (voxel edge p)) thin_tag in
    over (member-put 0 high w.number left w.point k (contents_mark 0 high m (in_box (voxel edge p)) thin_tag h) (winner_new edge high n m p h new) there)
  where
    over : (k ≡ live_at (winner edge m n p).number (winner edge m n p).point) ⊎ Member k
        (mark m (in_box (voxel edge p)) thin_tag)
        → (Member k m × (is_live_in (voxel edge p) k ≡ false)) ⊎ (k ≡ winner edge m n p)
    over (inl same) = inr (same ∙ winner_itself edge n m p)
    over (inr there) = inl (left_is edge high m p k h there)

-- and what was held outside the voxel, was suspended or won is held
pub entered_in : (edge high n : ℕ) (m : List Item) (p : Place) (k : Item) → AreContents 0 high m → IsUnheld n m
    → (Member k m × (is_live_in (voxel edge p) k ≡ false)) ⊎ (k ≡ winner edge m n p) → Member k (thin edge m n p)
entered_in edge high n m p k h new there =
    let w = winner edge m n p in
    let left = mark m (in_box (voxel edge p)) thin_tag in
    member-put_of 0 high w.number left w.point k (contents_mark 0 high m (in_box (voxel edge p)) thin_tag h) (winner_new edge high n m p h new) (over there)
  where
    over : (Member k m × (is_live_in (voxel edge p) k ≡ false)) ⊎ (k ≡ winner edge m n p)
        → (k ≡ live_at (winner edge m n p).number (winner edge m n p).point) ⊎ Member k
        (mark m (in_box (voxel edge p)) thin_tag)
    over (inl there) = inr (is_left edge high m p k h there.0 there.1)
    over (inr same) = inl (same ∙ sym (winner_itself edge n m p))

-- another number that isn't held still isn't
pub unheld_after : (edge high n : ℕ) (m : List Item) (p : Place) (other : ℕ) → AreContents 0 high m → IsUnheld n m → IsUnheld other m → other ≢ n → IsUnheld other (thin edge m n p)
unheld_after edge high n m p other h new free apart = unheld_by other (thin edge m n p) (λ k there. over k (entered_from edge high n m p k h new there))
  where
    rival : (k : Item) → Member k (rivals edge m n p) → k.number ≢ other
    rival k (inl same) = λ e. apart (sym e ∙ ap (λ (i : Item). i.number) same)
    rival k (inr held) = unheld_of other m k free (inside_is (voxel edge p) m k held).0

    over : (k : Item) → (Member k m × (is_live_in (voxel edge p) k ≡ false)) ⊎ (k ≡ winner edge m n p) → k.number ≢ other
    over k (inl there) = unheld_of other m k free there.0
    over k (inr same) = rival k (subst (λ (i : Item). Member i (rivals edge m n p)) (sym same) (winner_rival edge n m p))

-- what is live in the voxel is among the listed
pub live_inside : (c : Bounds) (m : List Item) (k : Item) → Member k m → is_live_in c k ≡ true → Member k (inside_all m c)
live_inside c m k there live = subst (Member k) (sym (inside_by c m)) (member-filter_of (is_live_in c) k m there live)

-- where one live item is alone in the voxel and the new one doesn't come before it, nothing changes
pub entered_same : (edge high n : ℕ) (m : List Item) (p : Place) (w : Item) → AreContents 0 high m → n < high
    → IsUnheld n m → inside_all m (voxel edge p) ≡ w ∷ [] → comes_before (voxel edge p) (live_at n p) w ≡ false
    → thin edge m n p ≡ m
entered_same edge high n m p w h below new alone behind =
    same_rising (thin edge m n p) m (contents_rises 0 high (thin edge m n p) (contents_entered edge high n m p h below)) (contents_rises 0 high m h)
    (λ k there. held k (entered_from edge high n m p k h new there))
    (λ k there. entered_in edge high n m p k h new (stays k there (is_live_in (voxel edge p) k) refl))
  where
    own : Member w (inside_all m (voxel edge p))
    own = subst (Member w) (sym alone) (inl refl)

    only : (k : Item) → Member k (w ∷ []) → k ≡ w
    only k (inl same) = same
    only k (inr none) = absurd none

    first : NoneBefore (voxel edge p) w (rivals edge m n p)
    first k (inl same) = subst (λ (j : Item). comes_before (voxel edge p) j w ≡ false) (sym same) behind
    first k (inr inside) = subst (λ (j : Item). comes_before (voxel edge p) j w ≡ false) (sym (only k (subst (Member k) alone inside))) (not_itself (voxel edge p) w)

    wins : winner edge m n p ≡ w
    wins = winner_is edge n m p w (contents_rise 0 high m h) new (inr own) first

    held : (k : Item) → (Member k m × (is_live_in (voxel edge p) k ≡ false)) ⊎ (k ≡ winner edge m n p) → Member k m
    held k (inl there) = there.0
    held k (inr same) = subst (λ (j : Item). Member j m) (sym (same ∙ wins)) (inside_is (voxel edge p) m w own).0

    stays : (k : Item) → Member k m → (b : Bool) → is_live_in (voxel edge p) k ≡ b → (Member k m × (is_live_in (voxel edge p) k ≡ false)) ⊎ (k ≡ winner edge m n p)
    stays k there true e = inr (only k (subst (Member k) alone (live_inside (voxel edge p) m k there e)) ∙ sym wins)
    stays k there false e = inl (there, e)

-- a filter that lets all through
filter_whole : {X : Type 0} (test : X → Bool) (xs : List X) → ((x : X) → Member x xs → test x ≡ true) → filter test xs ≡ xs
filter_whole test [] h = refl
filter_whole test (x ∷ xs) h = rw (h x (inl refl)) (ap (λ ys. x ∷ ys) (filter_whole test xs (λ y there. h y (inr there))))

-- where nothing is live in the voxel, the point is put and nothing is dropped
pub entered_none : (edge high n : ℕ) (m : List Item) (p : Place) → AreContents 0 high m → inside_all m (voxel edge p) ≡ [] → thin edge m n p ≡ put m n p
entered_none edge high n m p h none =
    let c = voxel edge p in
    let all : mark m (in_box c) thin_tag ≡ m = mark-thin c 0 high m h ∙ filter_whole (left_out c) m (λ k there. out k there (is_live_in c k) refl) in
    let alone : winner edge m n p ≡ live_at n p = ap (least (centre_cmp c) (live_at n p)) none in
    ap (λ (i : Item). put (mark m (in_box c) thin_tag) i.number i.point) alone ∙ ap (λ xs. put xs n p) all
  where
    out : (k : Item) → Member k m → (b : Bool) → is_live_in (voxel edge p) k ≡ b → not (is_live_in (voxel edge p) k) ≡ true
    out k there true e = absurd (subst (Member k) none (live_inside (voxel edge p) m k there e))
    out k there false e = ap not e

-- items that are still to enter

-- what may enter still may when another entered
pub still_enter : (edge high n : ℕ) (m : List Item) (p : Place) (k : Item) → AreContents 0 high m → IsUnheld n m → k.number ≢ n → MayEnter high m k → MayEnter high (thin edge m n p) k
still_enter edge high n m p k h new other may = record { live = may.live; below = may.below; unheld = unheld_after edge high n m p k.number h new may.unheld other }

-- and so may each of several
pub entrants_kept : (edge high n : ℕ) (m : List Item) (p : Place) (is : List Item) → AreContents 0 high m → IsUnheld n m
    → All (λ j. j.number ≢ n) is → AreEntrants high m is → AreEntrants high (thin edge m n p) is
entrants_kept edge high n m p [] h new other may = tt
entrants_kept edge high n m p (i ∷ is) h new other may = (
  still_enter edge high n m p i h new (All-head (λ (j : Item). j.number ≢ n) i is other) may.0,
  may.1,
  entrants_kept edge high n m p is h new (All-tail (λ (j : Item). j.number ≢ n) i is other) may.2,
)

-- when the first entered, the others may
pub entrants_after : (edge high : ℕ) (m : List Item) (i : Item) (is : List Item) → AreContents 0 high m → AreEntrants high m (i ∷ is) → AreEntrants high (thin edge m i.number i.point) is
entrants_after edge high m i is h may = entrants_kept edge high i.number m i.point is h may.0.unheld may.1 may.2

-- what a map holds when all entered is what it may hold under the bound
pub contents_each : (edge high : ℕ) (m is : List Item) → AreContents 0 high m → AreEntrants high m is → AreContents 0 high (thin_each edge m is)
contents_each edge high m [] h may = h
contents_each edge high m (i ∷ is) h may =
    contents_each edge high (thin edge m i.number i.point) is
    (contents_entered edge high i.number m i.point h may.0.below) (entrants_after edge high m i is h may)
