-- All points of a scan in turn, and the first ones of their voxels in any order, leave a map with the same.
use Rattle.std.proofs.Common.{◌≡◌, ℕ, ◌+◌, ◌≤◌, ◌⊎◌, inl, inr, Bool, true, false, List, [], ◌∷◌, length, refl, ap, sym, ◌∙◌, subst, arith}
use Rattle.std.proofs.lemmas.Bool.{and_parts}
use Rattle.std.specs.Cmp.Derive.{both_true}
use Rattle.point_geom.specs.Place.{Place, Bounds}
use Rattle.point_geom.specs.Boxes.{holds, voxel}
use Rattle.point_geom.proofs.Laws.{voxel_held}
use Rattle.node_labels.specs.Labels.{is_live}
use Rattle.map_items.specs.declared.item.Item.{Item}
use Rattle.map_items.specs.Contents.{AreContents, IsRising, comes_before, live_at, thin, winner, Member}
use Rattle.map_items.specs.Fold.{thin_points}
use Rattle.map_fold.specs.Thinned.{rivals}
use Rattle.map_fold.proofs.Centre.{items_alike, not_itself, one_best, order}
use Rattle.map_items.proofs.Numbered.{contents_rise, contents_within}
use Rattle.map_fold.proofs.Thinning.{inside_is, is_live_in, rival_inside, rival_live, winner_first, winner_is, winner_rival}
use Rattle.map_fold.proofs.Found.{one_number}
use Rattle.kd_tree.proofs.Numbered.{same_rising}
use Rattle.kd_update.specs.Scan.{live_from}
use Rattle.map_update.specs.Entrants.{AreEntrants, AreFirsts, IsBeaten, MayEnter, thin_each}
use Rattle.map_update.proofs.Voxels.{voxel_of}
use Rattle.map_update.proofs.Entering.{contents_each, contents_entered, contents_rises, entered_from, entered_in, entrants_after, live_inside}
use Rattle.map_update.proofs.Firsts.{firsts_enter, from_is, points_enter}

-- the item enters or is held
abbrev InPool : List Item → List Item → Item → Type 0
InPool is m k = Member k is ⊎ Member k m

-- The item is one of those that enter or are held, and in each voxel of one that enters, where it is live, none of them comes before it.
record IsLeft (edge : ℕ) (is m : List Item) (k : Item) : Type 0 where
  pub held : InPool is m k
  pub first : (e j : Item) → Member e is → InPool is m j → is_live_in (voxel edge e.point) k ≡ true → is_live_in (voxel edge e.point) j ≡ true → comes_before (voxel edge e.point) j k ≡ false

-- the voxel of what is live in a voxel
voxel_in : (edge : ℕ) (p : Place) (k : Item) → 1 ≤ edge → is_live_in (voxel edge p) k ≡ true → voxel edge k.point ≡ voxel edge p
voxel_in edge p k from live = voxel_of edge p k.point from (and_parts (is_live k.label) (holds (voxel edge p) k.point) live).1

-- an item that may enter is live in its own voxel
live_own : (edge : ℕ) (k : Item) → 1 ≤ edge → is_live k.label ≡ true → is_live_in (voxel edge k.point) k ≡ true
live_own edge k from live = both_true live (voxel_held edge k.point from)

-- what is first by the voxel of one item is first by the same voxel of another
first_by : (edge : ℕ) (is m : List Item) (k e : Item) (c : Bounds) (j : Item) → IsLeft edge is m k → Member e is
    → voxel edge e.point ≡ c → InPool is m j → is_live_in c k ≡ true → is_live_in c j ≡ true
    → comes_before c j k ≡ false
first_by edge is m k e c j left there same pool live other =
    subst (λ (b : Bounds). is_live_in b k ≡ true → is_live_in b j ≡ true → comes_before b j k ≡ false) same (left.first e j there pool) live other

-- one item enters

-- a map, and an item that may enter it
record IsEntry (edge high : ℕ) (m : List Item) (i : Item) : Type 0 where
  pub from : 1 ≤ edge
  pub contents : AreContents 0 high m
  pub may : MayEnter high m i

abbrev after : ℕ → List Item → Item → List Item
after edge m i = thin edge m i.number i.point

abbrev won : ℕ → List Item → Item → Item
won edge m i = winner edge m i.number i.point

own_item : (high : ℕ) (m : List Item) (i : Item) → MayEnter high m i → live_at i.number i.point ≡ i
own_item high m i may = items_alike (live_at i.number i.point) i refl refl (sym may.live)

is_rival : (edge high : ℕ) (m : List Item) (i k : Item) → MayEnter high m i → (k ≡ i) ⊎ Member k m → is_live_in (voxel edge i.point) k ≡ true → Member k (rivals edge m i.number i.point)
is_rival edge high m i k may (inl same) live = inl (same ∙ sym (own_item high m i may))
is_rival edge high m i k may (inr there) live = inr (live_inside (voxel edge i.point) m k there live)

rival_from : (edge high : ℕ) (m : List Item) (i k : Item) → MayEnter high m i → Member k (rivals edge m i.number i.point) → (k ≡ i) ⊎ Member k m
rival_from edge high m i k may (inl same) = inl (same ∙ own_item high m i may)
rival_from edge high m i k may (inr inside) = inr (inside_is (voxel edge i.point) m k inside).0

rival_in : (edge : ℕ) (m : List Item) (i k : Item) → 1 ≤ edge → Member k (rivals edge m i.number i.point) → is_live_in (voxel edge i.point) k ≡ true
rival_in edge m i k from rival = both_true (rival_live edge i.number m i.point k rival) (rival_inside edge i.number m i.point k from rival)

won_held : (edge high : ℕ) (m : List Item) (i : Item) → IsEntry edge high m i → Member (won edge m i) (after edge m i)
won_held edge high m i entry = entered_in edge high i.number m i.point (won edge m i) entry.contents entry.may.unheld (inr refl)

one_more : (is m : List Item) (i k : Item) → (k ≡ i) ⊎ Member k m → InPool (i ∷ is) m k
one_more is m i k (inl same) = inl (inl same)
one_more is m i k (inr there) = inr there

-- what enters later or is held then enters or is held before
pool_before : (edge high : ℕ) (is m : List Item) (i k : Item) → IsEntry edge high m i → InPool is (after edge m i) k → InPool (i ∷ is) m k
pool_before edge high is m i k entry (inl there) = inl (inr there)
pool_before edge high is m i k entry (inr there) = over (entered_from edge high i.number m i.point k entry.contents entry.may.unheld there)
  where
    over : (Member k m × (is_live_in (voxel edge i.point) k ≡ false)) ⊎ (k ≡ won edge m i) → InPool (i ∷ is) m k
    over (inl stays) = inr stays.0
    over (inr wins) = one_more is m i k (rival_from edge high m i k entry.may (subst (λ (x : Item). Member x (rivals edge m i.number i.point)) (sym wins) (winner_rival edge i.number m i.point)))

-- the winner doesn't come before what remains in the voxel
won_behind : (edge high : ℕ) (is m : List Item) (i k : Item) → IsEntry edge high m i → IsLeft edge is (after edge m i) k
    → is_live_in (voxel edge i.point) k ≡ true → comes_before (voxel edge i.point) (won edge m i) k ≡ false
won_behind edge high is m i k entry left live = by_pool left.held
  where
    c : Bounds
    c = voxel edge i.point

    over : (Member k m × (is_live_in c k ≡ false)) ⊎ (k ≡ won edge m i) → comes_before c (won edge m i) k ≡ false
    over (inl stays) = let out = stays.1 in absurd (cc)
    over (inr wins) = subst (λ (x : Item). comes_before c (won edge m i) x ≡ false) (sym wins) (not_itself c (won edge m i))

    by_pool : InPool is (after edge m i) k → comes_before c (won edge m i) k ≡ false
    by_pool (inl there) =
        first_by edge is (after edge m i) k k c (won edge m i) left there (voxel_in edge i.point k entry.from live)
        (inr (won_held edge high m i entry)) live
        (rival_in edge m i (won edge m i) entry.from (winner_rival edge i.number m i.point))
    by_pool (inr there) = over (entered_from edge high i.number m i.point k entry.contents entry.may.unheld there)

-- an item of the voxel, the one that enters or one that is held, doesn't come before what remains there
rival_behind : (edge high : ℕ) (is m : List Item) (i j k : Item) → IsEntry edge high m i
    → IsLeft edge is (after edge m i) k → (j ≡ i) ⊎ Member j m → is_live_in (voxel edge i.point) j ≡ true
    → is_live_in (voxel edge i.point) k ≡ true → comes_before (voxel edge i.point) j k ≡ false
rival_behind edge high is m i j k entry left pool inside live =
    (order (voxel edge i.point)).chain j (won edge m i) k (winner_first edge i.number m i.point j (is_rival edge high m i j entry.may pool inside)) (won_behind edge high is m i k entry left live)

-- what remains when one entered and then the others, all leave
left_before : (edge high : ℕ) (is m : List Item) (i k : Item) → IsEntry edge high m i → IsLeft edge is (after edge m i) k → IsLeft edge (i ∷ is) m k
left_before edge high is m i k entry left = record { held = pool_before edge high is m i k entry left.held; first = first }
  where
    -- in the voxel of the one that enters, by whichever item that voxel is named
    inside : (e j : Item) → (j ≡ i) ⊎ Member j m → is_live_in (voxel edge i.point) j ≡ true
        → is_live_in (voxel edge e.point) k ≡ true → is_live_in (voxel edge e.point) j ≡ true
        → comes_before (voxel edge e.point) j k ≡ false
    inside e j pool own live other =
        let same : voxel edge i.point ≡ voxel edge e.point = sym (voxel_in edge i.point j entry.from own) ∙ voxel_in edge e.point j entry.from other in
        subst (λ (b : Bounds). is_live_in b j ≡ true → is_live_in b k ≡ true → comes_before b j k ≡ false) same (rival_behind edge high is m i j k entry left pool) other live

    outside : (e j : Item) → Member e (i ∷ is) → (j ≡ i) ⊎ Member j m → is_live_in (voxel edge i.point) j ≡ false
        → is_live_in (voxel edge e.point) k ≡ true → is_live_in (voxel edge e.point) j ≡ true
        → comes_before (voxel edge e.point) j k ≡ false
    outside e j (inl same) pool out live other = let there : is_live_in (voxel edge i.point) j ≡ true = subst (λ (x : Item). is_live_in (voxel edge x.point) j ≡ true) same other in absurd (cc)
    outside e j (inr there) (inl same) out live other =
        let own : is_live_in (voxel edge i.point) i ≡ true = live_own edge i entry.from (ap is_live entry.may.live) in
        let none : is_live_in (voxel edge i.point) i ≡ false = sym (ap (is_live_in (voxel edge i.point)) same) ∙ out in absurd (cc)
    outside e j (inr there) (inr held) out live other = left.first e j there (inr (entered_in edge high i.number m i.point j entry.contents entry.may.unheld (inl (held, out)))) live other

    by_voxel : (b : Bool) → (e j : Item) → is_live_in (voxel edge i.point) j ≡ b → Member e (i ∷ is)
        → (j ≡ i) ⊎ Member j m → is_live_in (voxel edge e.point) k ≡ true → is_live_in (voxel edge e.point) j ≡ true
        → comes_before (voxel edge e.point) j k ≡ false
    by_voxel true e j own there pool live other = inside e j pool own live other
    by_voxel false e j out there pool live other = outside e j there pool out live other

    first : (e j : Item) → Member e (i ∷ is) → InPool (i ∷ is) m j → is_live_in (voxel edge e.point) k ≡ true → is_live_in (voxel edge e.point) j ≡ true → comes_before (voxel edge e.point) j k ≡ false
    first e j there (inl (inl same)) live other = by_voxel (is_live_in (voxel edge i.point) j) e j refl there (inl same) live other
    first e j there (inl (inr later)) live other = first_by edge is (after edge m i) k j (voxel edge e.point) j left later (voxel_in edge e.point j entry.from other) (inl later) live other
    first e j there (inr held) live other = by_voxel (is_live_in (voxel edge i.point) j) e j refl there (inr held) live other

-- what all leave remains when one entered and then the others
left_after : (edge high : ℕ) (is m : List Item) (i k : Item) → IsEntry edge high m i → IsLeft edge (i ∷ is) m k → IsLeft edge is (after edge m i) k
left_after edge high is m i k entry left = record {
  held = held left.held;
  first = λ e j there pool. left.first e j (inr there) (pool_before edge high is m i j entry pool);
}
  where
    c : Bounds
    c = voxel edge i.point

    wins : (k ≡ i) ⊎ Member k m → is_live_in c k ≡ true → won edge m i ≡ k
    wins pool live =
        winner_is edge i.number m i.point k (contents_rise 0 high m entry.contents) entry.may.unheld (is_rival edge high m i k entry.may pool live)
        (λ j rival. left.first i j (inl refl) (one_more is m i j (rival_from edge high m i j entry.may rival)) live (rival_in edge m i j entry.from rival))

    by_voxel : (b : Bool) → is_live_in c k ≡ b → Member k m → Member k (after edge m i)
    by_voxel true live there = entered_in edge high i.number m i.point k entry.contents entry.may.unheld (inr (sym (wins (inr there) live)))
    by_voxel false out there = entered_in edge high i.number m i.point k entry.contents entry.may.unheld (inl (there, out))

    held : InPool (i ∷ is) m k → InPool is (after edge m i) k
    held (inl (inl same)) =
        let live : is_live_in c k ≡ true = subst (λ (x : Item). is_live_in c x ≡ true) (sym same) (live_own edge i entry.from (ap is_live entry.may.live)) in
        inr (entered_in edge high i.number m i.point k entry.contents entry.may.unheld (inr (sym (wins (inl same) live))))
    held (inl (inr there)) = inl there
    held (inr there) = inr (by_voxel (is_live_in c k) refl there)

-- all enter

-- what a map holds when all entered, they leave
each_from : (edge high : ℕ) (is m : List Item) (k : Item) → 1 ≤ edge → AreContents 0 high m → AreEntrants high m is → Member k (thin_each edge m is) → IsLeft edge is m k
each_from edge high [] m k from h may there = record { held = inr there; first = λ e j none. absurd none }
each_from edge high (i ∷ is) m k from h may there =
    left_before edge high is m i k (record { from = from; contents = h; may = may.0 })
    (each_from edge high is (after edge m i) k from (contents_entered edge high i.number m i.point h may.0.below) (entrants_after edge high m i is h may) there)

-- and what they leave is held
each_in : (edge high : ℕ) (is m : List Item) (k : Item) → 1 ≤ edge → AreContents 0 high m → AreEntrants high m is → IsLeft edge is m k → Member k (thin_each edge m is)
each_in edge high [] m k from h may left = elim left.held [ inl none ↦ absurd none | inr there ↦ there ]
each_in edge high (i ∷ is) m k from h may left =
    each_in edge high is (after edge m i) k from (contents_entered edge high i.number m i.point h may.0.below) (entrants_after edge high m i is h may)
    (left_after edge high is m i k (record { from = from; contents = h; may = may.0 }) left)

-- the first ones and all

-- what the first ones leave, all leave
left_all : (edge next : ℕ) (ps : List Place) (fs m : List Item) (k : Item) → 1 ≤ edge → AreFirsts edge next ps fs → IsLeft edge fs m k → IsLeft edge (live_from next ps) m k
left_all edge next ps fs m k from firsts left = record { held = held left.held; first = first }
  where
    held : InPool fs m k → InPool (live_from next ps) m k
    held (inl there) = inl (firsts.within k there)
    held (inr there) = inr there

    -- by the first one of a voxel, what a first one or the map has there
    first_there : (e j : Item) → IsBeaten edge fs e → InPool fs m j → is_live_in (voxel edge e.point) k ≡ true
        → is_live_in (voxel edge e.point) j ≡ true → comes_before (voxel edge e.point) j k ≡ false
    first_there e j beaten pool live other = first_by edge fs m k beaten.by (voxel edge e.point) j left beaten.there (voxel_of edge e.point beaten.by.point from beaten.inside) pool live other

    live_by : (e : Item) → Member e fs → is_live e.label ≡ true
    live_by e there = ap is_live (from_is next ps e (firsts.within e there)).0

    behind : (e j : Item) → IsBeaten edge fs e → IsBeaten edge fs j → voxel edge j.point ≡ voxel edge e.point → is_live_in (voxel edge e.point) k ≡ true → comes_before (voxel edge e.point) j k ≡ false
    behind e j one two same live =
        let c = voxel edge e.point in
        let inside : is_live_in c two.by ≡ true = both_true (live_by two.by two.there) (subst (λ (b : Bounds). holds b two.by.point ≡ true) same two.inside) in
        (order c).chain j two.by k (subst (λ (b : Bounds). comes_before b j two.by ≡ false) same two.behind) (first_there e two.by one (inl two.there) live inside)

    first : (e j : Item) → Member e (live_from next ps) → InPool (live_from next ps) m j
        → is_live_in (voxel edge e.point) k ≡ true → is_live_in (voxel edge e.point) j ≡ true
        → comes_before (voxel edge e.point) j k ≡ false
    first e j there (inl point) live other = behind e j (firsts.beaten e there) (firsts.beaten j point) (voxel_in edge e.point j from other) live
    first e j there (inr held) live other = first_there e j (firsts.beaten e there) (inr held) live other

-- the numbers of the points rise
points_rising : (n : ℕ) (ps : List Place) → IsRising n (live_from n ps)
points_rising n [] = tt
points_rising n (p ∷ ps) = (omega arith, points_rising (n + 1) ps)

-- and what all leave, the first ones leave
left_firsts : (edge next : ℕ) (ps : List Place) (fs m : List Item) (k : Item) → 1 ≤ edge → AreFirsts edge next ps fs → IsLeft edge (live_from next ps) m k → IsLeft edge fs m k
left_firsts edge next ps fs m k from firsts left = record { held = held left.held; first = λ e j there pool. left.first e j (firsts.within e there) (wider j pool) }
  where
    wider : (j : Item) → InPool fs m j → InPool (live_from next ps) m j
    wider j (inl there) = inl (firsts.within j there)
    wider j (inr there) = inr there

    live : (e : Item) → Member e (live_from next ps) → is_live e.label ≡ true
    live e there = ap is_live (from_is next ps e there).0

    -- a point that remains is the first one of its voxel
    own_first : Member k (live_from next ps) → IsBeaten edge fs k → Member k fs
    own_first there beaten =
        let f = beaten.by in
        let point = firsts.within f beaten.there in
        let behind = left.first k f there (inl point) (live_own edge k from (live k there)) (both_true (live f point) beaten.inside) in
        subst (λ (x : Item). Member x fs) (sym (one_number next (live_from next ps) k f (points_rising next ps) there point (one_best (voxel edge k.point) k f beaten.behind behind))) beaten.there

    held : InPool (live_from next ps) m k → InPool fs m k
    held (inl there) = inl (own_first there (firsts.beaten k there))
    held (inr there) = inr there

-- the points in turn, as items
pub thin_each-thin_points : (edge n : ℕ) (ps : List Place) (m : List Item) → thin_each edge m (live_from n ps) ≡ (thin_points edge ps (record { items = m; next = n })).items
thin_each-thin_points edge n [] m = refl
thin_each-thin_points edge n (p ∷ ps) m = thin_each-thin_points edge (n + 1) ps (thin edge m n p)

-- The first ones of the voxels of a scan, in any order, leave what all its points leave in turn.
pub thin_firsts : (edge next : ℕ) (ps : List Place) (fs m : List Item) → 1 ≤ edge → AreContents 0 next m
    → AreFirsts edge next ps fs → thin_each edge m fs ≡ (thin_points edge ps (record { items = m; next = next })).items
thin_firsts edge next ps fs m from h firsts =
    same_rising (thin_each edge m fs) (thin_each edge m (live_from next ps))
    (contents_rises 0 high (thin_each edge m fs) (contents_each edge high m fs wide some))
    (contents_rises 0 high (thin_each edge m (live_from next ps)) (contents_each edge high m (live_from next ps) wide all))
    (λ k there. each_in edge high (live_from next ps) m k from wide all (left_all edge next ps fs m k from firsts (each_from edge high fs m k from wide some there)))
    (λ k there. each_in edge high fs m k from wide some (left_firsts edge next ps fs m k from firsts (each_from edge high (live_from next ps) m k from wide all there)))
    ∙ thin_each-thin_points edge next ps m
  where
    high : ℕ
    high = next + length ps

    wide : AreContents 0 high m
    wide = contents_within 0 0 next high m (omega arith) (omega arith) h

    some : AreEntrants high m fs
    some = firsts_enter edge next ps fs m from h firsts

    all : AreEntrants high m (live_from next ps)
    all = points_enter next ps m h
