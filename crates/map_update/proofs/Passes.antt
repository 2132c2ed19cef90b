-- Items that are put in one pass while a tree is watched.
use Rattle.std.proofs.Common.{◌≡◌, ℕ, ◌+◌, ◌<◌, ◌≤◌, List, [], ◌∷◌, ◌++◌, length, refl, ap, sym, ◌∙◌, arith, subst}
use Rattle.std.specs.Prelude.{All}
use Rattle.std.proofs.lemmas.List.Elements.{All-append, All-cons, All-map, All-nil}
use Rattle.point_geom.specs.Place.{Place}
use Rattle.map_items.specs.Contents.{live_at}
use Rattle.map_items.specs.declared.item.Item.{Item}
use Rattle.kd_tree.specs.Shape.{Shape, levels, nodes, numbers}
use Rattle.kd_tree.specs.Apart.{AreAllApart}
use Rattle.kd_mark.specs.declared.watch.Watch.{Watch}
use Rattle.kd_mark.specs.Watches.{AreMore, AreExtended, paths_in}
use Rattle.kd_update.specs.Crossing.{HaveRoomAtOnce, logged_scan, with_scan}
use Rattle.kd_mark.specs.Refresh.{AreAmong}
use Rattle.kd_update.specs.Scan.{live_from, numbers_in}
use Rattle.kd_mark.specs.Several.{AreWatched, IsBalancedClear}
use Rattle.kd_mark.specs.Watch.{IsWatched}
use Rattle.kd_update.proofs.Crossing.{logged_scan_few, scan_puts}
use Rattle.map_update.specs.Draft.{IsDraft, IsDraftLeft, IsDrafted}
use Rattle.kd_update.specs.Detached.{PartAt, watch_of, watches_of}
use Rattle.map_update.specs.declared.draft.Draft.{Draft}
use Rattle.map_update.proofs.Detached.{HaveLogRoomOf, logged}
use Rattle.map_update.proofs.Drafts.{among_below}
use Rattle.map_update.proofs.Drafted.{still_of}
use Rattle.map_update.proofs.Working.{draft_logged, paths-watched}

-- parts as they are watched

scan-watched : (is : List Item) (t : Shape) (ps : List PartAt) → with_scan is t (watches_of ps) ≡ watches_of (logged (λ q. logged_scan q is t) ps)
scan-watched is t [] = refl
scan-watched is t (p ∷ ps) = ap (λ (ws : List Watch). watch_of (record p { log = p.log ++ logged_scan p.path is t }) ∷ ws) (scan-watched is t ps)

room_scan : (n : ℕ) (ps : List PartAt) → HaveRoomAtOnce n (watches_of ps) → HaveLogRoomOf (n + 1) ps
room_scan n [] k = tt
room_scan n (p ∷ ps) k = (omega (arith, k.0), room_scan n ps k.1)

-- none of what is watched is in another
pub draft_apart : (large next last : ℕ) (ps : List PartAt) (w : Draft) → IsDraft large next last ps w → AreAllApart (paths_in w.watches)
draft_apart large next last ps w d = subst AreAllApart (sym (ap paths_in d.watched ∙ paths-watched ps)) d.parts.apart

-- points under the numbers that come next

pub live_from_under : (high next : ℕ) (ps : List Place) → next + length ps ≤ high → All (λ i. i.number < high) (live_from next ps)
live_from_under high next [] le = All-nil (λ (i : Item). i.number < high)
live_from_under high next (p ∷ ps) le =
    All-cons (λ (i : Item). i.number < high) (live_at next p) (live_from (next + 1) ps) (omega (arith, le)) (live_from_under high (next + 1) ps (omega (arith, le)))

-- a pass

pub draft_scan : (large next last : ℕ) (is : List Item) (w : Draft) (u : Shape) (vs : List Watch) (ps : List PartAt) → All (λ i. i.number < next) is → IsDraft large next last ps w
    → HaveRoomAtOnce (length is) w.watches → vs ≡ with_scan is w.tree w.watches
    → AreAmong (numbers u) (numbers_in is ++ numbers w.tree) → (IsBalancedClear large (paths_in w.watches) w.tree → IsBalancedClear large (paths_in w.watches) u)
    → AreWatched (λ q. IsWatched q w.tree u (logged_scan q is w.tree)) (paths_in w.watches) → IsDraftLeft large next last ps (record { tree = u; watches = vs })
draft_scan large next last is w u vs ps less d room same among balanced watched =
    let below : All (λ n. n < next) (numbers_in is ++ numbers w.tree) =
    All-append (λ n. n < next) (numbers_in is) (numbers w.tree)
    (All-map (λ n. n < next) (λ (i : Item). i.number) is less) d.below in
    draft_logged large next last (length is + 1) (λ q. logged_scan q is w.tree) w u vs ps d
    (room_scan (length is) ps (subst (HaveRoomAtOnce (length is)) d.watched room))
    (same ∙ ap (with_scan is w.tree) d.watched ∙ scan-watched is w.tree ps)
    (among_below next (numbers u) (numbers_in is ++ numbers w.tree) among below) balanced watched
    (λ q. logged_scan_few q is w.tree) (λ q. scan_puts (λ m. m < next) q is w.tree less)

pub worked_scan : (n : ℕ) (w : Draft) (u : Shape) (vs : List Watch) → 22 ≤ n → levels u ≤ levels w.tree + 22 → nodes u ≤ nodes w.tree + n → AreExtended w.watches vs → AreMore (n + 1) w.watches vs
    → IsDrafted n n w (record { tree = u; watches = vs })
worked_scan n w u vs many low few more most = record {
  low = omega (arith, low, many);
  few = few;
  still = λ room x m own. still_of (n + 1) n x w.watches vs (omega (arith, many)) more most m;
}
