-- Points that are put while several subtrees are watched, and what is watched of each.
use Rattle.std.proofs.Common.{◌≡◌, ℕ, ◌≤◌, ◌<◌, false, refl, sym, subst, arith, List, [], ◌∷◌, Option, Some, None}
use Rattle.point_geom.specs.Place.{Place}
use Rattle.point_geom.specs.Axes.{next_axis}
use Rattle.point_geom.specs.declared.axis.Axis.{Axis}
use Rattle.node_labels.specs.Labels.{keep_tag}
use Rattle.kd_tree.specs.Shape.{Shape, leaf, fork, nodes}
use Rattle.kd_tree.specs.Walk.{times}
use Rattle.kd_tree.specs.Sound.{IsSound}
use Rattle.kd_tree.specs.Parts.{pushed}
use Rattle.kd_tree.specs.Apart.{is_here, onward}
use Rattle.kd_tree.specs.declared.change.Fork.{Fork}
use Rattle.kd_tree.specs.declared.path.Side.{Side}
use Rattle.kd_tree.specs.declared.path.Side.TheVariants.{Left, Right}
use Rattle.map_items.specs.Contents.{live_at}
use Rattle.kd_update.specs.Put.{leaf_of, put_from, put_under, RebuildsNoneOnRoute}
use Rattle.kd_mark.specs.Refresh.{IsNotDue, RefreshesIfDue}
use Rattle.kd_mark.specs.Watch.{IsWatched}
use Rattle.kd_update.specs.Watch.{logged_put}
use Rattle.kd_mark.specs.Several.{AreLargeAt, AreSameAt, AreWatched, IsUpdatedClear, large_at}
use Rattle.kd_update.proofs.Route.{IsOnRoute, route_none}
use Rattle.kd_mark.proofs.Near.{near}
use Rattle.kd_update.proofs.Near.{with_near}
use Rattle.kd_update.proofs.Watched.{watched-put}
use Rattle.kd_mark.proofs.Large.{large_nodes, large_after, watched_new}
use Rattle.kd_mark.proofs.Several.{clear_plain, IsPassedBy, passed_by, clear_fork}

-- the child on one side updated, the other as it was
clear_child : (large : ℕ) (ps : List (List Side)) (s : Shape) (f : Fork) (side : Side) (plain y t : Shape) (C Cs : ℕ → Type 0) → IsPassedBy large ps s f
    → ((m : ℕ) → C m → IsNotDue m (with_near side f plain) × Cs m) → C 0 → AreLargeAt large ps (with_near side f plain)
    → IsUpdatedClear (large_at ps large) (onward side ps) (near side f) plain (Cs (large_at ps large)) y
    → RefreshesIfDue (large_at ps large) (with_near side f y) t → IsUpdatedClear large ps s (with_near side f plain) (C large) t
clear_child large ps s f Left plain y t C Cs pass criteria none there u done =
    clear_fork large ps s f.item f.axis f.left f.right plain f.right y f.right t C Cs (λ _. Unit {0}) pass.balanced (λ m c. let all = criteria m c in (all.0, all.1, tt)) none there
    u (clear_plain (large_at ps large) (onward Right ps) f.right f.right (Unit {0}) (λ k. k)) done
clear_child large ps s f Right plain y t C Cs pass criteria none there u done =
    clear_fork large ps s f.item f.axis f.left f.right f.left plain f.left y t C (λ _. Unit {0}) Cs pass.balanced (λ m c. let all = criteria m c in (all.0, tt, all.1)) none there
    (clear_plain (large_at ps large) (onward Left ps) f.left f.left (Unit {0}) (λ k. k)) u done

-- each watch by itself

pub large_all_put : (large n : ℕ) (p : Place) (axis : Axis) (ps : List (List Side)) (t : Shape) → IsSound t
    → times n keep_tag t ≡ 0 → nodes t < 4194304 → AreLargeAt large ps t → AreLargeAt large ps (put_from n p axis t)
large_all_put large n p axis [] t s e f k = tt
large_all_put large n p axis (q ∷ ps) t s e f k = (large_after large q t (put_from n p axis t) _ k.0 (watched-put n p axis q t k.0.node k.0.there s e f), large_all_put large n p axis ps t s e f k.1)

pub all_watched-put : (large n : ℕ) (p : Place) (axis : Axis) (ps : List (List Side)) (t new : Shape) → IsSound t
    → times n keep_tag t ≡ 0 → nodes t < 4194304 → AreLargeAt large ps t → AreSameAt ps new (put_from n p axis t)
    → AreWatched (λ q. IsWatched q t new (logged_put n p q t)) ps
all_watched-put large n p axis [] t new s o f k e = tt
all_watched-put large n p axis (q ∷ ps) t new s o f k e = (
  watched_new q t (put_from n p axis t) new _ e.0 (watched-put n p axis q t k.0.node k.0.there s o f),
  all_watched-put large n p axis ps t new s o f k.1 e.1,
)

pub some_of : (large : ℕ) (ps : List (List Side)) (t : Shape) → (ps ≡ [] → ⊥) → AreLargeAt large ps t → large ≤ nodes t
some_of large [] t n k = absurd (n refl)
some_of large (p ∷ ps) t n k = large_nodes large p t k.0

-- no path goes on from an empty tree
pub none_on : (large : ℕ) (ps : List (List Side)) → AreLargeAt large ps leaf → is_here ps ≡ false → ps ≡ []
none_on large [] k e = refl
none_on large ([] ∷ ps) k e = absurd (cc)
none_on large ((side ∷ p) ∷ ps) k e = absurd (cc k.0.there)

-- the first node of an empty tree
pub clear_leaf : (large n : ℕ) (p : Place) (axis : Axis) (ps : List (List Side)) (s : Shape) (C : Type 0)
    → ◌≡◌ {A = Option Fork} None (pushed s)
    → IsUpdatedClear large ps s (put_from n p axis s) C (leaf_of (live_at n p) axis)
unfolding put_under
clear_leaf large n p axis ps leaf C x = clear_plain large ps leaf (leaf_of (live_at n p) axis) C (λ _ _. ((λ many few. absurd (omega arith)), tt, tt))
clear_leaf large n p axis ps (fork h l r) C x = absurd (cc)

-- a node on the route
pub put_joined : (large m n : ℕ) (p : Place) (axis next : Axis) (ps qs : List (List Side)) (s x y t : Shape) (f : Fork) (side : Side) → IsOnRoute n p axis s f side → Some f ≡ pushed s
    → IsSound s → times n keep_tag s ≡ 0 → nodes s < 4194304 → AreLargeAt large ps s → m ≡ large_at ps large → next ≡ next_axis f.axis → qs ≡ onward side ps → x ≡ near side f
    → IsUpdatedClear m qs x (put_from n p next x) (RebuildsNoneOnRoute m p (put_from n p next x)) y
    → RefreshesIfDue m (with_near side f y) t → IsUpdatedClear large ps s (put_from n p axis s) (RebuildsNoneOnRoute large p (put_from n p axis s)) t
put_joined large m n p axis next ps qs s x y t f side w e sound none few k limit axes ways same u done =
    let plain = put_from n p (next_axis f.axis) (near side f) in
    let there = subst (AreLargeAt large ps) (sym w.value) (large_all_put large n p axis ps s sound none few k) in
    subst (λ v. IsUpdatedClear large ps s v (RebuildsNoneOnRoute large p (put_from n p axis s)) t) w.value
    (clear_child large ps s f side plain y t (λ z. RebuildsNoneOnRoute z p (put_from n p axis s)) (λ z. RebuildsNoneOnRoute z p plain)
    (passed_by large ps s f e k) w.criteria (route_none p (put_from n p axis s)) there (rw (limit, axes, ways, same) at u) (rw limit at done))
