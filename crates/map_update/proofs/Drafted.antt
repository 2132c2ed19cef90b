-- Work after some operations: what is watched stays while the tree and its own log have room.
use Rattle.std.proofs.Common.{◌≡◌, ℕ, ◌+◌, ◌*◌, ◌<◌, ◌≤◌, List, [], ◌∷◌, length, refl, ap, sym, ◌∙◌, arith, subst, inl, inr}
use Rattle.point_geom.specs.Place.{Place}
use Rattle.point_geom.specs.declared.axis.Axis.TheVariants.{X}
use Rattle.node_labels.specs.Labels.{keep_tag}
use Rattle.node_labels.specs.declared.tag.Tag.{Tag}
use Rattle.map_items.specs.Contents.{Member}
use Rattle.map_items.specs.declared.choice.Choice.{Choice}
use Rattle.map_items.specs.declared.op.Op.{Op}
use Rattle.map_items.specs.declared.op.Op.TheVariants.{Mark, Put}
use Rattle.kd_tree.specs.Shape.{Shape, levels, nodes}
use Rattle.kd_tree.specs.declared.path.Side.{Side}
use Rattle.kd_mark.specs.declared.watch.Watch.{Watch}
use Rattle.kd_mark.specs.Mark.{RebuildsNoneEntered, marked_shape}
use Rattle.kd_update.specs.Put.{RebuildsNoneOnRoute, put_shape}
use Rattle.kd_mark.specs.Refresh.{IsRefresh}
use Rattle.kd_mark.specs.Watches.{AreExtended, AreFewMore, AreMore, paths_in, with_marks}
use Rattle.kd_update.specs.Watches.{with_puts}
use Rattle.kd_mark.proofs.InBox.{levels-marked, nodes-marked}
use Rattle.kd_update.proofs.Route.{levels-put, nodes-put}
use Rattle.map_update.specs.Draft.{AreSpared, HasLogRoomFor, HasRoomFor, IsStill, IsDrafted, plain_draft}
use Rattle.map_update.specs.Single.{RebuildsNothing}
use Rattle.map_update.specs.declared.draft.Draft.{Draft}

-- a watch that stays

-- the logs of the same watches have grown
pub still_of : (n ops : ℕ) (x : Watch) (vs ws : List Watch) → n ≤ 2 * ops → AreExtended vs ws → AreMore n vs ws → Member x vs → IsStill ops x ws
still_of n ops x [] ws le k l m = absurd m
still_of n ops x (v ∷ vs) [] le k l m = absurd k
still_of n ops x (v ∷ vs) (w ∷ ws) le k l (inl is) = record {
  watch = w;
  there = inl refl;
  path = k.0 ∙ ap (λ (y : Watch). y.path) (sym is);
  few = omega (arith, l.0, le, ap (λ (y : Watch). length y.log) is);
}
still_of n ops x (v ∷ vs) (w ∷ ws) le k l (inr m) =
    let rest = still_of n ops x vs ws le k.2 l.1 m in
    record { watch = rest.watch; there = inr rest.there; path = rest.path; few = rest.few }

still_itself : (ops : ℕ) (x : Watch) (ws : List Watch) → Member x ws → IsStill ops x ws
still_itself ops x ws m = record { watch = x; there = m; path = refl; few = omega arith }

still_more : (n m : ℕ) (x : Watch) (ws : List Watch) → n ≤ m → IsStill n x ws → IsStill m x ws
still_more n m x ws le k = record { watch = k.watch; there = k.there; path = k.path; few = omega (arith, k.few, le) }

path_among : (x : Watch) (ws : List Watch) → Member x ws → Member x.path (paths_in ws)
path_among x [] m = absurd m
path_among x (w ∷ ws) (inl is) = inl (ap (λ (y : Watch). y.path) is)
path_among x (w ∷ ws) (inr m) = inr (path_among x ws m)

pub still_path : (n : ℕ) (x : Watch) (ws : List Watch) → IsStill n x ws → Member x.path (paths_in ws)
still_path n x ws k = subst (λ (q : List Side). Member q (paths_in ws)) k.path (path_among k.watch ws k.there)

-- several operations

pub worked_itself : (a b : ℕ) (w : Draft) → IsDrafted a b w w
worked_itself a b w = record { low = omega arith; few = omega arith; still = λ room x m own. still_itself b x w.watches m }

room_some : (a e : ℕ) (w : Draft) → a ≤ e → HasRoomFor e w → HasRoomFor a w
room_some a e w le r = record { low = omega (arith, r.low, le); few = omega (arith, r.few, le) }

pub worked_more : (a b e f : ℕ) (v w : Draft) → a ≤ e → b ≤ f → IsDrafted a b v w → IsDrafted e f v w
worked_more a b e f v w le le' k = record {
  low = omega (arith, k.low, le);
  few = omega (arith, k.few, le);
  still = λ room x m own. still_more b f x w.watches le' (k.still (room_some a e v le room) x m (omega (arith, own, le')));
}

-- the room that is left after them
pub room_left : (a b c e : ℕ) (v w : Draft) → a + c ≤ e → IsDrafted a b v w → HasRoomFor e v → HasRoomFor c w
room_left a b c e v w le k r = record { low = omega (arith, r.low, k.low, le); few = omega (arith, r.few, k.few, le) }

-- a watch that stays after them, with the room that is left in its log
pub still_left : (a b e f : ℕ) (v w : Draft) → a ≤ e → b ≤ f → IsDrafted a b v w → HasRoomFor e v → (x : Watch) → Member x v.watches → HasLogRoomFor f x → IsStill b x w.watches
still_left a b e f v w le le' k room x m own = k.still (room_some a e v le room) x m (omega (arith, own, le'))

pub worked_then : (a b c d e f : ℕ) (u v w : Draft) → a + c ≤ e → b + d ≤ f → IsDrafted a b u v → IsDrafted c d v w → IsDrafted e f u w
worked_then a b c d e f u v w le le' k l = record {
  low = omega (arith, k.low, l.low, le);
  few = omega (arith, k.few, l.few, le);
  still = λ room x m own.
      let first = still_left a b e f u v (omega (arith, le)) (omega (arith, le')) k room x m own in
      let last = l.still (room_left a b c e u v le k room) first.watch first.there (omega (arith, own, first.few, le')) in
      record { watch = last.watch; there = last.there; path = last.path ∙ first.path; few = omega (arith, first.few, last.few, le') };
}

-- it was not forgotten
pub worked_kept : (a b e f : ℕ) (v w : Draft) → a ≤ e → b ≤ f → IsDrafted a b v w → HasRoomFor e v → (x : Watch) → Member x v.watches → HasLogRoomFor f x → Member x.path (paths_in w.watches)
worked_kept a b e f v w le le' k room x m own = still_path b x w.watches (still_left a b e f v w le le' k room x m own)

-- one operation

pub worked_mark : (c : Choice) (a : Tag) (v w : Draft) (u : Shape) (vs : List Watch) → AreSpared v.watches w.watches → levels w.tree ≤ levels v.tree → nodes w.tree ≤ nodes v.tree
    → IsRefresh (marked_shape c a w.tree) u → AreExtended w.watches vs → AreFewMore w.watches vs → IsDrafted 0 1 v (record { tree = u; watches = vs })
worked_mark c a v w u vs spared low few made more most = record {
  low = omega (arith, made.low, levels-marked c a keep_tag w.tree, low);
  few = omega (arith, made.few, nodes-marked c a keep_tag w.tree, few);
  still = λ room x m own. still_of 2 1 x w.watches vs (omega arith) more most (spared x m own);
}

pub worked_put : (n : ℕ) (p : Place) (v w : Draft) (u : Shape) (vs : List Watch)
    → (levels v.tree < 512 → nodes v.tree < 4194304 → AreSpared v.watches w.watches) → levels w.tree ≤ levels v.tree
    → nodes w.tree ≤ nodes v.tree
    → IsRefresh (put_shape n p w.tree) u → AreExtended w.watches vs → AreFewMore w.watches vs → IsDrafted 1 1 v (record { tree = u; watches = vs })
worked_put n p v w u vs spared low few made more most = record {
  low = omega (arith, made.low, levels-put n p X keep_tag w.tree, low);
  few = omega (arith, made.few, nodes-put n p X keep_tag w.tree, few);
  still = λ room x m own. still_of 2 1 x w.watches vs (omega arith) more most (spared (omega (arith, room.low)) (omega (arith, room.few)) x m own);
}

-- one that rebuilds nothing

pub plain_mark : (large : ℕ) (c : Choice) (a : Tag) (v w : Draft) (u : Shape) (vs : List Watch) → w ≡ v
    → (RebuildsNoneEntered large c (marked_shape c a w.tree) → u ≡ marked_shape c a w.tree)
    → vs ≡ with_marks c a w.tree w.watches
    → RebuildsNothing large (Mark c a) v.tree → ◌≡◌ {A = Draft} (record { tree = u; watches = vs }) (plain_draft (Mark c a) v)
plain_mark large c a v w u vs same made logged unrebuilt =
    let shape = subst (λ (x : Draft). RebuildsNoneEntered large c (marked_shape c a x.tree) → u ≡ marked_shape c a x.tree) same made unrebuilt.criteria in
    let seen : vs ≡ with_marks c a v.tree v.watches = logged ∙ ap (λ (x : Draft). with_marks c a x.tree x.watches) same in
    ap (λ (t : Shape). record { tree = t; watches = vs }) shape ∙ ap (λ (ws : List Watch). record { tree = marked_shape c a v.tree; watches = ws }) seen

pub plain_put : (large n : ℕ) (p : Place) (v w : Draft) (u : Shape) (vs : List Watch) → w ≡ v
    → (RebuildsNoneOnRoute large p (put_shape n p w.tree) → u ≡ put_shape n p w.tree)
    → vs ≡ with_puts n p w.tree w.watches
    → RebuildsNothing large (Put n p) v.tree → ◌≡◌ {A = Draft} (record { tree = u; watches = vs }) (plain_draft (Put n p) v)
plain_put large n p v w u vs same made logged unrebuilt =
    let shape = subst (λ (x : Draft). RebuildsNoneOnRoute large p (put_shape n p x.tree) → u ≡ put_shape n p x.tree) same made unrebuilt.criteria in
    let seen : vs ≡ with_puts n p v.tree v.watches = logged ∙ ap (λ (x : Draft). with_puts n p x.tree x.watches) same in
    ap (λ (t : Shape). record { tree = t; watches = vs }) shape ∙ ap (λ (ws : List Watch). record { tree = put_shape n p v.tree; watches = ws }) seen

-- a promise that nothing is rebuilt, moved to equal values
pub plain_same : (large : ℕ) (o op : Op) (v w new : Draft) → o ≡ op → v ≡ w → (RebuildsNothing large o v.tree → new ≡ plain_draft o v) → RebuildsNothing large op w.tree → new ≡ plain_draft op w
plain_same large o op v w new e f k =
    let first : RebuildsNothing large op v.tree → new ≡ plain_draft op v = subst (λ (x : Op). RebuildsNothing large x v.tree → new ≡ plain_draft x v) e k in
    subst (λ (x : Draft). RebuildsNothing large op x.tree → new ≡ plain_draft op x) f first
