-- What an action does to a watched subtree.
use Rattle.std.proofs.Common.{◌≡◌, ◌≤◌, true, false, not, ◌&&◌, cond, refl, ap, ◌∙◌, sym, subst, arith, List, [], ◌∷◌, ◌++◌, Some}
use Rattle.std.proofs.lemmas.Bool.{cond_both, and_parts}
use Rattle.std.proofs.lemmas.Option.{same_Some}
use Rattle.map_items.specs.declared.choice.Choice.{Choice}
use Rattle.kd_mark.specs.Reach.{covers, meets, reach_of}
use Rattle.node_labels.specs.Labels.{composed, keep_tag, is_live, is_suspended}
use Rattle.node_labels.specs.declared.label.Label.{Label}
use Rattle.node_labels.specs.declared.label.Label.TheVariants.{Live, Suspended, Dropped}
use Rattle.node_labels.specs.declared.tag.Tag.{Tag}
use Rattle.node_labels.proofs.Laws.{tags_alike}
use Rattle.map_items.specs.declared.op.Op.{Op}
use Rattle.map_items.specs.declared.op.Op.TheVariants.{Mark}
use Rattle.map_items.specs.Contents.{all_items, everything, chosen_by, mark, marked_item, relabelled}
use Rattle.map_items.specs.Ops.{Fit, replay}
use Rattle.kd_tree.specs.Shape.{Head, Shape, leaf, fork, nodes}
use Rattle.kd_tree.specs.Walk.{tagged}
use Rattle.kd_tree.specs.Contents.{contents}
use Rattle.kd_tree.specs.Parts.{at, child}
use Rattle.kd_tree.specs.declared.path.Side.{Side}
use Rattle.kd_tree.specs.declared.path.Side.TheVariants.{Left, Right}
use Rattle.kd_tree.proofs.Actions.{tagged-keep, tagged_nodes}
use Rattle.kd_tree.proofs.Contents.{contents-tagged}
use Rattle.kd_mark.specs.Mark.{marked_under, marked_shape}
use Rattle.kd_mark.specs.Watch.{is_keep, handed, is_met, logged_mark, IsWatched}
use Rattle.kd_mark.proofs.InBox.{child-marked, nodes-marked, contents-marked, marked_missed}

only_live : (x : Label) → is_live x ≡ true → x ≡ Live
only_live Live e = refl
only_live Suspended e = cc
only_live Dropped e = cc

only_suspended : (x : Label) → is_suspended x ≡ true → x ≡ Suspended
only_suspended Live e = cc
only_suspended Suspended e = refl
only_suspended Dropped e = cc

-- the action that changes no label is KEEP
pub only_keep : (a : Tag) → is_keep a ≡ true → a ≡ keep_tag
only_keep a e = let h = and_parts _ _ e in tags_alike a keep_tag (only_live a.live h.0) (only_suspended a.suspended h.1)

-- no operation, nothing changed
pub watched_same : (path : List Side) (t s : Shape) → at path t ≡ Some s → IsWatched path t t []
watched_same path t s e = record { before = s; after = s; was = e; is = e; size = omega arith; fit = tt; replayed = refl }

-- an action that is handed to the watched root is its first operation
handed_first : (q : Tag) (t u : Shape) (ops : List Op) → IsWatched [] (tagged q t) u ops → IsWatched [] t u (handed [] q ++ ops)
handed_first q t u ops w =
    let top : tagged q t ≡ w.before = same_Some (tagged q t) w.before w.was in
    let is : contents w.before ≡ mark (contents t) everything q = ap contents (sym top) ∙ contents-tagged q t in
    let size : nodes t ≤ nodes w.after = omega (arith, tagged_nodes q t, w.size, ap nodes top) in
    let P : List Op → Type 0 = λ os. IsWatched [] t u (os ++ ops) in
    cond_both (is_keep q) [] (Mark all_items q ∷ []) P
    (λ e.
    let same : contents w.before ≡ contents t = ap contents (sym top) ∙ ap (λ a. contents (tagged a t)) (only_keep q e) ∙ ap contents (tagged-keep t) in
    record { before = t; after = w.after; was = refl; is = w.is; size = size; fit = subst (λ m. Fit m ops) same w.fit; replayed = w.replayed ∙ ap (λ m. replay m ops) same })
    (λ e. record { before = t; after = w.after; was = refl; is = w.is; size = size; fit = subst (λ m. Fit m ops) is w.fit; replayed = w.replayed ∙ ap (λ m. replay m ops) is })

-- a child that is handed an action, and then changed
pub watched_handed : (path : List Side) (q : Tag) (t u s : Shape) (ops : List Op) → at path t ≡ Some s → IsWatched path (tagged q t) u ops → IsWatched path t u (handed path q ++ ops)
watched_handed [] q t u s ops e w = handed_first q t u ops w
watched_handed (side ∷ path) q leaf u s ops e w = absurd (cc)
watched_handed (Left ∷ path) q (fork h l r) u s ops e w = record { before = w.before; after = w.after; was = w.was; is = w.is; size = w.size; fit = w.fit; replayed = w.replayed }
watched_handed (Right ∷ path) q (fork h l r) u s ops e w = record { before = w.before; after = w.after; was = w.was; is = w.is; size = w.size; fit = w.fit; replayed = w.replayed }

-- what is watched in a child is watched in the tree
pub watched_child : (side : Side) (path : List Side) (h g : Head) (l r l' r' : Shape) (ops : List Op)
    → IsWatched path (child side l r) (child side l' r') ops → IsWatched (side ∷ path) (fork h l r) (fork g l' r') ops
watched_child Left path h g l r l' r' ops w = record { before = w.before; after = w.after; was = w.was; is = w.is; size = w.size; fit = w.fit; replayed = w.replayed }
watched_child Right path h g l r l' r' ops w = record { before = w.before; after = w.after; was = w.was; is = w.is; size = w.size; fit = w.fit; replayed = w.replayed }

pub at_child : (side : Side) (path : List Side) (h : Head) (l r s : Shape) → at (side ∷ path) (fork h l r) ≡ Some s → at path (child side l r) ≡ Some s
at_child Left path h l r s e = e
at_child Right path h l r s e = e

-- what is done to both children is done to this one
pub child_done : (f : Shape → Shape) (side : Side) (l r : Shape) → f (child side l r) ≡ child side (f l) (f r)
child_done f Left l r = refl
child_done f Right l r = refl

-- there is a subtree at the path of a tree that had an action done to it
pub at-tagged : (path : List Side) (q : Tag) (t s : Shape) → at path t ≡ Some s → (u : Shape) × (at path (tagged q t) ≡ Some u)
at-tagged [] q t s e = (tagged q t, refl)
at-tagged (side ∷ path) q leaf s e = absurd (cc)
at-tagged (Left ∷ path) q (fork h l r) s e = (s, e)
at-tagged (Right ∷ path) q (fork h l r) s e = (s, e)

-- marks

pub mark_missed : (c : Choice) (a : Tag) (t : Shape) → is_met c t ≡ false → marked_shape c a t ≡ t
unfolding marked_under
mark_missed c a leaf e = refl
mark_missed c a (fork h l r) e = sym (marked_missed c a (fork h l r) (reach_of h l r) refl e)

-- the watched root itself
mark_root : (c : Choice) (a : Tag) (t : Shape) → IsWatched [] t (marked_shape c a t) (logged_mark c a [] t)
unfolding logged_mark
mark_root c a t =
    let size : nodes t ≤ nodes (marked_shape c a t) = omega (arith, nodes-marked c a keep_tag t) in
    let P : List Op → Type 0 = IsWatched [] t (marked_shape c a t) in
    cond_both (is_met c t) (Mark c a ∷ []) [] P
    (λ e. record { before = t; after = marked_shape c a t; was = refl; is = refl; size = size; fit = tt; replayed = contents-marked c a t })
    (λ e. record { before = t; after = marked_shape c a t; was = refl; is = refl; size = size; fit = tt; replayed = ap contents (mark_missed c a t e) })

-- A mark on a tree is, for the subtree at a path, what is logged of it.
pub watched-mark : (c : Choice) (a : Tag) (path : List Side) (t s : Shape) → at path t ≡ Some s → IsWatched path t (marked_shape c a t) (logged_mark c a path t)
unfolding marked_under logged_mark
watched-mark c a [] t s e = mark_root c a t
watched-mark c a (side ∷ path) leaf s e = absurd (cc)
watched-mark c a (side ∷ path) (fork h l r) s e =
    let top : Head = record h { item = marked_item (chosen_by c) a (relabelled keep_tag h.item); pending = keep_tag } in
    let x = child side l r in
    let l' = marked_under c a (composed h.pending keep_tag) l in
    let r' = marked_under c a (composed h.pending keep_tag) r in
    let here : at path x ≡ Some s = at_child side path h l r s e in
    let same : IsWatched (side ∷ path) (fork h l r) (tagged keep_tag (fork h l r)) [] = watched_child side path h _ l r l r [] (watched_same path x s here) in
    let covered : IsWatched (side ∷ path) (fork h l r) (tagged a (tagged keep_tag (fork h l r))) [] = watched_child side path h _ l r l r [] (watched_same path x s here) in
    let u = at-tagged path h.pending x s here in
    let ops = handed path h.pending ++ logged_mark c a path (tagged h.pending x) in
    let entered = watched_child side path h top l r l' r' ops (watched_handed path h.pending x (child side l' r') s (logged_mark c a path (tagged h.pending x)) here
    (subst (λ z. IsWatched path (tagged h.pending x) z (logged_mark c a path (tagged h.pending x)))
    (child-marked c a h.pending x ∙ child_done (marked_under c a (composed h.pending keep_tag)) side l r)
    (watched-mark c a path (tagged h.pending x) u.0 u.1))) in
    elim (meets c (reach_of h l r)) as (λ m. IsWatched (side ∷ path) (fork h l r)
    (cond m (cond (covers c (reach_of h l r)) (tagged a (tagged keep_tag (fork h l r))) (fork top l' r'))
    (tagged keep_tag (fork h l r))) (cond (m && not (covers c (reach_of h l r))) ops [])) [
      | true ↦ elim (covers c (reach_of h l r)) as (λ k. IsWatched (side ∷ path) (fork h l r) (cond k (tagged a (tagged keep_tag (fork h l r))) (fork top l' r')) (cond (true && not k) ops [])) [
        | true ↦ covered
        | false ↦ entered
      ]
      | false ↦ same
    ]
