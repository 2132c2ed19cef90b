-- Actions while several subtrees are watched, and nodes above these joined.
use Rattle.std.proofs.Common.{◌≡◌, ℕ, true, false, inl, inr, refl, ap, ◌∙◌, sym, subst, arith, List, [], ◌∷◌, Option, Some, None, length}
use Rattle.std.proofs.lemmas.Bool.{cond_both, eqb-true}
use Rattle.map_items.specs.declared.choice.Choice.{Choice}
use Rattle.kd_mark.specs.Reach.{covers, meets, reach}
use Rattle.kd_mark.specs.declared.reach.Reach.{Reach}
use Rattle.point_geom.specs.declared.axis.Axis.{Axis}
use Rattle.node_labels.specs.declared.tag.Tag.{Tag}
use Rattle.map_items.specs.declared.item.Item.{Item}
use Rattle.kd_tree.specs.Shape.{Head, Shape, leaf, fork, nodes}
use Rattle.kd_tree.specs.Walk.{tagged}
use Rattle.kd_tree.specs.Parts.{pushed}
use Rattle.kd_tree.specs.Apart.{is_here, onward}
use Rattle.kd_tree.specs.declared.change.Fork.{Fork}
use Rattle.kd_tree.specs.declared.path.Side.{Side}
use Rattle.kd_tree.specs.declared.path.Side.TheVariants.{Left, Right}
use Rattle.map_items.specs.Contents.{chosen_by, marked_item}
use Rattle.kd_mark.specs.Mark.{marked_shape, RebuildsNoneEntered}
use Rattle.kd_mark.specs.Refresh.{IsNotDue, RefreshesIfDue}
use Rattle.kd_mark.specs.Update.{IsBalancedBelow}
use Rattle.kd_mark.specs.Watch.{IsLargeAt, IsWatched, logged_mark}
use Rattle.kd_mark.specs.Several.{IsBalancedClear, AreLargeAt, AreSameAt, IsUpdatedClear, large_at, AreWatched}
use Rattle.kd_mark.proofs.InBox.{IsEntered, marked_none, marked_missed, marked_covered}
use Rattle.kd_mark.proofs.Criteria.{criteria_none}
use Rattle.kd_mark.proofs.Near.{near}
use Rattle.kd_mark.proofs.Trees.{at_pushed, forked}
use Rattle.kd_mark.proofs.Refresh.{head, refresh_same, refresh_trans, refresh_fork, rebuilt_if_due_refresh}
use Rattle.kd_mark.proofs.Update.{criteria_balanced, children_alike}
use Rattle.kd_mark.proofs.WatchedMark.{watched-mark}
use Rattle.kd_mark.proofs.Large.{large_nodes, large_same, large_after, watched_new}
use Rattle.std.specs.Prelude.{◌==◌}
use Rattle.kd_mark.specs.declared.watch.Watch.{Watch}
use Rattle.kd_mark.specs.Watches.{paths_in}

-- without a path

-- what is balanced is balanced outside any paths
pub balanced_outside : (large : ℕ) (ps : List (List Side)) (t : Shape) → IsBalancedBelow large t → IsBalancedClear large ps t
balanced_outside large ps leaf k = tt
balanced_outside large ps (fork h l r) k = λ _. (k.0, balanced_outside large (onward Left ps) l k.1, balanced_outside large (onward Right ps) r k.2)

pub balanced_clear : (large : ℕ) (t : Shape) → IsBalancedBelow large t → IsBalancedClear large [] t
balanced_clear large t = balanced_outside large [] t

pub clear_balanced : (large : ℕ) (t : Shape) → IsBalancedClear large [] t → IsBalancedBelow large t
clear_balanced large leaf k = tt
clear_balanced large (fork h l r) k = let all = k refl in (all.0, clear_balanced large l all.1, clear_balanced large r all.2)

pub balanced_free : (large : ℕ) (old plain new : Shape) (C : Type 0) → IsUpdatedClear large [] old plain C new → IsBalancedBelow large old → IsBalancedBelow large new
balanced_free large old plain new C u k = clear_balanced large new (u.balance (balanced_clear large old k))

pub balanced_clear_tagged : (large : ℕ) (ps : List (List Side)) (q : Tag) (t : Shape) → IsBalancedClear large ps t → IsBalancedClear large ps (tagged q t)
balanced_clear_tagged large ps q leaf k = tt
balanced_clear_tagged large ps q (fork h l r) k = k

-- large subtrees

pub large_all_same : (large : ℕ) (ps : List (List Side)) (t u : Shape) → AreSameAt ps u t → AreLargeAt large ps t → AreLargeAt large ps u
large_all_same large [] t u e k = tt
large_all_same large (p ∷ ps) t u e k = (large_same large p t u e.0 k.0, large_all_same large ps t u e.1 k.1)

large_tagged_at : (large : ℕ) (path : List Side) (q : Tag) (t : Shape) → IsLargeAt large path t → IsLargeAt large path (tagged q t)
large_tagged_at large path q leaf k = k
large_tagged_at large [] q (fork h l r) k =
    let same : fork h l r ≡ k.node = cc in
    record { node = tagged q (fork h l r); there = refl; size = omega (arith, k.size, ap nodes same) }
large_tagged_at large (Left ∷ path) q (fork h l r) k = record { node = k.node; there = k.there; size = k.size }
large_tagged_at large (Right ∷ path) q (fork h l r) k = record { node = k.node; there = k.there; size = k.size }

-- the paths that go on to a child lead to large subtrees of it
large_on : (large : ℕ) (side : Side) (ps : List (List Side)) (h : Head) (l r : Shape) → AreLargeAt large ps (fork h l r) → AreLargeAt large (onward side ps) (near side (forked h l r))
large_on large side [] h l r k = tt
large_on large Left ([] ∷ ps) h l r k = large_on large Left ps h l r k.1
large_on large Right ([] ∷ ps) h l r k = large_on large Right ps h l r k.1
large_on large Left ((Left ∷ p) ∷ ps) h l r k = (large_tagged_at large p h.pending l (record { node = k.0.node; there = k.0.there; size = k.0.size }), large_on large Left ps h l r k.1)
large_on large Left ((Right ∷ p) ∷ ps) h l r k = large_on large Left ps h l r k.1
large_on large Right ((Left ∷ p) ∷ ps) h l r k = large_on large Right ps h l r k.1
large_on large Right ((Right ∷ p) ∷ ps) h l r k = (large_tagged_at large p h.pending r (record { node = k.0.node; there = k.0.there; size = k.0.size }), large_on large Right ps h l r k.1)

-- each subtree has 0 nodes at least
large_any : (large : ℕ) (ps : List (List Side)) (t : Shape) → AreLargeAt large ps t → AreLargeAt 0 ps t
large_any large [] t k = tt
large_any large (p ∷ ps) t k = (record { node = k.0.node; there = k.0.there; size = omega arith }, large_any large ps t k.1)

pub same_children : (ps : List (List Side)) (h : Head) (l r l' r' : Shape) → is_here ps ≡ false
    → AreSameAt (onward Left ps) l' l → AreSameAt (onward Right ps) r' r → AreSameAt ps (fork h l' r') (fork h l r)
same_children [] h l r l' r' e u v = tt
same_children ([] ∷ ps) h l r l' r' e u v = absurd (cc)
same_children ((Left ∷ p) ∷ ps) h l r l' r' e u v = (u.0, same_children ps h l r l' r' e u.1 v)
same_children ((Right ∷ p) ∷ ps) h l r l' r' e u v = (v.0, same_children ps h l r l' r' e u v.1)

pub same_itself : (ps : List (List Side)) (t : Shape) → AreSameAt ps t t
same_itself [] t = tt
same_itself (p ∷ ps) t = (refl, same_itself ps t)

same_then : (ps : List (List Side)) (t u v : Shape) → AreSameAt ps t u → AreSameAt ps u v → AreSameAt ps t v
same_then [] t u v e f = tt
same_then (p ∷ ps) t u v e f = (e.0 ∙ f.0, same_then ps t u v e.1 f.1)

-- a node above large subtrees is spared
spared_same : (large : ℕ) (ps : List (List Side)) (s t : Shape) → AreLargeAt large ps s → RefreshesIfDue large s t → AreSameAt ps t s
spared_same large ps s t k (inl e) = subst (λ z. AreSameAt ps z s) e.1 (same_itself ps s)
spared_same large [] s t k (inr e) = tt
spared_same large (p ∷ ps) s t k (inr e) = absurd (e.0 (λ many few. absurd (omega (arith, few, large_nodes large p s k.0))))

-- a node with children that are balanced outside the paths, rebuilt where it is to be
pub rebuilt_if_due_outside : (large : ℕ) (ps : List (List Side)) (h : Head) (l r t : Shape)
    → RefreshesIfDue large (fork h l r) t
    → (is_here ps ≡ false → IsBalancedClear large (onward Left ps) l × IsBalancedClear large (onward Right ps) r)
    → IsBalancedClear large ps t
rebuilt_if_due_outside large ps h l r t (inl k) e = subst (IsBalancedClear large ps) k.1 (λ here. ((λ many few. (k.0 many few).0), (e here).0, (e here).1))
rebuilt_if_due_outside large ps h l r t (inr k) e = balanced_outside large ps t (criteria_balanced large t k.2)

-- nothing is rebuilt
pub clear_plain : (large : ℕ) (ps : List (List Side)) (old t : Shape) (C : Type 0) → (IsBalancedClear large ps old → IsBalancedClear large ps t) → IsUpdatedClear large ps old t C t
clear_plain large ps old t C k = record { refresh = refresh_same t; same = same_itself ps t; unrebuilt = λ _. refl; balance = k }

-- where a path ends here, balance is asked of nothing
pub balanced_here : (large : ℕ) (ps : List (List Side)) (t : Shape) → is_here ps ≡ true → IsBalancedClear large ps t
balanced_here large ps leaf e = tt
balanced_here large ps (fork h l r) e = λ n. absurd (cc)

pub clear_here : (large : ℕ) (ps : List (List Side)) (old plain new : Shape) (C : Type 0) → is_here ps ≡ true → new ≡ plain → IsUpdatedClear large ps old plain C new
clear_here large ps old plain new C e k = subst (λ t. IsUpdatedClear large ps old plain C t) (sym k) (clear_plain large ps old plain C (λ _. balanced_here large ps plain e))

-- what is known of a tree when its top is taken apart
pub record IsPassedBy (large : ℕ) (ps : List (List Side)) (s : Shape) (f : Fork) : Type 0 where
  pub there : (side : Side) → AreLargeAt large (onward side ps) (near side f)
  pub balanced : is_here ps ≡ false → IsBalancedClear large ps s → IsBalancedClear large (onward Left ps) f.left × IsBalancedClear large (onward Right ps) f.right

pub passed_by : (large : ℕ) (ps : List (List Side)) (s : Shape) (f : Fork) → Some f ≡ pushed s → AreLargeAt large ps s → IsPassedBy large ps s f
passed_by large ps s f x = at_pushed (λ z g. AreLargeAt large ps z → IsPassedBy large ps z g) s f x
    (λ h l r k. record {
      there = λ side. large_on large side ps h l r k;
      balanced = λ e all. let parts = all e in (balanced_clear_tagged large (onward Left ps) h.pending l parts.1, balanced_clear_tagged large (onward Right ps) h.pending r parts.2);
    })

-- below it large subtrees are at the paths that go on
pub large_next : (large m : ℕ) (ps qs : List (List Side)) (s x : Shape) (f : Fork) (side : Side) → Some f ≡ pushed s
    → AreLargeAt large ps s → m ≡ large_at ps large → qs ≡ onward side ps → x ≡ near side f → AreLargeAt m qs x
large_next large m ps qs s x f side e k a b d =
    let there = (passed_by large ps s f e k).there side in
    rw (a, b, d) (cond_both (is_here ps) 0 large (λ (z : ℕ). AreLargeAt z (onward side ps) (near side f)) (λ _. large_any large (onward side ps) (near side f) there) (λ _. there))

-- children updated clear of the paths that go on to them, joined, and their parent rebuilt where it is to be
pub clear_fork : (large : ℕ) (ps : List (List Side)) (old : Shape) (i : Item) (a : Axis) (ol or l r l' r' t : Shape) (C Cl Cr : ℕ → Type 0)
    → (is_here ps ≡ false → IsBalancedClear large ps old → IsBalancedClear large (onward Left ps) ol × IsBalancedClear large (onward Right ps) or)
    → ((m : ℕ) → C m → IsNotDue m (fork (head i a) l r) × Cl m × Cr m) → C 0 → AreLargeAt large ps (fork (head i a) l r)
    → IsUpdatedClear (large_at ps large) (onward Left ps) ol l (Cl (large_at ps large)) l' → IsUpdatedClear (large_at ps large) (onward Right ps) or r (Cr (large_at ps large)) r'
    → RefreshesIfDue (large_at ps large) (fork (head i a) l' r') t → IsUpdatedClear large ps old (fork (head i a) l r) (C large) t
clear_fork large ps old i a ol or l r l' r' t C Cl Cr balanced criteria none there =
    cond_both (is_here ps) 0 large
    (λ (m : ℕ). IsUpdatedClear m (onward Left ps) ol l (Cl m) l' → IsUpdatedClear m (onward Right ps) or r (Cr m) r'
    → RefreshesIfDue m (fork (head i a) l' r') t → IsUpdatedClear large ps old (fork (head i a) l r) (C large) t)
    (λ e u v done. clear_here large ps old (fork (head i a) l r) t (C large) e (unrebuilt 0 u v done none))
    (λ e u v done.
    let children = same_children ps (head i a) l r l' r' e u.same v.same in
    record {
      refresh = refresh_trans (fork (head i a) l r) (fork (head i a) l' r') t (refresh_fork i a l r l' r' u.refresh v.refresh) (rebuilt_if_due_refresh large (fork (head i a) l' r') t done);
      same =
          same_then ps t (fork (head i a) l' r') (fork (head i a) l r) (spared_same large ps (fork (head i a) l' r') t
          (large_all_same large ps (fork (head i a) l r) (fork (head i a) l' r') children there) done) children;
      unrebuilt = unrebuilt large u v done;
      balance = λ k. let both = balanced e k in rebuilt_if_due_outside large ps (head i a) l' r' t done (λ _. (u.balance both.0, v.balance both.1));
    })
  where
    unrebuilt : (m : ℕ) → IsUpdatedClear m (onward Left ps) ol l (Cl m) l'
        → IsUpdatedClear m (onward Right ps) or r (Cr m) r' → RefreshesIfDue m (fork (head i a) l' r') t → C m
        → t ≡ fork (head i a) l r
    unrebuilt m u v (inl k) c = let all = criteria m c in sym k.1 ∙ children_alike (head i a) l r l' r' (u.unrebuilt all.1) (v.unrebuilt all.2)
    unrebuilt m u v (inr k) c = let all = criteria m c in absurd (k.0 (subst (IsNotDue m) (sym (children_alike (head i a) l r l' r' (u.unrebuilt all.1) (v.unrebuilt all.2))) all.0))

-- each watch by itself

pub large_all_marked : (large : ℕ) (c : Choice) (a : Tag) (ps : List (List Side)) (t : Shape) → AreLargeAt large ps t → AreLargeAt large ps (marked_shape c a t)
large_all_marked large c a [] t k = tt
large_all_marked large c a (p ∷ ps) t k = (large_after large p t (marked_shape c a t) _ k.0 (watched-mark c a p t k.0.node k.0.there), large_all_marked large c a ps t k.1)

-- what a mark leaves alone, and what it covers
pub clear_none_there : (large : ℕ) (c : Choice) (a : Tag) (ps : List (List Side)) (s : Shape) (C : Type 0) → ◌≡◌ {A = Option Reach} None (reach s) → IsUpdatedClear large ps s (marked_shape c a s) C s
clear_none_there large c a ps s C x = subst (λ t. IsUpdatedClear large ps s t C s) (marked_none c a s x) (clear_plain large ps s s C (λ e. e))

pub clear_missed : (large : ℕ) (c : Choice) (a : Tag) (ps : List (List Side)) (s : Shape) (C : Type 0) (e : Reach)
    → Some e ≡ reach s → meets c e ≡ false → IsUpdatedClear large ps s (marked_shape c a s) C s
clear_missed large c a ps s C e x m = subst (λ t. IsUpdatedClear large ps s t C s) (marked_missed c a s e x m) (clear_plain large ps s s C (λ e. e))

pub clear_covered : (large : ℕ) (c : Choice) (a : Tag) (ps : List (List Side)) (s : Shape) (C : Type 0) (e : Reach)
    → Some e ≡ reach s → meets c e ≡ true → covers c e ≡ true
    → IsUpdatedClear large ps s (marked_shape c a s) C (tagged a s)
clear_covered large c a ps s C e x m k =
    subst (λ t. IsUpdatedClear large ps s t C (tagged a s)) (marked_covered c a s e x m k)
    (clear_plain large ps s (tagged a s) C (balanced_clear_tagged large ps a s))

-- an entered node
pub marked_joined : (large m : ℕ) (c : Choice) (a : Tag) (ps lefts rights : List (List Side)) (s : Shape) (f : Fork) (l r t : Shape) → IsEntered c a s f → Some f ≡ pushed s → AreLargeAt large ps s
    → m ≡ large_at ps large → lefts ≡ onward Left ps → rights ≡ onward Right ps
    → IsUpdatedClear m lefts f.left (marked_shape c a f.left) (RebuildsNoneEntered m c (marked_shape c a f.left)) l
    → IsUpdatedClear m rights f.right (marked_shape c a f.right) (RebuildsNoneEntered m c (marked_shape c a f.right)) r
    → RefreshesIfDue m (fork (head (marked_item (chosen_by c) a f.item) f.axis) l r) t → IsUpdatedClear large ps s (marked_shape c a s) (RebuildsNoneEntered large c (marked_shape c a s)) t
marked_joined large m c a ps lefts rights s f l r t w x k e el er u v done =
    let there = subst (AreLargeAt large ps) (sym w.value) (large_all_marked large c a ps s k) in
    subst (λ p. IsUpdatedClear large ps s p (RebuildsNoneEntered large c (marked_shape c a s)) t) w.value
    (clear_fork large ps s (marked_item (chosen_by c) a f.item) f.axis f.left f.right (marked_shape c a f.left) (marked_shape c a f.right) l r t
    (λ n. RebuildsNoneEntered n c (marked_shape c a s)) (λ n. RebuildsNoneEntered n c (marked_shape c a f.left)) (λ n. RebuildsNoneEntered n c (marked_shape c a f.right))
    (passed_by large ps s f x k).balanced w.criteria (criteria_none c (marked_shape c a s)) there (rw (e, el) at u) (rw (e, er) at v) (rw e at done))

-- where there is no watch, both are one
pub balanced_unwatched : (large : ℕ) (ws : List Watch) (t : Shape) → (length ws == 0) ≡ true
    → (IsBalancedClear large (paths_in ws) t → IsBalancedBelow large t) ×
    (IsBalancedBelow large t → IsBalancedClear large (paths_in ws) t)
balanced_unwatched large [] t e = (clear_balanced large t, balanced_clear large t)
balanced_unwatched large (w ∷ ws) t e = absurd (omega (arith, eqb-true (length (w ∷ ws)) 0 e))

-- each watch by itself
pub all_watched-mark : (large : ℕ) (c : Choice) (a : Tag) (ps : List (List Side)) (t new : Shape)
    → AreLargeAt large ps t → AreSameAt ps new (marked_shape c a t)
    → AreWatched (λ p. IsWatched p t new (logged_mark c a p t)) ps
all_watched-mark large c a [] t new k e = tt
all_watched-mark large c a (p ∷ ps) t new k e = (watched_new p t (marked_shape c a t) new _ e.0 (watched-mark c a p t k.0.node k.0.there), all_watched-mark large c a ps t new k.1 e.1)
