-- A subtree that another tree replaces.
use Rattle.std.proofs.Common.{◌≡◌, ℕ, ◌+◌, ◌≤◌, inl, inr, refl, ap, ◌∙◌, sym, subst, arith, List, [], ◌∷◌, length, None, Some, cond, ◌==◌, ◌≤ℤ◌, IsPermutation}
use Rattle.std.proofs.lemmas.Bool.{cases_lt}
use Rattle.std.proofs.lemmas.List.Elements.{Contains-append_left}
use Rattle.std.proofs.lemmas.List.Sorted.{All-permutation, sum_by-IsPermutation, IsPermutation-sym, IsPermutation-trans, IsPermutation-append_left, IsPermutation-append_right}
use Rattle.std.proofs.lemmas.Option.{same_Some}
use Rattle.point_geom.specs.Place.{Place}
use Rattle.point_geom.specs.Axes.{on}
use Rattle.node_labels.specs.Labels.{composed, keep_tag}
use Rattle.node_labels.specs.declared.tag.Tag.{Tag}
use Rattle.node_labels.proofs.Laws.{composed-keep_left}
use Rattle.map_items.specs.declared.item.Item.{Item}
use Rattle.map_items.specs.Contents.{everything, mark, kept, relabelled}
use Rattle.kd_tree.specs.Shape.{Head, Shape, leaf, fork, nodes, levels, numbers}
use Rattle.kd_tree.specs.Walk.{walk, AllKept, times}
use Rattle.kd_tree.specs.Sound.{IsSound, IsSoundFork, IsTopSound}
use Rattle.kd_tree.specs.Contents.{by_number, contents}
use Rattle.kd_tree.specs.Parts.{at, replaced_at, with_child}
use Rattle.kd_tree.specs.Apart.{AreApart, IsClear, onward}
use Rattle.kd_tree.specs.declared.path.Side.{Side}
use Rattle.kd_tree.specs.declared.path.Side.TheVariants.{Left, Right}
use Rattle.kd_tree.proofs.Contents.{walk-composed, by_number-mark, times_walk, once_walk}
use Rattle.kd_tree.proofs.Held.{contents_few}
use Rattle.kd_tree.proofs.Numbered.{by_number_moves, by_number-moved}
use Rattle.kd_mark.specs.Refresh.{IsNotDue, RefreshesIfDue}
use Rattle.kd_mark.specs.Watch.{IsLargeAt}
use Rattle.kd_mark.specs.Several.{AreLargeAt, AreSameAt}
use Rattle.kd_update.specs.Replace.{StandsFor, HasRoomAt, IsNoLarger, IsReplaced, RebuildsNoneAbove}
use Rattle.kd_tree.proofs.Left.{all_left, left_all}
use Rattle.kd_mark.proofs.Trees.{nodes_below}
use Rattle.kd_mark.proofs.Among.{among_left, among_right}
use Rattle.kd_mark.proofs.Refresh.{refresh_contents, rebuilt_if_due_refresh}
use Rattle.kd_mark.proofs.Several.{balanced_outside, rebuilt_if_due_outside}
use Rattle.kd_mark.proofs.Large.{large_nodes, large_same}

-- what remains under an action, by number, is what it leaves of the contents
numbered-walk : (a : Tag) (t : Shape) → by_number (walk a t) ≡ mark (contents t) everything a
numbered-walk a t =
    ap (λ b. by_number (walk b t)) (sym (composed-keep_left a)) ∙ ap by_number (walk-composed keep_tag a t) ∙ by_number-mark everything a (walk keep_tag t)

-- trees that hold the same leave the same under each action
pub moved_under : (a : Tag) (s t : Shape) → contents s ≡ contents t → IsPermutation (walk a s) (walk a t)
moved_under a s t e =
    let same : by_number (walk a s) ≡ by_number (walk a t) = numbered-walk a s ∙ ap (λ m. mark m everything a) e ∙ sym (numbered-walk a t) in
    IsPermutation-trans _ _ _ (by_number_moves (walk a s)) (subst (λ m. IsPermutation m (walk a t)) (sym same) (IsPermutation-sym _ _ (by_number_moves (walk a t))))

same_left : (P : Place → Type 0) (a : Tag) (s t : Shape) → contents s ≡ contents t → AllKept P a s → AllKept P a t
same_left P a s t e k = left_all P a t (All-permutation (λ (i : Item). P i.point) _ _ (moved_under a s t e) (all_left P a s k))

pub same_times : (n : ℕ) (a : Tag) (s t : Shape) → contents s ≡ contents t → times n a t ≡ times n a s
same_times n a s t e = omega (arith, times_walk n a s, times_walk n a t, sum_by-IsPermutation (λ (i : Item). cond (n == i.number) 1 0) _ _ (moved_under a s t e))

-- a sound node with children that hold the same
pub same_sound : (h : Head) (l r l' r' : Shape) → IsSoundFork h l r → contents l ≡ contents l'
    → contents r ≡ contents r' → nodes l' + nodes r' + 1 ≤ 4194304 → levels l' ≤ 511 → levels r' ≤ 511
    → IsSoundFork h l' r'
same_sound h l r l' r' s e f few low lower = record {
  below = same_left (λ p. on h.axis p ≤ℤ on h.axis h.item.point) h.pending l l' e s.below;
  above = same_left (λ p. on h.axis h.item.point ≤ℤ on h.axis p) h.pending r r' f s.above;
  once = λ n. omega (arith, s.once n, same_times n (composed h.pending keep_tag) l l' e, same_times n (composed h.pending keep_tag) r r' f);
  few = few;
  low = omega arith;
}

pub same_fork : (h : Head) (l r l' r' : Shape) → ((n : ℕ) → times n keep_tag (fork h l r) ≤ 1) → contents l ≡ contents l' → contents r ≡ contents r' → contents (fork h l' r') ≡ contents (fork h l r)
same_fork h l r l' r' once e f =
    let q = composed h.pending keep_tag in
    let own = kept (relabelled keep_tag h.item ∷ []) in
    let moved : IsPermutation (walk keep_tag (fork h l r)) (walk keep_tag (fork h l' r')) =
    IsPermutation-append_right own _ _ (IsPermutation-trans _ _ _
    (IsPermutation-append_left (walk q r) _ _ (moved_under q l l' e))
    (IsPermutation-append_right (walk q l') _ _ (moved_under q r r' f))) in
    sym (by_number-moved _ _ moved (once_walk (fork h l r) once))

-- a tree that is to be spared stays
rebuilt_if_due_spared : (large : ℕ) (s t : Shape) → RefreshesIfDue large s t → IsNotDue large s → t ≡ s
rebuilt_if_due_spared large s t (inl k) c = sym k.1
rebuilt_if_due_spared large s t (inr k) c = absurd (k.0 c)

-- one above a large subtree is to be spared
large_spared : (large : ℕ) (p : List Side) (s t : Shape) → RefreshesIfDue large s t → IsLargeAt large p s → t ≡ s
large_spared large p s t k big = rebuilt_if_due_spared large s t k (λ many few. absurd (omega (arith, few, large_nodes large p s big)))

-- what was done in a child, and then the parent rebuilt where it is to be
replaced_left : (large : ℕ) (path : List Side) (h : Head) (l r other l' t : Shape) → IsSound (fork h l r) → IsReplaced large path l other l' → RefreshesIfDue large (fork h l' r) t → IsSoundFork h l' r
    → IsReplaced large (Left ∷ path) (fork h l r) other t
replaced_left large path h l r other l' t s u k sound =
    let f = rebuilt_if_due_refresh large (fork h l' r) t k in
    record {
      held = refresh_contents (fork h l' r) t sound.once f ∙ same_fork h l r l' r s.0.once (sym u.held) refl;
      size = record { few = omega (arith, f.few, u.size.few); low = omega (arith, f.low, u.size.low) };
      from = λ n c. among_left h.item.number (numbers l') (numbers l) (numbers r) (numbers other) u.from n (f.from n c);
      beside = beside;
      balance = λ ps e o. rebuilt_if_due_outside large ps h l' r t k (λ here. let all = e here in (u.balance (onward Left ps) all.1 o, all.2));
      unrebuilt = λ c. let same = u.unrebuilt c.1 in rebuilt_if_due_spared large _ t k (subst (λ x. IsNotDue large (fork h x r)) (sym same) c.0) ∙ ap (λ x. fork h x r) same;
    }
  where
    stays : (p : List Side) → at p (fork h l' r) ≡ at p (fork h l r) → IsLargeAt large p (fork h l r) → at p t ≡ at p (fork h l r)
    stays p e big = ap (at p) (large_spared large p (fork h l' r) t k (large_same large p (fork h l r) (fork h l' r) e big)) ∙ e

    beside : (p : List Side) → AreApart (Left ∷ path) p → IsLargeAt large p (fork h l r) → at p t ≡ at p (fork h l r)
    beside [] a big = absurd a
    beside (Left ∷ p) a big = stays (Left ∷ p) (u.beside p a (record { node = big.node; there = big.there; size = big.size })) big
    beside (Right ∷ p) a big = stays (Right ∷ p) refl big

replaced_right : (large : ℕ) (path : List Side) (h : Head) (l r other r' t : Shape) → IsSound (fork h l r)
    → IsReplaced large path r other r' → RefreshesIfDue large (fork h l r') t → IsSoundFork h l r'
    → IsReplaced large (Right ∷ path) (fork h l r) other t
replaced_right large path h l r other r' t s u k sound =
    let f = rebuilt_if_due_refresh large (fork h l r') t k in
    record {
      held = refresh_contents (fork h l r') t sound.once f ∙ same_fork h l r l r' s.0.once refl (sym u.held);
      size = record { few = omega (arith, f.few, u.size.few); low = omega (arith, f.low, u.size.low) };
      from = λ n c. among_right h.item.number (numbers r') (numbers l) (numbers r) (numbers other) u.from n (f.from n c);
      beside = beside;
      balance = λ ps e o. rebuilt_if_due_outside large ps h l r' t k (λ here. let all = e here in (all.1, u.balance (onward Right ps) all.2 o));
      unrebuilt = λ c. let same = u.unrebuilt c.1 in rebuilt_if_due_spared large _ t k (subst (λ x. IsNotDue large (fork h l x)) (sym same) c.0) ∙ ap (λ x. fork h l x) same;
    }
  where
    stays : (p : List Side) → at p (fork h l r') ≡ at p (fork h l r) → IsLargeAt large p (fork h l r) → at p t ≡ at p (fork h l r)
    stays p e big = ap (at p) (large_spared large p (fork h l r') t k (large_same large p (fork h l r) (fork h l r') e big)) ∙ e

    beside : (p : List Side) → AreApart (Right ∷ path) p → IsLargeAt large p (fork h l r) → at p t ≡ at p (fork h l r)
    beside [] a big = absurd a
    beside (Left ∷ p) a big = stays (Left ∷ p) refl big
    beside (Right ∷ p) a big = stays (Right ∷ p) (u.beside p a (record { node = big.node; there = big.there; size = big.size })) big

-- where the path ends, the other tree itself
pub replaced_root : (large : ℕ) (path : List Side) (t other : Shape) → length path ≡ 0 → StandsFor path t other → IsReplaced large path t other other
replaced_root large (side ∷ path) t other none k = absurd (omega (arith, none))
replaced_root large [] t other none k = record {
  held = k.same ∙ ap contents (same_Some k.node t (sym k.there));
  size = record { few = omega arith; low = omega arith };
  from = λ n c. Contains-append_left (numbers other) (numbers t) n c;
  beside = λ p a big. absurd a;
  balance = λ ps e o. balanced_outside large ps other o;
  unrebuilt = λ c. refl;
}

-- levels and nodes of the plain result

pub replaced_levels : (path : List Side) (other t : Shape) → levels (replaced_at path other t) ≤ levels t + levels other
replaced_levels [] other t = omega arith
replaced_levels (side ∷ path) other leaf = omega arith
replaced_levels (Left ∷ path) other (fork h l r) = omega (arith, replaced_levels path other l)
replaced_levels (Right ∷ path) other (fork h l r) = omega (arith, replaced_levels path other r)

pub replaced_nodes : (path : List Side) (other t s : Shape) → at path t ≡ Some s → nodes (replaced_at path other t) + nodes s ≡ nodes t + nodes other
replaced_nodes [] other t s e = let same : t ≡ s = cc in omega (arith, ap nodes same)
replaced_nodes (side ∷ path) other leaf s e = absurd (cc)
replaced_nodes (Left ∷ path) other (fork h l r) s e = omega (arith, replaced_nodes path other l s e)
replaced_nodes (Right ∷ path) other (fork h l r) s e = omega (arith, replaced_nodes path other r s e)

-- the child on the way

pub child_stands : (side : Side) (path : List Side) (t other s : Shape) → at (side ∷ []) t ≡ Some s → StandsFor (side ∷ path) t other → StandsFor path s other
child_stands side path leaf other s e k = absurd (cc)
child_stands Left path (fork h l r) other s e k = record { node = k.node; there = subst (λ x. at path x ≡ Some k.node) (same_Some l s e) k.there; same = k.same }
child_stands Right path (fork h l r) other s e k = record { node = k.node; there = subst (λ x. at path x ≡ Some k.node) (same_Some r s e) k.there; same = k.same }

pub child_room : (side : Side) (path : List Side) (t other s : Shape) → at (side ∷ []) t ≡ Some s → HasRoomAt (side ∷ path) other t → HasRoomAt path other s
child_room side path leaf other s e k = absurd (cc)
child_room Left path (fork h l r) other s e k = subst (HasRoomAt path other) (same_Some l s e) (record { low = omega (arith, k.low); few = omega (arith, k.few) })
child_room Right path (fork h l r) other s e k = subst (HasRoomAt path other) (same_Some r s e) (record { low = omega (arith, k.low); few = omega (arith, k.few) })

-- where no node above the path is to be rebuilt, neither is the parent nor one above it in the child
pub child_calm : (large : ℕ) (side : Side) (path : List Side) (t other s : Shape) → at (side ∷ []) t ≡ Some s → RebuildsNoneAbove large (side ∷ path) (replaced_at (side ∷ path) other t)
    → IsNotDue large (with_child side (replaced_at path other s) t) × RebuildsNoneAbove large path (replaced_at path other s)
child_calm large side path leaf other s e k = absurd (cc)
child_calm large Left path (fork h l r) other s e k = subst (λ x. IsNotDue large (fork h (replaced_at path other x) r) × RebuildsNoneAbove large path (replaced_at path other x)) (same_Some l s e) k
child_calm large Right path (fork h l r) other s e k = subst (λ x. IsNotDue large (fork h l (replaced_at path other x)) × RebuildsNoneAbove large path (replaced_at path other x)) (same_Some r s e) k

-- there is one
pub child_there : (side : Side) (path : List Side) (t other : Shape) → at (side ∷ []) t ≡ None → StandsFor (side ∷ path) t other → ⊥
child_there side path leaf other e k = cc k.there
child_there Left path (fork h l r) other e k = cc
child_there Right path (fork h l r) other e k = cc

-- the tree with the changed child is sound
pub child_sound : (large : ℕ) (side : Side) (path : List Side) (t other s new : Shape) → at (side ∷ []) t ≡ Some s
    → IsSound t → HasRoomAt (side ∷ path) other t → IsReplaced large path s other new
    → IsTopSound (with_child side new t)
child_sound large side path leaf other s new e sound k u = absurd (cc)
child_sound large Left path (fork h l r) other s new e sound k u =
    let f = subst (λ x. IsReplaced large path x other new) (sym (same_Some l s e)) u in
    same_sound h l r new r sound.0 (sym f.held) refl (omega (arith, k.few, f.size.few)) (omega (arith, k.low, f.size.low)) (omega (arith, k.low))
child_sound large Right path (fork h l r) other s new e sound k u =
    let f = subst (λ x. IsReplaced large path x other new) (sym (same_Some r s e)) u in
    same_sound h l r l new sound.0 refl (sym f.held) (omega (arith, k.few, f.size.few)) (omega (arith, k.low)) (omega (arith, k.low, f.size.low))

-- and where it is rebuilt if it is to be, the whole is replaced
pub child_replaced : (large : ℕ) (side : Side) (path : List Side) (t other s new u : Shape) → at (side ∷ []) t ≡ Some s
    → IsSound t → HasRoomAt (side ∷ path) other t → IsReplaced large path s other new
    → RefreshesIfDue large (with_child side new t) u → IsReplaced large (side ∷ path) t other u
child_replaced large side path leaf other s new u e sound k f g = absurd (cc)
child_replaced large Left path (fork h l r) other s new u e sound k f g =
    replaced_left large path h l r other new u sound (subst (λ x. IsReplaced large path x other new) (sym (same_Some l s e)) f) g (child_sound large Left path (fork h l r) other s new e sound k f)
child_replaced large Right path (fork h l r) other s new u e sound k f g =
    replaced_right large path h l r other new u sound (subst (λ x. IsReplaced large path x other new) (sym (same_Some r s e)) f) g (child_sound large Right path (fork h l r) other s new e sound k f)

-- several paths

-- large subtrees apart from the path are unchanged
pub same_beside : (large : ℕ) (path : List Side) (ps : List (List Side)) (old other new : Shape)
    → IsReplaced large path old other new → IsClear path ps → AreLargeAt large ps old → AreSameAt ps new old
same_beside large path [] old other new u a k = tt
same_beside large path (p ∷ ps) old other new u a k = (u.beside p a.0 k.0, same_beside large path ps old other new u a.1 k.1)

-- where there is no room

-- the plain result holds what the tree holds
pub replaced_contents : (path : List Side) (t other : Shape) → IsSound t → StandsFor path t other → contents (replaced_at path other t) ≡ contents t
replaced_contents [] t other sound k = k.same ∙ ap contents (same_Some k.node t (sym k.there))
replaced_contents (side ∷ path) leaf other sound k = refl
replaced_contents (Left ∷ path) (fork h l r) other sound k =
    same_fork h l r (replaced_at path other l) r sound.0.once (sym (replaced_contents path l other sound.1 (child_stands Left path (fork h l r) other l refl k))) refl
replaced_contents (Right ∷ path) (fork h l r) other sound k =
    same_fork h l r l (replaced_at path other r) sound.0.once refl (sym (replaced_contents path r other sound.2 (child_stands Right path (fork h l r) other r refl k)))

-- what is built of all that remains is no larger
pub anew_no_larger : (path : List Side) (t other new : Shape) → IsSound t → StandsFor path t other
    → (HasRoomAt path other t → ⊥) → nodes new ≡ length (contents t) → levels new ≤ 23
    → IsNoLarger (replaced_at path other t) new
anew_no_larger path t other new sound k none few low =
    let plain = replaced_at path other t in
    record {
      few = omega (arith, contents_few plain, few, ap length (replaced_contents path t other sound k));
      low = elim (cases_lt (levels plain) 23) [
        | inl k' ↦ absurd (none (record { low = omega (arith, k'); few = omega (arith, nodes_below 22 plain (omega (arith, k'))) }))
        | inr k' ↦ omega (arith, k', low)
      ];
    }
