-- Work while subtrees are watched.
use Rattle.std.proofs.Common.{◌≡◌, ℕ, ◌<◌, ◌≤◌, List, [], ◌∷◌, ◌++◌, length, get_or, refl, ap, sym, ◌∙◌, arith, suc, zero, subst, inl, inr, Some}
use Rattle.std.specs.Prelude.{All, Contains}
use Rattle.std.specs.List.{remove}
use Rattle.std.proofs.lemmas.List.{length-map}
use Rattle.std.proofs.lemmas.List.Elements.{All-contains, All-cons, All-nil, All-weaker, Contains-append_cases, Contains-append_left, Contains-append_right}
use Rattle.std.proofs.lemmas.Option.{same_Some}
use Rattle.point_geom.specs.Place.{Place}
use Rattle.map_items.specs.declared.choice.Choice.{Choice}
use Rattle.node_labels.specs.Labels.{keep_tag}
use Rattle.node_labels.specs.declared.tag.Tag.{Tag}
use Rattle.map_items.specs.declared.op.Op.{Op}
use Rattle.map_items.specs.Ops.{numbers_put}
use Rattle.kd_tree.specs.Shape.{Shape, leaf, fork, levels, nodes, numbers}
use Rattle.kd_tree.specs.Walk.{times}
use Rattle.kd_tree.specs.Sound.{IsSound}
use Rattle.kd_tree.specs.Contents.{contents}
use Rattle.kd_tree.specs.Apart.{IsClear}
use Rattle.kd_tree.specs.Criteria.{AllMeetCriteria}
use Rattle.kd_tree.specs.Parts.{at, replaced_at}
use Rattle.kd_tree.specs.declared.path.Side.{Side}
use Rattle.kd_tree.specs.declared.path.Side.TheVariants.{Left, Right}
use Rattle.kd_mark.specs.declared.watch.Watch.{Watch}
use Rattle.kd_mark.specs.Refresh.{AreAmong}
use Rattle.kd_mark.specs.Several.{AreLargeAt, AreSameAt, AreWatched, IsBalancedClear}
use Rattle.kd_mark.specs.Watch.{IsLargeAt, IsWatched, logged_mark}
use Rattle.kd_update.specs.Replace.{HasRoomAt}
use Rattle.kd_update.specs.Watch.{logged_put}
use Rattle.kd_mark.specs.Watches.{HaveRoom, paths_in, with_marks}
use Rattle.kd_update.specs.Watches.{with_puts}
use Rattle.kd_mark.proofs.Logged.{logged_mark_few}
use Rattle.kd_update.proofs.Logged.{logged_put_few, mark_puts, put_puts}
use Rattle.kd_update.proofs.Numbers.{left_few, unheld}
use Rattle.kd_update.proofs.StandsFor.{replaced_nodes}
use Rattle.kd_mark.proofs.Several.{balanced_clear}
use Rattle.kd_mark.proofs.Update.{criteria_balanced}
use Rattle.map_update.specs.Draft.{IsDraft, IsDraftLeft}
use Rattle.kd_update.specs.Detached.{AreLawfulParts, AreLeft, HaveLogRoom, PartAt, paths, watch_of, watches_of}
use Rattle.map_update.specs.declared.draft.Draft.{Draft}
use Rattle.kd_update.proofs.ApartPaths.{clear_of_others, balanced_more, ones_moved}
use Rattle.map_update.proofs.Detached.{HaveLogRoomOf, each_at, each_large, each_logged, each_more, each_same, each_without, left_itself, left_lawful, left_logged, left_none, left_trans, left_without, logged, paths-logged, room_of_two}
use Rattle.map_update.proofs.Drafts.{among_below}

-- parts as they are watched

pub paths-watched : (ps : List PartAt) → paths_in (watches_of ps) ≡ paths ps
paths-watched [] = refl
paths-watched (p ∷ ps) = ap (λ (qs : List (List Side)). p.path ∷ qs) (paths-watched ps)

pub room_watched : (ps : List PartAt) → HaveRoom (watches_of ps) → HaveLogRoom ps
room_watched [] k = tt
room_watched (p ∷ ps) k = (k.0, room_watched ps k.1)

pub watched_room : (ps : List PartAt) → HaveLogRoom ps → HaveRoom (watches_of ps)
watched_room [] k = tt
watched_room (p ∷ ps) k = (k.0, watched_room ps k.1)

pub marks-watched : (c : Choice) (a : Tag) (t : Shape) (ps : List PartAt) → with_marks c a t (watches_of ps) ≡ watches_of (logged (λ q. logged_mark c a q t) ps)
marks-watched c a t [] = refl
marks-watched c a t (p ∷ ps) = ap (λ (ws : List Watch). watch_of (record p { log = p.log ++ logged_mark c a p.path t }) ∷ ws) (marks-watched c a t ps)

pub puts-watched : (n : ℕ) (p : Place) (t : Shape) (ps : List PartAt) → with_puts n p t (watches_of ps) ≡ watches_of (logged (λ q. logged_put n p q t) ps)
puts-watched n p t [] = refl
puts-watched n p t (x ∷ ps) = ap (λ (ws : List Watch). watch_of (record x { log = x.log ++ logged_put n p x.path t }) ∷ ws) (puts-watched n p t ps)

-- where a draft is asked for

pub draft_large : (large next last : ℕ) (ps : List PartAt) (w : Draft) → IsDraft large next last ps w → AreLargeAt large (paths_in w.watches) w.tree
draft_large large next last ps w d =
    let named : paths_in w.watches ≡ paths ps = ap paths_in d.watched ∙ paths-watched ps in
    subst (λ (qs : List (List Side)). AreLargeAt large qs w.tree) (sym named) (each_large large next last w.tree ps d.parts.each)

-- the next number isn't held
pub draft_free : (large next last : ℕ) (ps : List PartAt) (w : Draft) → IsDraft large next last ps w → times next keep_tag w.tree ≡ 0
draft_free large next last ps w d = unheld next w.tree (λ n k. All-contains (λ m. m < next) (numbers w.tree) n d.below k)

-- no more is held than numbers were given
pub draft_few : (large next last : ℕ) (ps : List PartAt) (w : Draft) → IsSound w.tree → IsDraft large next last ps w → length (contents w.tree) ≤ next
draft_few large next last ps w sound d = left_few next w.tree sound (λ n k. All-contains (λ m. m < next) (numbers w.tree) n d.below k)

-- more numbers were given
pub draft_more : (large next more last : ℕ) (ps : List PartAt) (w : Draft) → next ≤ more → IsDraft large next last ps w → IsDraft large more last ps w
draft_more large next more last ps w le d = record {
  watched = d.watched;
  parts = left_lawful large next more last last w.tree w.tree ps ps (left_itself ps) d.parts (each_more large next more last last w.tree ps le (omega arith) d.parts.each);
  balanced = d.balanced;
  below = All-weaker (λ n. n < next) (λ n. n < more) (λ n h. omega (arith, h)) (numbers w.tree) d.below;
}

-- operations that are logged

pub draft_logged : (large next last n : ℕ) (F : List Side → List Op) (w : Draft) (u : Shape) (vs : List Watch)
    (ps : List PartAt) → IsDraft large next last ps w → HaveLogRoomOf n ps → vs ≡ watches_of (logged F ps)
    → All (λ n. n < next) (numbers u)
    → (IsBalancedClear large (paths_in w.watches) w.tree → IsBalancedClear large (paths_in w.watches) u)
    → AreWatched (λ q. IsWatched q w.tree u (F q)) (paths_in w.watches)
    → ((q : List Side) → length (F q) ≤ n) → ((q : List Side) → All (λ m. m < next) (numbers_put (F q))) → IsDraftLeft large next last ps (record { tree = u; watches = vs })
draft_logged large next last n F w u vs ps d room is below balanced watched few puts =
    let named : paths_in w.watches ≡ paths ps = ap paths_in d.watched ∙ paths-watched ps in
    let seen : AreWatched (λ q. IsWatched q w.tree u (F q)) (paths ps) = subst (AreWatched (λ q. IsWatched q w.tree u (F q))) named watched in
    let each = each_logged large next next last n F w.tree u ps d.parts.each seen room few (omega arith) puts in
    let outside : IsBalancedClear large (paths ps) u =
    subst (λ (qs : List (List Side)). IsBalancedClear large qs u) named
    (balanced (subst (λ (qs : List (List Side)). IsBalancedClear large qs w.tree) (sym named) d.balanced)) in (
      logged F ps,
      left_logged F ps,
      record {
        watched = is;
        parts = left_lawful large next next last last w.tree u ps (logged F ps) (left_logged F ps) d.parts each;
        balanced = subst (λ (qs : List (List Side)). IsBalancedClear large qs u) (sym (paths-logged F ps)) outside;
        below = below;
      },
    )

-- an action in a box
pub draft_marked : (large next last : ℕ) (c : Choice) (a : Tag) (w : Draft) (u : Shape) (vs : List Watch)
    (ps : List PartAt) → IsDraft large next last ps w → HaveRoom w.watches → vs ≡ with_marks c a w.tree w.watches
    → AreAmong (numbers u) (numbers w.tree) → (IsBalancedClear large (paths_in w.watches) w.tree → IsBalancedClear large (paths_in w.watches) u)
    → AreWatched (λ q. IsWatched q w.tree u (logged_mark c a q w.tree)) (paths_in w.watches) → IsDraftLeft large next last ps (record { tree = u; watches = vs })
draft_marked large next last c a w u vs ps d room is among balanced watched =
    draft_logged large next last 2 (λ q. logged_mark c a q w.tree) w u vs ps d
    (room_of_two ps (room_watched ps (subst HaveRoom d.watched room)))
    (is ∙ ap (with_marks c a w.tree) d.watched ∙ marks-watched c a w.tree ps)
    (among_below next (numbers u) (numbers w.tree) among d.below) balanced watched
    (λ q. logged_mark_few c a q w.tree) (λ q. subst (All (λ n. n < next)) (sym (mark_puts c a q w.tree)) (All-nil (λ n. n < next)))

below_put : (next n : ℕ) (ns ms : List ℕ) → n < next → AreAmong ns (n ∷ ms) → All (λ m. m < next) ms → All (λ m. m < next) ns
below_put next n ns ms less among below = among_below next ns (n ∷ ms) among (All-cons (λ m. m < next) n ms less below)

-- a point
pub draft_put : (large next last n : ℕ) (p : Place) (w : Draft) (u : Shape) (vs : List Watch) (ps : List PartAt)
    → n < next → IsDraft large next last ps w → HaveRoom w.watches → vs ≡ with_puts n p w.tree w.watches
    → AreAmong (numbers u) (n ∷ numbers w.tree) → (IsBalancedClear large (paths_in w.watches) w.tree → IsBalancedClear large (paths_in w.watches) u)
    → AreWatched (λ q. IsWatched q w.tree u (logged_put n p q w.tree)) (paths_in w.watches) → IsDraftLeft large next last ps (record { tree = u; watches = vs })
draft_put large next last n p w u vs ps less d room is among balanced watched =
    draft_logged large next last 2 (λ q. logged_put n p q w.tree) w u vs ps d
    (room_of_two ps (room_watched ps (subst HaveRoom d.watched room)))
    (is ∙ ap (with_puts n p w.tree) d.watched ∙ puts-watched n p w.tree ps)
    (below_put next n (numbers u) (numbers w.tree) less among d.below) balanced watched
    (λ q. logged_put_few n p q w.tree) (λ q. put_puts (λ m. m < next) n p q w.tree less)

-- what remains of what remains
pub draft_on : (large next last : ℕ) (ps qs : List PartAt) (w : Draft) → AreLeft ps qs → IsDraftLeft large next last qs w → IsDraftLeft large next last ps w
draft_on large next last ps qs w k d = (d.0, left_trans ps qs d.0 k d.1, d.2)

-- nothing more is watched where the whole tree was rebuilt
pub draft_anew : (large next last : ℕ) (w : Draft) (u : Shape) (ps : List PartAt) → IsDraft large next last ps w
    → AreAmong (numbers u) (numbers w.tree) → AllMeetCriteria 10 u
    → IsDraftLeft large next last ps (record { tree = u; watches = [] })
draft_anew large next last w u ps d among criteria = (
  [],
  left_none ps,
  record {
    watched = refl;
    parts = left_lawful large next next last last w.tree u ps [] (left_none ps) d.parts tt;
    balanced = balanced_clear large u (criteria_balanced large u criteria);
    below = among_below next (numbers u) (numbers w.tree) among d.below;
  },
)

-- one watch is taken out

-- the part has this index
pub record IsPartAt (i : ℕ) (ps : List PartAt) : Type 0 where
  pub front : List PartAt
  pub part : PartAt
  pub back : List PartAt
  pub all : ps ≡ front ++ part ∷ back
  pub place : i ≡ length front

part_at : (ps : List PartAt) (i : ℕ) → i < length ps → IsPartAt i ps
part_at [] i k = absurd (omega (arith, k))
part_at (p ∷ ps) zero k = record { front = []; part = p; back = ps; all = refl; place = refl }
part_at (p ∷ ps) (suc i) k =
    let at = part_at ps i (omega (arith, k)) in
    record { front = p ∷ at.front; part = at.part; back = at.back; all = ap (λ (qs : List PartAt). p ∷ qs) at.all; place = omega (arith, at.place) }

taken_part : (front : List PartAt) (p : PartAt) (back : List PartAt) (d : Watch) → get_or (watches_of (front ++ p ∷ back)) (length front) d ≡ watch_of p
taken_part [] p back d = refl
taken_part (q ∷ front) p back d = taken_part front p back d

left_watches : (front : List PartAt) (p : PartAt) (back : List PartAt) → remove (watches_of (front ++ p ∷ back)) (length front) ≡ watches_of (front ++ back)
left_watches [] p back = refl
left_watches (q ∷ front) p back = ap (λ (ws : List Watch). watch_of q ∷ ws) (left_watches front p back)

-- what is known of the others and of the one that is taken out
pub record IsWithout (large : ℕ) (ps : List PartAt) (w : Draft) (gone : Watch) (ws : List Watch) : Type 0 where
  pub front : List PartAt
  pub part : PartAt
  pub back : List PartAt
  pub all : ps ≡ front ++ part ∷ back
  pub left : ws ≡ watches_of (front ++ back)
  pub there : IsLargeAt large gone.path w.tree
  pub others : AreLargeAt large (paths_in ws) w.tree
  pub clear : IsClear gone.path (paths_in ws)
  pub outside : IsBalancedClear large (gone.path ∷ paths_in ws) w.tree

without_at : (large next last : ℕ) (w : Draft) (front : List PartAt) (p : PartAt) (back : List PartAt) (gone : Watch) (ws : List Watch) → IsDraft large next last (front ++ p ∷ back) w
    → gone ≡ watch_of p → ws ≡ watches_of (front ++ back) → IsWithout large (front ++ p ∷ back) w gone ws
without_at large next last w front p back gone ws d is left =
    let named : paths_in ws ≡ paths (front ++ back) = ap paths_in left ∙ paths-watched (front ++ back) in
    let path : gone.path ≡ p.path = ap (λ (v : Watch). v.path) is in
    let here = each_at large next last w.tree front p back d.parts.each in
    record {
      front = front;
      part = p;
      back = back;
      all = refl;
      left = left;
      there = subst (λ (q : List Side). IsLargeAt large q w.tree) (sym path) here.there;
      others =
          subst (λ (qs : List (List Side)). AreLargeAt large qs w.tree) (sym named)
          (each_large large next last w.tree (front ++ back)
          (each_without large next last w.tree front p back d.parts.each));
      clear = subst (λ (q : List Side). IsClear q (paths_in ws)) (sym path) (subst (λ (qs : List (List Side)). IsClear p.path qs) (sym named) (clear_of_others front p back d.parts.apart));
      outside = subst (λ (q : List Side). IsBalancedClear large (q ∷ paths_in ws) w.tree) (sym path)
          (subst (λ (qs : List (List Side)). IsBalancedClear large (p.path ∷ qs) w.tree) (sym named)
          (balanced_more large (paths (front ++ p ∷ back)) (p.path ∷ paths (front ++ back)) w.tree
          (ones_moved front p back) d.balanced));
    }

pub without_of : (large next last : ℕ) (ps : List PartAt) (w : Draft) (i : ℕ) (gone : Watch) (ws : List Watch)
    → IsDraft large next last ps w → i < length w.watches → gone ≡ get_or w.watches i gone → ws ≡ remove w.watches i
    → IsWithout large ps w gone ws
without_of large next last ps w i gone ws d below is left =
    let many : length w.watches ≡ length ps = ap length d.watched ∙ length-map ps watch_of in
    let at = part_at ps i (omega (arith, below, many)) in
    let all : w.watches ≡ watches_of (at.front ++ at.part ∷ at.back) = d.watched ∙ ap watches_of at.all in
    let one : gone ≡ watch_of at.part =
    is ∙ ap (λ (vs : List Watch). get_or vs i gone) all
    ∙ ap (λ (k : ℕ). get_or (watches_of (at.front ++ at.part ∷ at.back)) k gone) at.place
    ∙ taken_part at.front at.part at.back gone in
    let others : ws ≡ watches_of (at.front ++ at.back) =
    left ∙ ap (λ (vs : List Watch). remove vs i) all
    ∙ ap (remove (watches_of (at.front ++ at.part ∷ at.back))) at.place ∙ left_watches at.front at.part at.back in
    subst (λ (qs : List PartAt). IsWithout large qs w gone ws) (sym at.all)
    (without_at large next last w at.front at.part at.back gone ws (subst (λ (qs : List PartAt). IsDraft large next last qs w) at.all d) one others)

-- the others remain, where the subtrees at their paths are unchanged
pub draft_without : (large next last : ℕ) (ps : List PartAt) (w : Draft) (gone : Watch) (ws : List Watch) (u : Shape) → IsDraft large next last ps w → IsWithout large ps w gone ws
    → AreSameAt (paths_in ws) u w.tree → IsBalancedClear large (paths_in ws) u → AreAmong (numbers u) (numbers w.tree) → IsDraftLeft large next last ps (record { tree = u; watches = ws })
draft_without large next last ps w gone ws u d k same balanced among =
    let named : paths_in ws ≡ paths (k.front ++ k.back) = ap paths_in k.left ∙ paths-watched (k.front ++ k.back) in
    let lawful : AreLawfulParts large next last w.tree (k.front ++ k.part ∷ k.back) = subst (λ (qs : List PartAt). AreLawfulParts large next last w.tree qs) k.all d.parts in
    let each = each_same large next next last last w.tree u (k.front ++ k.back) (subst (λ (qs : List (List Side)). AreSameAt qs u w.tree) named same) (omega arith) (omega arith)
    (each_without large next last w.tree k.front k.part k.back lawful.each) in (
      k.front ++ k.back,
      subst (λ (qs : List PartAt). AreLeft qs (k.front ++ k.back)) (sym k.all) (left_without k.front k.part k.back),
      record {
        watched = k.left;
        parts = left_lawful large next next last last w.tree u (k.front ++ k.part ∷ k.back) (k.front ++ k.back) (left_without k.front k.part k.back) lawful each;
        balanced = subst (λ (qs : List (List Side)). IsBalancedClear large qs u) named balanced;
        below = among_below next (numbers u) (numbers w.tree) among d.below;
      },
    )

-- a subtree in place of another

pub at_numbers : (path : List Side) (t s : Shape) → at path t ≡ Some s → AreAmong (numbers s) (numbers t)
at_numbers [] t s e n k = subst (λ (x : Shape). Contains (numbers x) n) (same_Some s t (sym e)) k
at_numbers (side ∷ path) leaf s e n k = absurd cc
at_numbers (Left ∷ path) (fork h l r) s e n k = Contains-append_right (h.item.number ∷ []) (numbers l ++ numbers r) n (Contains-append_left (numbers l) (numbers r) n (at_numbers path l s e n k))
at_numbers (Right ∷ path) (fork h l r) s e n k = Contains-append_right (h.item.number ∷ []) (numbers l ++ numbers r) n (Contains-append_right (numbers l) (numbers r) n (at_numbers path r s e n k))

-- numbers of a tree that a part of it was put into
pub among_part : (new with node old : List ℕ) → AreAmong new (with ++ old) → AreAmong with node → AreAmong node old → AreAmong new old
among_part new with node old f g h n k = elim (Contains-append_cases with old n (f n k)) [ inl u ↦ h n (g n u) | inr v ↦ v ]

-- a subtree of no more levels adds none
pub levels_kept : (path : List Side) (other t s : Shape) → at path t ≡ Some s → levels other ≤ levels s → levels (replaced_at path other t) ≤ levels t
levels_kept [] other t s e k = omega (arith, k, ap levels (same_Some t s e))
levels_kept (side ∷ path) other leaf s e k = omega arith
levels_kept (Left ∷ path) other (fork h l r) s e k = omega (arith, levels_kept path other l s e k)
levels_kept (Right ∷ path) other (fork h l r) s e k = omega (arith, levels_kept path other r s e k)

-- there is room for a subtree that is no larger than the one in whose place it is put
pub no_larger : (path : List Side) (other t s : Shape) → at path t ≡ Some s → levels other ≤ levels s → nodes other ≤ nodes s → levels t ≤ 512 → nodes t ≤ 4194304 → HasRoomAt path other t
no_larger path other t s there lower fewer low few = record {
  low = omega (arith, levels_kept path other t s there lower, low);
  few = omega (arith, replaced_nodes path other t s there, fewer, few);
}
