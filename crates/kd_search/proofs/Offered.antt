-- Hits put in order one after the other: in which order they come doesn't matter.
use Rattle.std.proofs.Common.{◌≡◌, ℕ, ◌⊎◌, inl, inr, true, false, cond, List, [], ◌∷◌, ◌++◌, take, map, refl, sym, ap, ◌∙◌}
use Rattle.std.specs.Prelude.{filter, nat_lt}
use Rattle.std.specs.declared.option.Option.{Option}
use Rattle.std.proofs.lemmas.Bool.{cases_Bool, false_from_ne_true}
use Rattle.std.proofs.lemmas.List.{map-append}
use Rattle.std.proofs.lemmas.List.Elements.{filter-append}
use Rattle.point_geom.specs.Place.{Place}
use Rattle.map_fold.specs.declared.hits.Hit.{Hit}
use Rattle.map_items.specs.declared.item.Item.{Item}
use Rattle.map_items.specs.Contents.{kept, live_items, Member}
use Rattle.map_fold.specs.Answers.{is_nearer, put_hit, in_order, hit_of, is_within, candidates}
use Rattle.map_fold.proofs.Order.{nearer_not_back, nearer_chain, nearer_either}
use Rattle.map_fold.proofs.Ranking.{put_hit-take}
use Rattle.map_fold.proofs.FirstOnes.{put_hit_by, put_hit_front}
use Rattle.kd_tree.specs.Contents.{AreDistinct, insert_item, by_number}
use Rattle.kd_tree.proofs.Numbered.{Apart, apart_once, numbered_from}
use Rattle.kd_search.specs.Nearest.{put_all}
use Rattle.kd_search.specs.Sides.{IsEitherWay}
use Rattle.kd_search.proofs.Inserted.{take-take}
use Rattle.kd_search.proofs.Others.{AreApart, HitsApart, candidates_apart, live_in, three_of}
use Rattle.kd_search.proofs.Walks.{live-kept, live-append}

not_back : (a b : Hit) → is_nearer a b ≡ true → is_nearer b a ≡ false
not_back a b e = false_from_ne_true _ (λ f. nearer_not_back a b e f)

-- of two hits the nearer one may be put in first
nearer_first : (a b : Hit) (xs : List Hit) → is_nearer a b ≡ true → put_hit a (put_hit b xs) ≡ put_hit b (put_hit a xs)
nearer_first a b [] e = put_hit_front a b [] (not_back a b e) ∙ sym (put_hit_by b a [] e)
nearer_first a b (x ∷ xs) e = elim (cases_Bool (is_nearer x a)) [
  | inl xa ↦
      let xb : is_nearer x b ≡ true = nearer_chain x a b xa e in
      ap (put_hit a) (put_hit_by b x xs xb) ∙ put_hit_by a x (put_hit b xs) xa ∙ ap (λ ys. x ∷ ys) (nearer_first a b xs e)
      ∙ sym (put_hit_by b x (put_hit a xs) xb) ∙ ap (put_hit b) (sym (put_hit_by a x xs xa))
  | inr xa ↦ sym (ap (put_hit b) (put_hit_front a x xs xa) ∙ put_hit_by b a (x ∷ xs) e ∙ sym (later (cases_Bool (is_nearer x b)) xa))
]
  where
    later : (is_nearer x b ≡ true) ⊎ (is_nearer x b ≡ false) → is_nearer x a ≡ false → put_hit a (put_hit b (x ∷ xs)) ≡ a ∷ put_hit b (x ∷ xs)
    later (inl xb) xa = ap (put_hit a) (put_hit_by b x xs xb) ∙ put_hit_front a x (put_hit b xs) xa ∙ ap (λ ys. a ∷ ys) (sym (put_hit_by b x xs xb))
    later (inr xb) xa = ap (put_hit a) (put_hit_front b x xs xb) ∙ put_hit_front a b (x ∷ xs) (not_back a b e) ∙ ap (λ ys. a ∷ ys) (sym (put_hit_front b x xs xb))

-- either of two hits with different numbers may be put in first
pub put_hit-put_hit : (a b : Hit) (xs : List Hit) → (a.number ≡ b.number → ⊥) → put_hit a (put_hit b xs) ≡ put_hit b (put_hit a xs)
put_hit-put_hit a b xs other = elim (nearer_either a b) [
  | inl same ↦ absurd (other same)
  | inr either ↦ elim either [ inl e ↦ nearer_first a b xs e | inr e ↦ sym (nearer_first b a xs e) ]
]

put_all-put_hit : (found : List Hit) (h : Hit) (hits : List Hit) → ((g : Hit) → Member g found → g.number ≡ h.number → ⊥) → put_all found (put_hit h hits) ≡ put_hit h (put_all found hits)
put_all-put_hit [] h hits k = refl
put_all-put_hit (g ∷ found) h hits k = ap (put_hit g) (put_all-put_hit found h hits (λ f m. k f (inr m))) ∙ put_hit-put_hit g h (put_all found hits) (k g (inl refl))

-- so may either of two lists
pub put_all-put_all : (xs ys hits : List Hit) → HitsApart xs ys → put_all xs (put_all ys hits) ≡ put_all ys (put_all xs hits)
put_all-put_all [] ys hits k = refl
put_all-put_all (x ∷ xs) ys hits k =
    ap (put_hit x) (put_all-put_all xs ys hits (λ g h m. k g h (inr m)))
    ∙ sym (put_all-put_hit ys x (put_all xs hits) (λ h m e. k x h (inl refl) m (sym e)))

pub put_all-append : (xs ys hits : List Hit) → put_all (xs ++ ys) hits ≡ put_all xs (put_all ys hits)
put_all-append [] ys hits = refl
put_all-append (x ∷ xs) ys hits = ap (put_hit x) (put_all-append xs ys hits)

-- what is beyond the first k never comes among them
pub put_all-take : (k : ℕ) (found hits : List Hit) → take k (put_all found (take k hits)) ≡ take k (put_all found hits)
put_all-take k [] hits = take-take k hits
put_all-take k (h ∷ found) hits =
    sym (put_hit-take k h (put_all found (take k hits)))
    ∙ ap (λ z. take k (put_hit h z)) (put_all-take k found hits)
    ∙ put_hit-take k h (put_all found hits)

-- put into nothing, they are in order
pub put_all-nil : (found : List Hit) → put_all found [] ≡ in_order found
put_all-nil [] = refl
put_all-nil (h ∷ found) = ap (put_hit h) (put_all-nil found)

pub candidates-append : (q : Place) (r : Option ℕ) (xs ys : List Item) → candidates (xs ++ ys) q r ≡ candidates xs q r ++ candidates ys q r
candidates-append q r xs ys =
    ap (λ z. filter (is_within r) (map (hit_of q) z)) (live-append xs ys)
    ∙ ap (filter (is_within r)) (map-append (hit_of q) (live_items xs) (live_items ys))
    ∙ filter-append (is_within r) (map (hit_of q) (live_items xs)) (map (hit_of q) (live_items ys))

-- a node's candidate and those of its children
pub candidates-top : (q : Place) (r : Option ℕ) (i : Item) (left right : List Item)
    → candidates (kept (i ∷ []) ++ (left ++ right)) q r
    ≡ candidates (i ∷ []) q r ++ (candidates left q r ++ candidates right q r)
candidates-top q r i left right =
    candidates-append q r (kept (i ∷ [])) (left ++ right)
    ∙ ap (λ z. filter (is_within r) (map (hit_of q) z) ++ candidates (left ++ right) q r) (live-kept i)
    ∙ ap (λ z. candidates (i ∷ []) q r ++ z) (candidates-append q r left right)

-- the candidates of one more item
in_order-cons : (q : Place) (r : Option ℕ) (i : Item) (m : List Item) → in_order (candidates (i ∷ m) q r) ≡ put_all (candidates (i ∷ []) q r) (in_order (candidates m q r))
in_order-cons q r i m =
    ap in_order (candidates-append q r (i ∷ []) m) ∙ sym (put_all-nil (candidates (i ∷ []) q r ++ candidates m q r))
    ∙ put_all-append (candidates (i ∷ []) q r) (candidates m q r) [] ∙ ap (put_all (candidates (i ∷ []) q r)) (put_all-nil (candidates m q r))

in_order-insert : (q : Place) (r : Option ℕ) (i : Item) (m : List Item)
    → ((z : Item) → Member z m → z.number ≡ i.number → ⊥)
    → in_order (candidates (insert_item i m) q r) ≡ in_order (candidates (i ∷ m) q r)
in_order-insert q r i [] k = refl
in_order-insert q r i (j ∷ m) k =
    elim (nat_lt i.number j.number) as (λ b. in_order (candidates (cond b (i ∷ j ∷ m) (j ∷ insert_item i m)) q r) ≡ in_order (candidates (i ∷ j ∷ m) q r)) [
      | true ↦ refl
      | false ↦
          let one = candidates (i ∷ []) q r in
          let two = candidates (j ∷ []) q r in
          let apart : HitsApart two one = candidates_apart q r (j ∷ []) (i ∷ []) (λ a b m n e. k j (inl refl) (sym (own j a m) ∙ e ∙ own i b n)) in
          in_order-cons q r j (insert_item i m)
          ∙ ap (put_all two) (in_order-insert q r i m (λ z n. k z (inr n)) ∙ in_order-cons q r i m)
          ∙ put_all-put_all two one (in_order (candidates m q r)) apart
          ∙ ap (put_all one) (sym (in_order-cons q r j m)) ∙ sym (in_order-cons q r i (j ∷ m))
    ]
  where
    own : (i a : Item) → Member a (live_items (i ∷ [])) → a.number ≡ i.number
    own i a m = elim (live_in a (i ∷ []) m) [ inl same ↦ ap (λ (w : Item). w.number) same | inr none ↦ absurd none ]

by_number_apart : (q : Place) (r : Option ℕ) (m : List Item) → Apart m → in_order (candidates (by_number m) q r) ≡ in_order (candidates m q r)
by_number_apart q r [] k = refl
by_number_apart q r (i ∷ m) k =
    in_order-insert q r i (by_number m) (λ z n. k.0 z (numbered_from z m n)) ∙ in_order-cons q r i (by_number m)
    ∙ ap (put_all (candidates (i ∷ []) q r)) (by_number_apart q r m k.1) ∙ sym (in_order-cons q r i m)

-- to put items in order changes no order of hits
pub in_order-by_number : (q : Place) (r : Option ℕ) (m : List Item) → AreDistinct m → in_order (candidates (by_number m) q r) ≡ in_order (candidates m q r)
in_order-by_number q r m k = by_number_apart q r m (apart_once m k)

member_either : (h : Hit) (xs ys : List Hit) → Member h (xs ++ ys) → Member h xs ⊎ Member h ys
member_either h [] ys m = inr m
member_either h (x ∷ xs) ys (inl e) = inl (inl e)
member_either h (x ∷ xs) ys (inr m) = elim (member_either h xs ys m) [ inl l ↦ inl (inr l) | inr r ↦ inr r ]

in_turn : (k : ℕ) (top left right hits one two three : List Hit) → HitsApart top left → HitsApart top right
    → HitsApart right left → one ≡ take k (put_all top hits) → two ≡ take k (put_all left one)
    → three ≡ take k (put_all right two)
    → three ≡ take k (put_all (top ++ (left ++ right)) hits)
in_turn k top left right hits one two three a b d e f g =
    g ∙ ap (λ z. take k (put_all right z)) f ∙ put_all-take k right (put_all left one)
    ∙ ap (λ z. take k (put_all right (put_all left z))) e
    ∙ sym (ap (take k) (put_all-append right left (take k (put_all top hits))))
    ∙ put_all-take k (right ++ left) (put_all top hits)
    ∙ ap (take k) (
    put_all-append right left (put_all top hits) ∙ put_all-put_all right left (put_all top hits) d ∙ sym (put_all-append left right (put_all top hits))
    ∙ sym (put_all-put_all top (left ++ right) hits (λ g h m n. elim (member_either h left right n) [ inl l ↦ a g h m l | inr r ↦ b g h m r ]))
    ∙ sym (put_all-append top (left ++ right) hits)
    )

turned : (top left right hits : List Hit) → HitsApart right left → put_all (top ++ (right ++ left)) hits ≡ put_all (top ++ (left ++ right)) hits
turned top left right hits d =
    put_all-append top (right ++ left) hits
    ∙ ap (put_all top) (put_all-append right left hits ∙ put_all-put_all right left hits d ∙ sym (put_all-append left right hits))
    ∙ sym (put_all-append top (left ++ right) hits)

swapped : (xs ys zs hits : List Hit) → HitsApart xs ys → put_all (xs ++ (ys ++ zs)) hits ≡ put_all (ys ++ (xs ++ zs)) hits
swapped xs ys zs hits d =
    put_all-append xs (ys ++ zs) hits
    ∙ ap (put_all xs) (put_all-append ys zs hits)
    ∙ put_all-put_all xs ys (put_all zs hits) d
    ∙ ap (put_all ys) (sym (put_all-append xs zs hits))
    ∙ sym (put_all-append ys (xs ++ zs) hits)

either_way : (q : Place) (r : Option ℕ) (i : Item) (near far children : List Item) (hits : List Hit) → AreApart near far → IsEitherWay children near far
    → put_all (candidates (i ∷ []) q r ++ (candidates near q r ++ candidates far q r)) hits ≡ put_all (candidates (kept (i ∷ []) ++ children) q r) hits
either_way q r i near far children hits d (inl e) =
    ap (λ z. put_all z hits) (sym (ap (λ m. candidates (kept (i ∷ []) ++ m) q r) e ∙ candidates-top q r i near far))
either_way q r i near far children hits d (inr e) =
    turned (candidates (i ∷ []) q r) (candidates far q r) (candidates near q r) hits (candidates_apart q r near far d)
    ∙ ap (λ z. put_all z hits) (sym (ap (λ m. candidates (kept (i ∷ []) ++ m) q r) e ∙ candidates-top q r i far near))

-- the near child, then a node's item, then the far child
pub near_first : (k : ℕ) (q : Place) (r : Option ℕ) (i : Item) (near far children whole : List Item)
    (hits one two three : List Hit) → AreDistinct whole → whole ≡ kept (i ∷ []) ++ children
    → IsEitherWay children near far
    → one ≡ take k (put_all (candidates near q r) hits) → two ≡ take k (put_all (candidates (i ∷ []) q r) one) → three ≡ take k (put_all (candidates far q r) two)
    → three ≡ take k (put_all (candidates whole q r) hits)
near_first k q r i near far children whole hits one two three distinct all way e f g =
    let d = three_of i near far children whole distinct all way in
    let near_item : HitsApart (candidates near q r) (candidates (i ∷ []) q r) = candidates_apart q r near (i ∷ []) (λ a b m n x. d.item_one b a n m (sym x)) in
    let near_far : HitsApart (candidates near q r) (candidates far q r) = candidates_apart q r near far d.children in
    let far_item : HitsApart (candidates far q r) (candidates (i ∷ []) q r) = candidates_apart q r far (i ∷ []) (λ a b m n x. d.item_other b a n m (sym x)) in
    in_turn k (candidates near q r) (candidates (i ∷ []) q r) (candidates far q r) hits one two three near_item near_far far_item e f g
    ∙ ap (take k) (
    swapped (candidates near q r) (candidates (i ∷ []) q r) (candidates far q r) hits near_item
    ∙ either_way q r i near far children hits d.children way
    ∙ ap (λ m. put_all (candidates m q r) hits) (sym all)
    )
