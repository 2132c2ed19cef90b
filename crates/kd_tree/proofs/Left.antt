-- Facts of the remaining points of a tree.
use Rattle.std.proofs.Common.{List, [], ◌∷◌, ◌++◌, ◌≡◌, true, subst}
use Rattle.std.specs.Prelude.{All}
use Rattle.std.specs.List.{AllByRecursion}
use Rattle.std.proofs.lemmas.Bool.{cond_both, cond-true}
use Rattle.std.proofs.lemmas.List.Elements.{All-nil, All-cons, All-head, All-append, All-from_recursion, recursion_from_All}
use Rattle.point_geom.specs.Place.{Place}
use Rattle.node_labels.specs.Labels.{composed}
use Rattle.node_labels.specs.declared.tag.Tag.{Tag}
use Rattle.map_items.specs.declared.item.Item.{Item}
use Rattle.map_items.specs.Contents.{relabelled, kept}
use Rattle.kd_tree.specs.Shape.{Shape, leaf, fork}
use Rattle.kd_tree.specs.Walk.{is_kept, walk, AllKept}

rec_parts : {X : Type 0} (P : X → Type 0) (xs ys : List X) → AllByRecursion P (xs ++ ys) → AllByRecursion P xs × AllByRecursion P ys
rec_parts P [] ys k = (tt, k)
rec_parts P (x ∷ xs) ys k = let r = rec_parts P xs ys k.1 in ((k.0, r.0), r.1)

all_parts : {X : Type 0} (P : X → Type 0) (xs ys : List X) → All P (xs ++ ys) → All P xs × All P ys
all_parts P xs ys k = let r = rec_parts P xs ys (recursion_from_All P (xs ++ ys) k) in (All-from_recursion P xs r.0, All-from_recursion P ys r.1)

own_all : (F : Item → Type 0) (i : Item) → (is_kept i.label ≡ true → F i) → All F (kept (i ∷ []))
own_all F i k = cond_both (is_kept i.label) (i ∷ []) [] (All F) (λ e. All-cons F i [] (k e) (All-nil F)) (λ e. All-nil F)

own_of : (F : Item → Type 0) (i : Item) → All F (kept (i ∷ [])) → is_kept i.label ≡ true → F i
own_of F i k e = All-head F i [] (subst (All F) (cond-true (is_kept i.label) (i ∷ []) [] e) k)

-- a fact of the remaining points is one of the walk
pub all_left : (P : Place → Type 0) (a : Tag) (t : Shape) → AllKept P a t → All (λ i. P i.point) (walk a t)
all_left P a leaf k = All-nil (λ (i : Item). P i.point)
all_left P a (fork h l r) k =
    let F : Item → Type 0 = λ i. P i.point in
    All-append F _ _ (own_all F (relabelled a h.item) k.0) (All-append F _ _ (all_left P (composed h.pending a) l k.1) (all_left P (composed h.pending a) r k.2))

-- and a fact of the walk is one of the points
pub left_all : (P : Place → Type 0) (a : Tag) (t : Shape) → All (λ i. P i.point) (walk a t) → AllKept P a t
left_all P a leaf k = tt
left_all P a (fork h l r) k =
    let F : Item → Type 0 = λ i. P i.point in
    let p = all_parts F (kept (relabelled a h.item ∷ [])) (walk (composed h.pending a) l ++ walk (composed h.pending a) r) k in
    let q = all_parts F (walk (composed h.pending a) l) (walk (composed h.pending a) r) p.1 in
    (own_of F (relabelled a h.item) p.0, left_all P (composed h.pending a) l q.0, left_all P (composed h.pending a) r q.1)
