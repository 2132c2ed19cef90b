use Rattle.std.proofs.Common.{◌≡◌, ◌++◌, List, refl, ap, ◌∙◌, sym, subst, append_assoc}
use Rattle.std.specs.Prelude.{OnErr, Result, Ok, Err}
use Rattle.std.proofs.lemmas.Result.{on_err_weaker}
use Rattle.map_items.specs.declared.item.Item.{Item}
use Rattle.kd_tree.specs.Shape.{Shape}
use Rattle.kd_tree.specs.Walk.{walk}
use Rattle.kd_tree.specs.View.{shape_at, shape_of}
use Rattle.kd_tree.specs.Contents.{AddsFront}
use Rattle.kd_tree.proofs.flatten.+gather_pending.Goals as goal

-- a prefix of the left child, behind the node
front_left : (old own mid new left right : List Item) → mid ≡ old ++ own → AddsFront mid left new → AddsFront old (own ++ (left ++ right)) new
front_left old own mid new left right first k = record {
  front = own ++ k.front;
  rest = k.rest ++ right;
  parts = rw (← k.parts) (simp append_assoc);
  added = k.added ∙ ap (λ (z : List Item). z ++ k.front) first ∙ append_assoc old own k.front;
}

-- a prefix of the right child, behind the node and all of the left child
front_right : (old own mid left next new right : List Item) → mid ≡ old ++ own → next ≡ mid ++ left → AddsFront next right new → AddsFront old (own ++ (left ++ right)) new
front_right old own mid left next new right first second k = record {
  front = own ++ (left ++ k.front);
  rest = k.rest;
  parts = rw (← k.parts) (simp append_assoc);
  added = k.added ∙ ap (λ (z : List Item). z ++ k.front) (second ∙ ap (λ (z : List Item). z ++ left) first) ∙ simp append_assoc;
}

on_err : {T E : Type 0} (r : Result T E) (P : Type 0) → P → OnErr r P
on_err (Ok x) P k = tt
on_err (Err e) P k = k

pub returns-in_err-gather_pending-in-Full-clause-front : goal.returns-in_err-gather_pending-in-Full-clause-front
returns-in_err-gather_pending-in-Full-clause-front t c =
    let shape : shape_of c.tree.inside ≡ shape_at c.in-Full.node.value = rw c.in-Full.is refl in
    let F : Shape → Type 0 = λ s. AddsFront c.args.items.now.items (walk c.args.pending s) c.gather_pending.new.items.items in
    let own = rw (c.relabelled.ensures, c.item.ensures, c.deref.ensures) at c.in_ok-push_kept-in-Full.ensures.all in
    let left = rw (c.then-below.ensures.value, c.deref-in-Full.ensures, c.deref-in-Full-2.ensures) at c.in_err-gather_pending-in-Full.ensures.front in
    on_err _ (F c.args.tree.now) (subst F (sym shape ∙ c.tree.view_is) (front_left _ _ _ _ _ _ own left))

pub returns-in_ok-gather_pending-in-Full-clause-front : goal.returns-in_ok-gather_pending-in-Full-clause-front
returns-in_ok-gather_pending-in-Full-clause-front t c =
    let shape : shape_of c.tree.inside ≡ shape_at c.in-Full.node.value = rw c.in-Full.is refl in
    let F : Shape → Type 0 = λ s. AddsFront c.args.items.now.items (walk c.args.pending s) c.gather_pending-in-Full.new.items.items in
    let own = rw (c.relabelled.ensures, c.item.ensures, c.deref.ensures) at c.in_ok-push_kept-in-Full.ensures.all in
    let left = rw (c.then-below.ensures.value, c.deref-in-Full.ensures, c.deref-in-Full-2.ensures) at c.in_ok-gather_pending-in-Full.ensures.all in
    let right = rw (c.then-below.ensures.value, c.deref-in-Full.ensures, c.deref-in-Full-3.ensures) at c.gather_pending-in-Full.ensures.front in
    on_err_weaker c.gather_pending-in-Full.result (λ k. subst F (sym shape ∙ c.tree.view_is) (front_right _ _ _ _ _ _ _ own left k)) right
