-- When items and operations are the same.
use Rattle.std.proofs.Common.{◌≡◌, ℕ, Bool, Option, Some, None, refl, ap, ◌∙◌}
use Rattle.std.specs.Bool.{Decides}
use Rattle.std.specs.Option.{option_eq}
use Rattle.std.specs.Cmp.Derive.{both_true}
use Rattle.std.proofs.lemmas.Bool.{and_parts}
use Rattle.std.proofs.lemmas.Bool.Decides.{Decides-eqb}
use Rattle.point_geom.specs.Place.{Place}
use Rattle.point_geom.proofs.Same.{bounds_Decides, place_Decides}
use Rattle.node_labels.specs.declared.tag.Tag.{Tag}
use Rattle.node_labels.proofs.Same.{label_Decides, tag_Decides}
use Rattle.map_items.specs.declared.item.Item.{Item}
use Rattle.map_items.specs.declared.choice.Choice.{Choice}
use Rattle.map_items.specs.declared.op.Op.{Op}
use Rattle.map_items.specs.declared.op.Op.TheVariants.{Mark, Put}
use Rattle.map_items.specs.contracts.item.ItemPartialEq.TheImpl as item
use Rattle.map_items.specs.contracts.choice.ChoicePartialEq.TheImpl as choice
use Rattle.map_items.specs.contracts.op.OpPartialEq.TheImpl as op

-- items are the same where `==` says so
pub item_Decides : (a b : Item) → Decides (item.eq-value.it a b) (a ≡ b)
item_Decides a b =
    let p = place_Decides a.point b.point in
    let n = Decides-eqb a.number b.number in
    let l = label_Decides a.label b.label in (
      (λ e.
          let q = and_parts _ _ e in
          let r = and_parts _ _ q.1 in
          let g = p.0 q.0 in
          let f = n.0 r.0 in
          let h = l.0 r.1 in
          λ i. record { point = g i; number = f i; label = h i }),
      λ e. both_true (p.1 (ap (λ (i : Item). i.point) e)) (both_true (n.1 (ap (λ (i : Item). i.number) e)) (l.1 (ap (λ (i : Item). i.label) e))),
    )

-- so it is with an option where it is with what is in it
options_Decides : {X : Type 0} (E : X → X → Bool) → ((x y : X) → Decides (E x y) (x ≡ y)) → (a b : Option X) → Decides (option_eq E a b) (a ≡ b)
options_Decides E k None None = ((λ e. refl), λ e. refl)
options_Decides E k None (Some y) = ((λ e. absurd (cc)), λ e. absurd (cc))
options_Decides E k (Some x) None = ((λ e. absurd (cc)), λ e. absurd (cc))
options_Decides E k (Some x) (Some y) = ((λ e. ap Some ((k x y).0 e)), λ e. (k x y).1 (let f : x ≡ y = cc in f))

-- choices are the same where `==` says so
pub choice_Decides : (a b : Choice) → Decides (choice.eq-value.it a b) (a ≡ b)
choice_Decides a b =
    let w = options_Decides _ bounds_Decides a.within b.within in
    let n = options_Decides _ Decides-eqb a.below b.below in (
      (λ e.
          let q = and_parts _ _ e in
          let f = w.0 q.0 in
          let g = n.0 q.1 in
          λ i. record { within = f i; below = g i }),
      λ e. both_true (w.1 (ap (λ (c : Choice). c.within) e)) (n.1 (ap (λ (c : Choice). c.below) e)),
    )

the_choice : Choice → Op → Choice
the_choice c (Mark choice a) = choice
the_choice c (Put n p) = c

the_tag : Tag → Op → Tag
the_tag t (Mark choice a) = a
the_tag t (Put n p) = t

the_number : Op → ℕ
the_number (Mark choice a) = 0
the_number (Put n p) = n

the_point : Place → Op → Place
the_point q (Mark choice a) = q
the_point q (Put n p) = p

-- operations are the same where `==` says so
pub op_Decides : (a b : Op) → Decides (op.eq-value.it a b) (a ≡ b)
unfolding the_tag the_choice the_number the_point
op_Decides (Mark c t) (Mark d u) =
    let x = choice_Decides c d in
    let y = tag_Decides t u in (
      (λ e. let p = and_parts _ _ e in ap (λ b. Mark b t) (x.0 p.0) ∙ ap (Mark d) (y.0 p.1)),
      λ e. both_true (x.1 (ap (the_choice c) e)) (y.1 (ap (the_tag t) e)),
    )
op_Decides (Mark w t) (Put n p) = ((λ e. absurd (cc)), λ e. absurd (cc))
op_Decides (Put n p) (Mark w t) = ((λ e. absurd (cc)), λ e. absurd (cc))
op_Decides (Put n p) (Put m q) =
    let x = Decides-eqb n m in
    let y = place_Decides p q in (
      (λ e. let r = and_parts _ _ e in ap (λ k. Put k p) (x.0 r.0) ∙ ap (Put m) (y.0 r.1)),
      λ e. both_true (x.1 (ap the_number e)) (y.1 (ap (the_point p) e)),
    )
