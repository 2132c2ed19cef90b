-- Laws of actions on labels, and of counts.
use Rattle.std.proofs.Common.{◌≡◌, ℕ, ◌+◌, List, [], ◌∷◌, map, refl, ap, ◌∙◌, sym, arith}
use Rattle.node_labels.specs.Labels.{apply, composed, keep_tag}
use Rattle.node_labels.specs.Tallies.{none, counted, added, applied, total, label_counts}
use Rattle.node_labels.specs.declared.label.Label.{Label}
use Rattle.node_labels.specs.declared.label.Label.TheVariants.{Live, Suspended, Dropped}
use Rattle.node_labels.specs.declared.tag.Tag.{Tag}
use Rattle.node_labels.specs.declared.counts.Counts.{Counts}

-- actions that do the same are the same
pub tags_alike : (a b : Tag) → a.live ≡ b.live → a.suspended ≡ b.suspended → a ≡ b
tags_alike a b e f =
    let F : Label → Label → Tag = λ x y. record { live = x; suspended = y } in
    ap (λ x. F x a.suspended) e ∙ ap (λ y. F b.live y) f

-- counts that agree on each label are the same
pub counts_alike : (a b : Counts) → a.live ≡ b.live → a.suspended ≡ b.suspended → a.dropped ≡ b.dropped → a ≡ b
counts_alike a b e f g =
    let F : ℕ → ℕ → ℕ → Counts = λ x y z. record { live = x; suspended = y; dropped = z } in
    ap (λ x. F x a.suspended a.dropped) e ∙ ap (λ y. F b.live y a.dropped) f ∙ ap (λ z. F b.live b.suspended z) g

-- KEEP changes no label
pub apply-keep : (x : Label) → apply keep_tag x ≡ x
apply-keep Live = refl
apply-keep Suspended = refl
apply-keep Dropped = refl

-- a composed action does the first, then the second
pub apply-composed : (a b : Tag) (x : Label) → apply (composed a b) x ≡ apply b (apply a x)
apply-composed a b Live = refl
apply-composed a b Suspended = refl
apply-composed a b Dropped = refl

-- KEEP after an action adds nothing
pub composed-keep_right : (a : Tag) → composed a keep_tag ≡ a
composed-keep_right a = tags_alike _ _ (apply-keep a.live) (apply-keep a.suspended)

-- KEEP before an action adds nothing
pub composed-keep_left : (a : Tag) → composed keep_tag a ≡ a
composed-keep_left a = refl

-- three actions compose in either grouping
pub composed-composed : (a b c : Tag) → composed a (composed b c) ≡ composed (composed a b) c
composed-composed a b c = tags_alike _ _ (apply-composed b c a.live) (apply-composed b c a.suspended)

-- sums of equal counts are equal
pub added_alike : (a b c d : Counts) → a ≡ c → b ≡ d → added a b ≡ added c d
added_alike a b c d e f = ap (λ x. added x b) e ∙ ap (λ y. added c y) f

-- counts add in either grouping
pub added-added : (a b c : Counts) → added a (added b c) ≡ added (added a b) c
added-added a b c = counts_alike _ _ (omega arith) (omega arith) (omega arith)

-- none of a label counts as nothing
pub counted_zero : (x : Label) → counted x 0 ≡ none
counted_zero Live = refl
counted_zero Suspended = refl
counted_zero Dropped = refl

-- as many of one label as two numbers together
pub counted-sum : (x : Label) (m n : ℕ) → counted x (m + n) ≡ added (counted x m) (counted x n)
counted-sum Live m n = refl
counted-sum Suspended m n = refl
counted-sum Dropped m n = refl

-- an action on two sets of nodes acts on each
pub applied-added : (a : Tag) (x y : Counts) → applied a (added x y) ≡ added (applied a x) (applied a y)
applied-added a x y =
    rw (counted-sum a.live x.live y.live, counted-sum a.suspended x.suspended y.suspended)
    (counts_alike _ _ (omega arith) (omega arith) (omega arith))

-- an action on nothing
pub applied-none : (a : Tag) → applied a none ≡ none
applied-none a = rw (counted_zero a.live, counted_zero a.suspended) refl

-- an action on n of one label
pub applied-counted_all : (a : Tag) (x : Label) (n : ℕ) → applied a (counted x n) ≡ counted (apply a x) n
applied-counted_all a Live n = rw (counted_zero a.suspended) (counts_alike _ _ (omega arith) (omega arith) (omega arith))
applied-counted_all a Suspended n = rw (counted_zero a.live) (counts_alike _ _ (omega arith) (omega arith) (omega arith))
applied-counted_all a Dropped n = rw (counted_zero a.live, counted_zero a.suspended) (counts_alike _ _ (omega arith) (omega arith) (omega arith))

-- an action on one node
pub applied-counted : (a : Tag) (x : Label) → applied a (counted x 1) ≡ counted (apply a x) 1
applied-counted a x = applied-counted_all a x 1

-- an action after another, on counts
pub applied-composed : (a b : Tag) (x : Counts) → applied (composed a b) x ≡ applied b (applied a x)
applied-composed a b x =
    let live = applied-counted_all b a.live x.live in
    let suspended = applied-counted_all b a.suspended x.suspended in
    let dropped : applied b (counted Dropped x.dropped) ≡ counted Dropped x.dropped = applied-counted_all b Dropped x.dropped in
    added_alike _ _ _ _ (sym dropped)
    (added_alike _ _ _ _ (sym live) (sym suspended) ∙ sym (applied-added b (counted a.live x.live) (counted a.suspended x.suspended)))
    ∙ sym (applied-added b (counted Dropped x.dropped) (added (counted a.live x.live) (counted a.suspended x.suspended)))

-- KEEP changes no count
pub applied-keep : (x : Counts) → applied keep_tag x ≡ x
applied-keep x = counts_alike _ _ (omega arith) (omega arith) (omega arith)

-- n of one label are n
pub counted_total : (x : Label) (n : ℕ) → total (counted x n) ≡ n
counted_total Live n = omega arith
counted_total Suspended n = omega arith
counted_total Dropped n = omega arith

-- an action changes no total
pub applied_total : (a : Tag) (x : Counts) → total (applied a x) ≡ total x
applied_total a x = omega (arith, counted_total a.live x.live, counted_total a.suspended x.suspended)

-- the total of two counts
pub added_total : (x y : Counts) → total (added x y) ≡ total x + total y
added_total x y = omega arith

-- the counts after an action are those of the labels after it
pub tally-map : (a : Tag) (xs : List Label) → label_counts (map (apply a) xs) ≡ applied a (label_counts xs)
tally-map a [] = sym (applied-none a)
tally-map a (x ∷ xs) =
    added_alike _ _ _ _ (sym (applied-counted a x)) (tally-map a xs) ∙ sym (applied-added a (counted x 1) (label_counts xs))

-- where counts are those of labels, so are the counts after an action
pub applied_tally : (a : Tag) (c : Counts) (xs : List Label) → c ≡ label_counts xs → applied a c ≡ label_counts (map (apply a) xs)
applied_tally a c xs e = ap (λ z. applied a z) e ∙ sym (tally-map a xs)
