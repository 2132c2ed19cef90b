-- What remains in a subtree: where it is, and how much of it is live.
use Rattle.std.proofs.Common.{◌≡◌, arith, List, [], ◌∷◌, ◌++◌, length, refl, sym, Option, Some, None}
use Rattle.std.specs.Prelude.{IfSome, ◌≤◌}
use Rattle.std.proofs.lemmas.List.Elements.{All-head, All-tail, filter-append}
use Rattle.point_geom.specs.Place.{Span}
use Rattle.point_geom.specs.Extents.{IsIn}
use Rattle.node_labels.specs.Labels.{is_live}
use Rattle.node_labels.specs.declared.label.Label.{Label}
use Rattle.node_labels.specs.declared.label.Label.TheVariants.{Live, Suspended, Dropped}
use Rattle.node_labels.specs.declared.tag.Tag.{Tag}
use Rattle.map_items.specs.declared.item.Item.{Item}
use Rattle.map_items.specs.Contents.{kept, live_items}
use Rattle.kd_tree.specs.Shape.{Shape, nodes}
use Rattle.kd_tree.specs.Walk.{walk, extent}
use Rattle.kd_tree.proofs.Actions.{tally_total}
use Rattle.kd_tree.proofs.Extents.{extent_fits, walk_in}
use Rattle.kd_tree.proofs.Held.{walk_live}
use Rattle.kd_search.specs.Points.{AreIn}

pub first_in : (e : Span) (x : Item) (xs : List Item) → AreIn e (x ∷ xs) → IsIn e x.point
first_in e x xs h = All-head (λ (i : Item). IsIn e i.point) x xs h

pub rest_in : (e : Span) (x : Item) (xs : List Item) → AreIn e (x ∷ xs) → AreIn e xs
rest_in e x xs h = All-tail (λ (i : Item). IsIn e i.point) x xs h

-- what remains is in the box of all nodes
pub walk_in_extent : (o : Option Span) (a : Tag) (t : Shape) → o ≡ extent t → IfSome o (λ e. AreIn e (walk a t))
walk_in_extent None a t h = tt
walk_in_extent (Some e) a t h = walk_in a t e (extent_fits t e (sym h))

-- no more are live than there are nodes
pub live_few : (a : Tag) (t : Shape) → length (live_items (walk a t)) ≤ nodes t
live_few a t = omega (arith, walk_live a t, tally_total a t)

-- what is dropped isn't live
pub live-kept : (i : Item) → live_items (kept (i ∷ [])) ≡ live_items (i ∷ [])
live-kept i = own i.label
  where
    own : (x : Label) → live_items (kept (record i { label = x } ∷ [])) ≡ live_items (record i { label = x } ∷ [])
    own Live = refl
    own Suspended = refl
    own Dropped = refl

pub live-append : (xs ys : List Item) → live_items (xs ++ ys) ≡ live_items xs ++ live_items ys
live-append xs ys = filter-append (λ i. is_live i.label) xs ys
