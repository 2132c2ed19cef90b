use Rattle.std.proofs.Common.{◌≡◌, ◌+◌, ◌≤◌, ◌++◌, length, ap, ◌∙◌, arith, List, sym}
use Rattle.node_labels.specs.declared.label.Label.TheVariants.{Live, Suspended}
use Rattle.point_geom.specs.Place.{Place}
use Rattle.map_items.specs.declared.item.Item.{Item}
use Rattle.map_items.specs.Contents.{live_items}
use Rattle.kd_tree.specs.Shape.{Shape, nodes}
use Rattle.kd_tree.specs.Contents.{contents}
use Rattle.kd_tree.proofs.Held.{contents_few}
use Rattle.map_renewal.specs.Renewed.{numbered_as, points_of, points_with, renewed_items, suspended_items}
use Rattle.map_renewal.proofs.Thrice.{both_lengths, live_points, renewed_of, suspended_points}
use Rattle.map_renewal.proofs.renewing.renewed.Goals as goal

-- the points of both kinds, where the list that was gone through is of this tree's items
record AreBoth (t : Shape) (ps qs : List Place) : Type 0 where
  hid : ps ≡ points_of (suspended_items (contents t))
  seen : qs ≡ points_of (live_items (contents t))

both_of : (t v : Shape) (fs i j : List Item) (ps qs : List Place) → ps ≡ points_with Suspended i → qs ≡ points_with Live j → i ≡ fs → j ≡ fs → fs ≡ contents v → v ≡ t → AreBoth t ps qs
both_of t v fs i j ps qs p q e f g h = record {
  hid = p ∙ ap (points_with Suspended) (e ∙ g ∙ ap contents h);
  seen = q ∙ ap (points_with Live) (f ∙ g ∙ ap contents h);
}

lengths : (t : Shape) (ps qs : List Place) → AreBoth t ps qs → length ps + length qs ≡ length (contents t)
lengths t ps qs k = omega (arith, ap length k.hid, ap length k.seen, both_lengths t)

items : (t : Shape) (ps qs : List Place) → AreBoth t ps qs → numbered_as Suspended 0 ps ++ numbered_as Live (length ps) qs ≡ renewed_items (contents t)
items t ps qs k = rw (k.hid, k.seen) (renewed_of (contents t))

pub of_points-requires : goal.of_points-requires
of_points-requires c =
    let t = c.args.version.now.tree in
    let k =
    both_of t _ _ _ _ _ _ (c.as_slice-3.ensures ∙ c.in_ok-suspended.ensures)
    (c.as_slice-4.ensures ∙ c.in_ok-live.ensures) c.as_slice.ensures c.as_slice-2.ensures c.in_ok-items.ensures
    c.tree-2.ensures in
    let small : nodes c.tree.result.now ≤ 4194304 = omega (arith, c.size-size.ensures.value, c.size-size.ensures.few) in
    let same : nodes t ≡ nodes c.tree.result.now = ap nodes (sym c.tree.ensures) in
    record { few = omega (arith, lengths t _ _ k, contents_few t, small, same) }

pub returns : goal.returns
returns c =
    let t = c.args.version.now.tree in
    let k =
    both_of t _ _ _ _ _ _ (c.as_slice-3.ensures ∙ c.in_ok-suspended.ensures)
    (c.as_slice-4.ensures ∙ c.in_ok-live.ensures) c.as_slice.ensures c.as_slice-2.ensures c.in_ok-items.ensures
    c.tree-2.ensures in
    let held = c.in_ok-state.ensures.held ∙ items t _ _ k in
    record {
      held = held;
      next = c.in_ok-state.ensures.next ∙ lengths t _ _ k;
      settings = c.in_ok-state.ensures.settings;
      short = c.in_ok-state.ensures.short;
      live = ap (λ (m : List Item). points_of (live_items m)) held ∙ live_points (contents t);
      suspended = ap (λ (m : List Item). points_of (suspended_items m)) held ∙ suspended_points (contents t);
    }
