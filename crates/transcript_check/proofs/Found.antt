-- The first of the items that are near.
use Rattle.std.proofs.Common.{◌≡◌, ℕ, suc, ◌-◌, ◌<◌, true, false, List, [], ◌∷◌, ◌++◌, length, length-append, take, refl, append_assoc, arith}
use Rattle.std.specs.Prelude.{filter, ◌&&◌}
use Rattle.point_geom.specs.Place.{Place}
use Rattle.node_labels.specs.Labels.{is_live}
use Rattle.map_items.specs.declared.item.Item.{Item}
use Rattle.map_fold.specs.Neighbours.{is_near}

-- the live items that are near
abbrev pub found_in : Place → ℕ → List Item → List Item
found_in q d items = filter (λ i. is_live i.label && is_near q d i) items

pub found_more : (found : List Item) (most : ℕ) (q : Place) (d : ℕ) (i : Item) (rest : List Item) → length found < most → (is_live i.label && is_near q d i) ≡ true
    → (found ++ i ∷ []) ++ take (most - length (found ++ i ∷ [])) (found_in q d rest) ≡ found ++ take (most - length found) (found_in q d (i ∷ rest))
found_more found most q d i rest room e =
    let here : found_in q d (i ∷ rest) ≡ i ∷ found_in q d rest = rw e refl in
    let left : most - length found ≡ suc (most - length (found ++ i ∷ [])) = omega (arith, length-append found (i ∷ [])) in
    rw (here, left) (append_assoc found (i ∷ []) (take (most - length (found ++ i ∷ [])) (found_in q d rest)))

pub found_passed : (q : Place) (d : ℕ) (i : Item) (rest : List Item) → (is_live i.label && is_near q d i) ≡ false → found_in q d rest ≡ found_in q d (i ∷ rest)
found_passed q d i rest e = rw e refl
